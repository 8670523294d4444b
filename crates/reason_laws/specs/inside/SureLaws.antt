-- What the sure order is worth, by its definition alone: each statement is the contract of a
-- function of src/sure_laws.rt that does nothing.
use Rattle.std.specs.Prelude.{◌≡◌, ◌≢◌, ℕ, IsTrue, List}
use Rattle.std.specs.declared.cmp.Ordering.{Ordering}
use Rattle.std.specs.declared.cmp.Ordering.TheVariants.{Less, Equal, Greater}
use Rattle.league_core.specs.declared.sheet.Sheet.{Sheet}
use Rattle.league_core.specs.declared.sure.Sure.{Sure}
use Rattle.league_core.specs.declared.sure.Sure.TheVariants.{Above, Below, Level, Unknown}
use Rattle.league_core.specs.declared.zone.Literal.{Literal}
use Rattle.league_core.specs.game.Results.{Results}
use Rattle.league_core.specs.laws.Laws.{RanksBefore}
use Rattle.league_core.specs.inside.LotsFor.{order_without_lots}
use Rattle.league_core.specs.search.Options.{is_single, IsInBox}
use Rattle.league_core.specs.search.SureOrder.{sure_order}
use Rattle.league_core.specs.search.Splits.{are_outcomes_fixed}

-- a rival that is surely above the club ranks before it at each finish in the box, with all lots
abbrev pub SurelyAboveRanksBefore : Type 0
SurelyAboveRanksBefore =
    (sheet : Sheet) (season : Results) (zone : List Literal) (finish : Results) (rival club : ℕ)
    → IsTrue (are_outcomes_fixed sheet season zone) → IsInBox sheet season zone finish
    → sure_order sheet season zone rival club ≡ Above
    → (lots : List ℕ) → RanksBefore sheet finish lots rival club

-- a rival that is surely below the club ranks behind it: the club ranks before it
abbrev pub SurelyBelowRanksBehind : Type 0
SurelyBelowRanksBehind =
    (sheet : Sheet) (season : Results) (zone : List Literal) (finish : Results) (rival club : ℕ)
    → IsTrue (are_outcomes_fixed sheet season zone) → IsInBox sheet season zone finish
    → sure_order sheet season zone rival club ≡ Below
    → (lots : List ℕ) → RanksBefore sheet finish lots club rival

-- of two clubs that are surely level neither is ahead by points or criteria: the lots decide
abbrev pub SurelyLevelIsLeftToLots : Type 0
SurelyLevelIsLeftToLots =
    (sheet : Sheet) (season : Results) (zone : List Literal) (finish : Results) (rival club : ℕ)
    → IsTrue (are_outcomes_fixed sheet season zone) → IsInBox sheet season zone finish
    → sure_order sheet season zone rival club ≡ Level
    → order_without_lots sheet finish rival club ≡ Equal

-- how a rival that compares so with the club surely stands against it
abbrev pub sure_of : Ordering → Sure
sure_of Less = Above
sure_of Equal = Level
sure_of Greater = Below

-- if each fixture has one option it is always known how two clubs stand
abbrev pub SingleZonesAreClear : Type 0
SingleZonesAreClear =
    (sheet : Sheet) (season : Results) (zone : List Literal) (rival club : ℕ)
    → IsTrue (is_single sheet season zone) → sure_order sheet season zone rival club ≢ Unknown

-- and it is as the ranking has it, before the lots are looked at
abbrev pub SingleZonesAreRanked : Type 0
SingleZonesAreRanked =
    (sheet : Sheet) (season : Results) (zone : List Literal) (finish : Results) (rival club : ℕ)
    → IsTrue (is_single sheet season zone) → IsInBox sheet season zone finish
    → sure_order sheet season zone rival club ≡ sure_of (order_without_lots sheet finish rival club)
