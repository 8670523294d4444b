-- The sure order is the ranking's wherever it decides: at each finish of a zone in which the
-- options of each fixture have one outcome, whatever the lots.
use Rattle.std.proofs.Common.{◌≡◌, ◌≢◌, ℕ, Bool, true, false, ◌&&◌, cond, List, [], ◌∷◌}
use Rattle.std.proofs.Common.{Ordering, Less, Equal, is_eq, is_lt, nat_cmp, refl, sym, ap, ◌∙◌}
use Rattle.std.proofs.Common.{subst, arith}
use Rattle.std.specs.Prelude.{int_lt}
use Rattle.std.specs.Ordering.{int_eq, ordering_reverse, ordering_then}
use Rattle.std.proofs.lemmas.Int.{ints}
use Rattle.std.proofs.lemmas.Bool.{and_from, false≢true}
use Rattle.std.proofs.lemmas.Bool.Decides.{Decides-int_eq}
use Rattle.std.proofs.lemmas.Cmp.{int_eq_equiv}
use Rattle.std.proofs.lemmas.List.Elements.{filter_agree}
use Rattle.league_core.specs.declared.sheet.Sheet.{Sheet}
use Rattle.league_core.specs.declared.sure.Sure.{Sure}
use Rattle.league_core.specs.declared.sure.Sure.TheVariants.{Above, Below, Level, Unknown}
use Rattle.league_core.specs.declared.zone.Literal.{Literal}
use Rattle.league_core.specs.game.Results.{Results}
use Rattle.league_core.specs.game.Sheets.{clubs_of}
use Rattle.league_core.specs.game.Sums.{points_of}
use Rattle.league_core.specs.game.HeadToHead.{greater_first}
use Rattle.league_core.specs.game.Ahead.{standing_in}
use Rattle.league_core.specs.game.Ranking.{tied_group_of, lot_of, ranks_before}
use Rattle.league_core.specs.inside.LotsFor.{order_without_lots}
use Rattle.league_core.specs.search.Options.{options_in, has_one_outcome, IsInBox}
use Rattle.league_core.specs.search.PointRanges.{Range, points_together, points_range}
use Rattle.league_core.specs.search.PointRanges.{least_points_of, most_points_of}
use Rattle.league_core.specs.search.SureOrder.{has_one_value, sure_by_range, sure_by, is_level}
use Rattle.league_core.specs.search.SureOrder.{sure_by_points, level_on_points, sure_order}
use Rattle.league_core.proofs.RankingLemmas.{tied_group_of-tied, order_without_lots_total}
use Rattle.league_core.proofs.RankingLemmas.{order_of-lots}
use Rattle.league_core.specs.search.Splits.{are_outcomes_fixed}
use Rattle.reason_laws.proofs.MemberLemmas.{points_in_box}
use Rattle.reason_laws.proofs.FixedLemmas.{range_from-alike, points_alike}
use Rattle.reason_laws.proofs.RangeOrderLemmas.{Agrees, IsInRange, then_agrees, range_agrees}
use Rattle.reason_laws.proofs.SureOverallLemmas.{by_agrees}

-- a club's points at a finish in the box are in their range
pub points_in_range : (sheet : Sheet) (season : Results) (zone : List Literal) (finish : Results)
    (club : ℕ) → IsInBox sheet season zone finish
    → IsInRange (points_range sheet season (options_in sheet season zone) (club ∷ []))
    (points_of sheet finish club)
unfolding least_points_of most_points_of
points_in_range sheet season zone finish club box =
    let bounds = points_in_box sheet season zone finish (club ∷ []) box in
    (omega (arith, ints), omega (arith, ints))

-- if outcomes are fixed, the range has one value
pub points_fixed : (sheet : Sheet) (season : Results) (zone : List Literal) (club : ℕ)
    → are_outcomes_fixed sheet season zone ≡ true
    → has_one_value (points_range sheet season (options_in sheet season zone) (club ∷ [])) ≡ true
points_fixed sheet season zone club fixed =
    let value = points_together (club ∷ []) in
    let range = points_range sheet season (options_in sheet season zone) (club ∷ []) in
    let one = range_from-alike value has_one_outcome sheet.fixtures (options_in sheet season zone)
    (points_alike club) fixed in
    (Decides-int_eq range.least range.greatest).1 (omega (arith, ints))

-- two ranges of one value each always say how these compare
pub range_clear : (rival club : Range) → has_one_value rival ≡ true → has_one_value club ≡ true
    → sure_by_range rival club ≢ Unknown
range_clear rival club one other =
    by_tests (int_lt club.greatest rival.least) (int_lt rival.greatest club.least)
    (has_one_value rival && has_one_value club)
    (and_from (has_one_value rival) (has_one_value club) one other)
  where
    by_tests : (above below level : Bool) → level ≡ true
        → cond above Above (cond below Below (cond level Level Unknown)) ≡ Unknown → ⊥
    by_tests true below level is unknown = let e : Above ≡ Unknown = unknown in cc
    by_tests false true level is unknown = let e : Below ≡ Unknown = unknown in cc
    by_tests false false true is unknown = let e : Level ≡ Unknown = unknown in cc
    by_tests false false false is unknown = false≢true is

-- what is known to be level compares as equal, and nothing else that is known does
level_agrees : (sure : Sure) (order : Ordering) → Agrees sure order → sure ≢ Unknown
    → is_level sure ≡ is_eq order
level_agrees Above order is known = sym (ap is_eq is)
level_agrees Below order is known = sym (ap is_eq is)
level_agrees Level order is known = sym (ap is_eq is)
level_agrees Unknown order is known = absurd (known refl)

-- a rival's points against the club's
points_agree : (sheet : Sheet) (season : Results) (zone : List Literal) (finish : Results)
    (rival club : ℕ) → IsInBox sheet season zone finish
    → Agrees (sure_by_points sheet season (options_in sheet season zone) rival club)
    (greater_first (points_of sheet finish rival) (points_of sheet finish club))
points_agree sheet season zone finish rival club box =
    let range = λ (c : ℕ). points_range sheet season (options_in sheet season zone) (c ∷ []) in
    range_agrees (range rival) (range club) (points_of sheet finish rival)
    (points_of sheet finish club)
    (points_in_range sheet season zone finish rival box)
    (points_in_range sheet season zone finish club box)

-- the clubs that are on the club's points are those that are on them at the finish
level_on_points-tied : (sheet : Sheet) (season : Results) (zone : List Literal) (finish : Results)
    (club : ℕ) → are_outcomes_fixed sheet season zone ≡ true → IsInBox sheet season zone finish
    → level_on_points sheet season (options_in sheet season zone) club
    ≡ tied_group_of sheet finish club
level_on_points-tied sheet season zone finish club fixed box =
    filter_agree
    (λ other. is_level (sure_by_points sheet season (options_in sheet season zone) other club))
    (λ other. int_eq (points_of sheet finish other) (points_of sheet finish club)) each
    (clubs_of sheet)
  where
    each : (other : ℕ)
        → is_level (sure_by_points sheet season (options_in sheet season zone) other club)
        ≡ int_eq (points_of sheet finish other) (points_of sheet finish club)
    each other =
        level_agrees (sure_by_points sheet season (options_in sheet season zone) other club)
        (greater_first (points_of sheet finish other) (points_of sheet finish club))
        (points_agree sheet season zone finish other club box)
        (range_clear (points_range sheet season (options_in sheet season zone) (other ∷ []))
        (points_range sheet season (options_in sheet season zone) (club ∷ []))
        (points_fixed sheet season zone other fixed) (points_fixed sheet season zone club fixed))
        ∙ int_eq_equiv.symm (points_of sheet finish club) (points_of sheet finish other)

-- the sure order, if it decides, is the order before the lots
pub order_agrees : (sheet : Sheet) (season : Results) (zone : List Literal) (finish : Results)
    (rival club : ℕ) → are_outcomes_fixed sheet season zone ≡ true
    → IsInBox sheet season zone finish
    → Agrees (sure_order sheet season zone rival club) (order_without_lots sheet finish rival club)
unfolding sure_order
order_agrees sheet season zone finish rival club fixed box =
    let options = options_in sheet season zone in
    let group = level_on_points sheet season options club in
    then_agrees (sure_by_points sheet season options rival club)
    (sure_by sheet.order sheet options group rival club)
    (greater_first (points_of sheet finish rival) (points_of sheet finish club))
    (standing_in sheet finish (tied_group_of sheet finish rival) rival club)
    (points_agree sheet season zone finish rival club box)
    (λ tied. subst
    (λ (g : List ℕ). Agrees (sure_by sheet.order sheet options group rival club)
    (standing_in sheet finish g rival club))
    (level_on_points-tied sheet season zone finish club fixed box
    ∙ sym (tied_group_of-tied sheet finish rival club tied))
    (by_agrees sheet.order sheet options finish group rival club box.scores))

-- a club that is surely above another ranks before it
pub above_is : (sheet : Sheet) (season : Results) (zone : List Literal) (finish : Results)
    (rival club : ℕ) → are_outcomes_fixed sheet season zone ≡ true
    → IsInBox sheet season zone finish → sure_order sheet season zone rival club ≡ Above
    → (lots : List ℕ) → ranks_before sheet finish lots rival club ≡ true
above_is sheet season zone finish rival club fixed box above lots =
    let less = subst (λ (s : Sure). Agrees s (order_without_lots sheet finish rival club)) above
    (order_agrees sheet season zone finish rival club fixed box) in
    ap is_lt (order_of-lots sheet finish lots rival club)
    ∙ ap (λ o. is_lt (ordering_then o (nat_cmp (lot_of lots rival) (lot_of lots club)))) less

-- one that is surely below it does not
pub below_is_not : (sheet : Sheet) (season : Results) (zone : List Literal) (finish : Results)
    (rival club : ℕ) → are_outcomes_fixed sheet season zone ≡ true
    → IsInBox sheet season zone finish → sure_order sheet season zone rival club ≡ Below
    → (lots : List ℕ) → ranks_before sheet finish lots rival club ≡ false
below_is_not sheet season zone finish rival club fixed box below lots =
    let greater = subst (λ (s : Sure). Agrees s (order_without_lots sheet finish rival club)) below
    (order_agrees sheet season zone finish rival club fixed box) in
    ap is_lt (order_of-lots sheet finish lots rival club)
    ∙ ap (λ o. is_lt (ordering_then o (nat_cmp (lot_of lots rival) (lot_of lots club)))) greater

-- the other ranks before it
pub below_is : (sheet : Sheet) (season : Results) (zone : List Literal) (finish : Results)
    (rival club : ℕ) → are_outcomes_fixed sheet season zone ≡ true
    → IsInBox sheet season zone finish → sure_order sheet season zone rival club ≡ Below
    → (lots : List ℕ) → ranks_before sheet finish lots club rival ≡ true
below_is sheet season zone finish rival club fixed box below lots =
    let greater = subst (λ (s : Sure). Agrees s (order_without_lots sheet finish rival club)) below
    (order_agrees sheet season zone finish rival club fixed box) in
    let less : order_without_lots sheet finish club rival ≡ Less = (order_without_lots_total sheet
    finish).antisymm club rival ∙ ap ordering_reverse greater in
    ap is_lt (order_of-lots sheet finish lots club rival)
    ∙ ap (λ o. is_lt (ordering_then o (nat_cmp (lot_of lots club) (lot_of lots rival)))) less

-- and what is surely level is left to the lots
pub level_is : (sheet : Sheet) (season : Results) (zone : List Literal) (finish : Results)
    (rival club : ℕ) → are_outcomes_fixed sheet season zone ≡ true
    → IsInBox sheet season zone finish → sure_order sheet season zone rival club ≡ Level
    → order_without_lots sheet finish rival club ≡ Equal
level_is sheet season zone finish rival club fixed box level =
    subst (λ (s : Sure). Agrees s (order_without_lots sheet finish rival club)) level
    (order_agrees sheet season zone finish rival club fixed box)
