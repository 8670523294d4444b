-- A part over all fixtures: how near it is to zero, and its open fixtures.
use Rattle.std.proofs.Common.{◌≡◌, ℕ, ◌-◌, ◌<◌, ◌≤◌}
use Rattle.std.proofs.Common.{List, length, get_or}
use Rattle.std.proofs.Common.{Option, None, sym, subst}
use Rattle.std.proofs.Common.{arith}
use Rattle.std.proofs.lemmas.List.{length-take-le}
use Rattle.std.specs.List.{All, range_with_len}
use Rattle.std.proofs.lemmas.List.Elements.{All-filter, All-get_or}
use Rattle.std.proofs.lemmas.List.FromFn.{length-range_with_len, get_or-range_with_len}
use Rattle.league_core.specs.declared.sheet.Sheet.{Sheet}
use Rattle.league_core.specs.declared.season.Score.{Score}
use Rattle.league_core.specs.game.Results.{Results}
use Rattle.near_bound.specs.declared.played.PlayedPart.{PlayedPart}
use Rattle.near_bound.specs.inside.PlayedParts.{is_open, open_below}
use Rattle.near_bound.specs.inside.PlayedParts.{ArePartsNear}
use Rattle.near_bound.specs.inside.PlayedParts.{IsPlayedPart}
use Rattle.near_bound.specs.inside.PlayedParts.{open_of, open_fixtures}
use Rattle.near_bound.proofs.PlayedLemmas.{near_by_rest}

-- it is near enough to zero
pub part_near : (sheet : Sheet) (season : Results) (part : PlayedPart)
    → IsPlayedPart sheet season part
    → ArePartsNear part (length sheet.fixtures - part.unplayed_count)
part_near sheet season part is = near_by_rest part (length sheet.fixtures) is.near is.few

-- its open fixtures are fixtures of the sheet
open_low : (scores : List (Option Score)) (count : ℕ)
    → All (λ fixture. fixture < count) (open_below count scores)
open_low scores count =
    All-filter (λ fixture. is_open (get_or scores fixture None)) (λ fixture. fixture < count)
    (range_with_len 0 count)
    (λ k d inside.
    let here = length-range_with_len 0 count in
    let value = get_or-range_with_len 0 count k d (omega (arith, inside, here)) in
    omega (arith, value, inside, here))

pub open_of_sheet : (sheet : Sheet) (season : Results) (part : PlayedPart) (i d : ℕ)
    → IsPlayedPart sheet season part → length season.scores ≡ length sheet.fixtures
    → i < length (open_of part) → get_or (open_of part) i d < length sheet.fixtures
open_of_sheet sheet season part i d is same inside =
    subst (λ (n : ℕ). get_or (open_of part) i d < n) same
    (subst (λ (xs : List ℕ). get_or xs i d < length season.scores) (sym is.is_open)
    (All-get_or (λ fixture. fixture < length season.scores) (open_fixtures season.scores) i d
    (subst (λ (xs : List ℕ). i < length xs) is.is_open inside)
    (open_low season.scores (length season.scores))))

-- there are as many as the part says
pub length-open : (sheet : Sheet) (season : Results) (part : PlayedPart)
    → IsPlayedPart sheet season part → length sheet.fixtures ≤ 600
    → length (open_of part) ≡ part.unplayed_count
length-open sheet season part is few =
    length-take-le part.unplayed_count part.unplayed (omega (arith, is.few, few, is.sizes.unplayed))
