-- Turning keys, and the keys that are asked about on the way to them, have parts within a hundred
-- thousand: so have the ranges that are halved.
use Rattle.std.proofs.Common.{◌≡◌, ℕ, zero, suc, ◌*◌, ◌≤◌, ℤ, pos, ◌+ℤ◌, ◌-ℤ◌, ◌<ℤ◌, true, nat_le}
use Rattle.std.proofs.Common.{List, [], ◌∷◌, ◌++◌, length, slice_index, Some, slice_get, replicate}
use Rattle.std.proofs.Common.{Option, refl, sym, ◌∙◌, subst, inl, inr, arith}
use Rattle.std.specs.List.{list_all}
use Rattle.std.proofs.lemmas.Bool.{and_parts}
use Rattle.std.proofs.lemmas.Int.{ints}
use Rattle.std.proofs.lemmas.Option.{none-some, same_Some}
use Rattle.league_core.specs.declared.sheet.Sheet.{Sheet}
use Rattle.league_core.specs.declared.sheet.Fixture.{Fixture}
use Rattle.league_core.specs.declared.season.Score.{Score}
use Rattle.league_core.specs.declared.question.Claim.{Claim}
use Rattle.league_core.specs.declared.question.Claim.TheVariants.{Inside, Outside}
use Rattle.league_core.specs.game.Limits.{most_goals}
use Rattle.league_core.specs.game.Sheets.{IsWithinLimits}
use Rattle.league_core.specs.game.Results.{Results, are_results, is_score, is_score_or_none}
use Rattle.league_core.specs.game.Finishes.{may_end}
use Rattle.league_core.specs.game.Sums.{Worth, worth_to, match_points, goal_difference, goals}
use Rattle.league_core.specs.game.Sums.{away_goals, wins, away_wins}
use Rattle.league_core.specs.game.Ahead.{rank_of}
use Rattle.league_core.specs.inside.Extents.{IsNearZero}
use Rattle.league_core.specs.search.Keys.{key_ranges}
use Rattle.league_core.specs.search.Options.{options_of, options_from, options_in, has_score, meets}
use Rattle.league_core.specs.search.PointRanges.{Range, one_value, added, range_of, range_from}
use Rattle.league_core.specs.search.PointRanges.{points_together}
use Rattle.league_core.specs.search.SureOrder.{range_over}
use Rattle.league_core.proofs.FinishLemmas.{may_end_is_score}
use Rattle.league_core.proofs.OptionLemmas.{has_score-options_of}
use Rattle.league_core.proofs.PointRangeLemmas.{least_reached, greatest_reached}
use Rattle.league_core.proofs.PointsLemmas.{deduction-le}
use Rattle.league_core.proofs.WorthLemmas.{points_near, difference_near, goals_near}
use Rattle.league_core.proofs.WorthLemmas.{away_goals_near, wins_near, away_wins_near}
use Rattle.cup_sheet.specs.KeyBounds.{far_part, IsMidpoint, IsHalvedTo, not_halved, to_near_half}
use Rattle.cup_sheet.specs.KeyBounds.{to_far_half, near_half, far_half}
use Rattle.turning_keys.specs.inside.TurningLaws.{AreWithinFar, TurningKeysAreWithin}
use Rattle.turning_keys.specs.inside.TurningLaws.{HalfwayKeysAreWithin}
use Rattle.turning_keys.proofs.KeyBoundLemmas.{IsWorthNear, worth_to-near, zero_near, far_near}
use Rattle.turning_keys.proofs.KeyBoundLemmas.{wider, rank_near, rank_within}
use Rattle.turning_keys.proofs.ReachedLemmas.{own_key}

-- each end of a range is at most so far from zero
abbrev IsRangeNear : ℕ → Range → Type 0
IsRangeNear bound range = IsNearZero bound range.least × IsNearZero bound range.greatest

-- ---- ranges of sums

-- an option is a score that a match may have
option_is_score : (limit fixture : ℕ) (played : Option Score) (score : Score) → limit ≤ most_goals
    → is_score_or_none played ≡ true
    → has_score (options_of limit [] fixture played) score ≡ true → is_score score ≡ true
option_is_score limit fixture played score low may has =
    may_end_is_score limit played score low may
    (and_parts (meets [] fixture score) (may_end limit played (Some score))
    (sym (has_score-options_of limit [] fixture played score) ∙ has)).1

-- what options are worth is near if each is
options_near : (value : Score → ℤ) (options : List Score)
    → ((score : Score) → has_score options score ≡ true → IsNearZero 99 (value score))
    → IsRangeNear 99 (range_of value options)
options_near value [] near = (zero_near 99, zero_near 99)
options_near value (score ∷ options) near =
    let least = least_reached value (score ∷ options) refl in
    let greatest = greatest_reached value (score ∷ options) refl in (
      subst (IsNearZero 99) least.2 (near least.0 least.1),
      subst (IsNearZero 99) greatest.2 (near greatest.0 greatest.1),
    )

-- so is the sum over all matches
sums_near : (value : Fixture → Score → ℤ) (limit fixture : ℕ)
    → ((match : Fixture) (score : Score) → is_score score ≡ true
    → IsNearZero 99 (value match score))
    → limit ≤ most_goals → (matches : List Fixture) (season : List (Option Score))
    → list_all is_score_or_none season ≡ true
    → IsRangeNear (99 * length matches)
    (range_from value matches (options_from limit [] fixture season))
sums_near value limit fixture near low [] season may = (zero_near 0, zero_near 0)
sums_near value limit fixture near low (match ∷ matches) [] may = (zero_near _, zero_near _)
sums_near value limit fixture near low (match ∷ matches) (played ∷ season) may =
    let parts = and_parts (is_score_or_none played) (list_all is_score_or_none season) may in
    let here = options_near (value match) (options_of limit [] fixture played)
    (λ score has. near match score
    (option_is_score limit fixture played score low parts.0 has)) in
    let rest = sums_near value limit (suc fixture) near low matches season parts.1 in (
      (omega (arith, ints, here.0.0, rest.0.0), omega (arith, ints, here.0.1, rest.0.1)),
      (omega (arith, ints, here.1.0, rest.1.0), omega (arith, ints, here.1.1, rest.1.1)),
    )

-- ---- ranges of a key

-- each of some ranges is near
abbrev AreRangesNear : List Range → Type 0
AreRangesNear [] = Unit {0}
AreRangesNear (range ∷ ranges) = IsRangeNear 100000 range × AreRangesNear ranges

range_at : (ranges : List Range) (place : ℕ) (range : Range) → AreRangesNear ranges
    → slice_get ranges place ≡ Some range → IsRangeNear 100000 range
range_at [] place range near there = absurd (none-some range there)
range_at (first ∷ ranges) zero range near there =
    subst (IsRangeNear 100000) (same_Some first range there) near.0
range_at (first ∷ ranges) (suc place) range near there = range_at ranges place range near.1 there

less_range_near : (range : Range) (off : ℕ) → IsRangeNear 59400 range → off ≤ 99
    → IsRangeNear 100000 (added range (one_value (pos 0 -ℤ (pos off +ℤ pos 0))))
less_range_near range off near few = (
  (omega (arith, ints, near.0.0), omega (arith, ints, near.0.1)),
  (omega (arith, ints, near.1.0), omega (arith, ints, near.1.1)),
)

alone_near : (club : ℕ) (match : Fixture) (score : Score)
    → IsNearZero 99 (worth_to match_points club match score)
    → IsNearZero 99 (points_together (club ∷ []) match score)
alone_near club match score near = (omega (arith, ints, near.0), omega (arith, ints, near.1))

ranges_near : (sheet : Sheet) (season : Results) (club : ℕ) → IsWithinLimits sheet
    → are_results season ≡ true → AreRangesNear (key_ranges sheet season [] club)
ranges_near sheet season club limits results =
    let goal_limit = limits.most_goal_limit in
    let parts = and_parts (list_all is_score_or_none season.scores)
    (list_all (λ points. nat_le points 99) season.deductions) results in
    let near : (value : Fixture → Score → ℤ)
    → ((match : Fixture) (score : Score) → is_score score ≡ true
    → IsNearZero 99 (value match score))
    → IsRangeNear 59400 (range_from value sheet.fixtures (options_in sheet season [])) =
    λ value each.
    let sums = sums_near value sheet.goal_limit 0 each (omega arith) sheet.fixtures season.scores
    parts.0 in (
      wider (length sheet.fixtures) _ limits.most_fixtures sums.0,
      wider (length sheet.fixtures) _ limits.most_fixtures sums.1,
    ) in
    let far : (worth : Worth) → IsWorthNear worth
    → IsRangeNear 100000 (range_over worth sheet (options_in sheet season []) club) =
    λ worth each.
    let sums = near (worth_to worth club) (worth_to-near worth each club) in (
      far_near 59400 _ (omega arith) sums.0,
      far_near 59400 _ (omega arith) sums.1,
    ) in
    let rank = rank_near (rank_of sheet club) (rank_within sheet.clubs club limits.clubs) in (
      less_range_near (range_from (points_together (club ∷ [])) sheet.fixtures
          (options_in sheet season [])) (slice_index season.deductions club)
          (near (points_together (club ∷ []))
          (λ match score is. alone_near club match score
          (worth_to-near match_points (λ s c a few none. points_near 99 s c a (omega arith)) club
          match score is)))
          (deduction-le season.deductions club parts.1),
      (
        far goal_difference (λ s c a few none. difference_near 99 s c a few none),
        (
          far goals (λ s c a few none. goals_near 99 s c a few),
          (
            far away_goals (λ s c a few none. away_goals_near 99 s c a few),
            (
              far wins (λ s c a few none. wins_near 99 s c a (omega arith)),
              (
                far away_wins (λ s c a few none. away_wins_near 99 s c a (omega arith)),
                ((rank, rank), tt),
              ),
            ),
          ),
        ),
      ),
    )

-- ---- halving

middle_near : (claim : Claim) (range : Range) (middle : ℤ) → IsRangeNear 100000 range
    → range.least <ℤ range.greatest → IsMidpoint claim range middle → IsNearZero 100000 middle
middle_near Outside range middle near several is = (
  omega (arith, ints, near.0.0, near.1.1, several, is.0, is.1),
  omega (arith, ints, near.0.0, near.1.1, several, is.0, is.1),
)
middle_near Inside range middle near several is = (
  omega (arith, ints, near.0.0, near.1.1, several, is.0, is.1),
  omega (arith, ints, near.0.0, near.1.1, several, is.0, is.1),
)

near_half_near : (claim : Claim) (range : Range) (middle : ℤ) → IsRangeNear 100000 range
    → IsNearZero 100000 middle → IsRangeNear 100000 (near_half claim range middle)
near_half_near Outside range middle near half = (near.0, half)
near_half_near Inside range middle near half = (half, near.1)

far_half_near : (claim : Claim) (range : Range) (middle : ℤ) → IsRangeNear 100000 range
    → range.least <ℤ range.greatest → IsMidpoint claim range middle
    → IsRangeNear 100000 (far_half claim range middle)
far_half_near Outside range middle near several is = (
  (
    omega (arith, ints, near.0.0, near.1.1, several, is.0, is.1),
    omega (arith, ints, near.0.0, near.1.1, several, is.0, is.1),
  ),
  near.1,
)
far_half_near Inside range middle near several is = (
  near.0,
  (
    omega (arith, ints, near.0.0, near.1.1, several, is.0, is.1),
    omega (arith, ints, near.0.0, near.1.1, several, is.0, is.1),
  ),
)

halved_near : (claim : Claim) (part : ℤ) (whole range : Range) → IsRangeNear 100000 whole
    → IsHalvedTo claim part whole range → IsRangeNear 100000 range
halved_near claim part whole _ near not_halved = near
halved_near claim part whole _ near (to_near_half range middle halved several is half) =
    let before = halved_near claim part whole range near halved in
    near_half_near claim range middle before (middle_near claim range middle before several is)
halved_near claim part whole _ near (to_far_half range middle halved several is outside) =
    far_half_near claim range middle (halved_near claim part whole range near halved) several is

-- ---- keys

far_part_near : (claim : Claim) → IsNearZero 100000 (far_part claim)
far_part_near Outside = (omega (arith, ints), omega (arith, ints))
far_part_near Inside = (omega (arith, ints), omega (arith, ints))

pub far_parts_near : (claim : Claim) (count : ℕ) → AreWithinFar (replicate count (far_part claim))
far_parts_near claim zero = tt
far_parts_near claim (suc count) = (far_part_near claim, far_parts_near claim count)

-- the parts before one, that one changed, and others
changed_near : (before later after : List ℤ) (part middle : ℤ)
    → AreWithinFar (before ++ part ∷ later) → IsNearZero 100000 middle → AreWithinFar after
    → AreWithinFar (before ++ middle ∷ after)
changed_near [] later after part middle near half far = (half, far)
changed_near (first ∷ before) later after part middle near half far =
    (near.0, changed_near before later after part middle near.1 half far)

pub turning_keys_near : TurningKeysAreWithin
turning_keys_near sheet season claim club turning limits results is =
    elim is as (λ _. AreWithinFar turning) [
      | inl nearest ↦ (own_key sheet season club limits results turning nearest.0).near
      | inr none ↦ subst AreWithinFar (sym none.1) (far_parts_near claim 7)
    ]

pub halfway_keys_near : HalfwayKeysAreWithin
halfway_keys_near sheet season claim club turning key limits results is halfway =
    let near = turning_keys_near sheet season claim club turning limits results is in
    let whole = range_at (key_ranges sheet season [] club) (length halfway.before) halfway.whole
    (ranges_near sheet season club limits results) halfway.of_part in
    let range = halved_near claim halfway.part halfway.whole halfway.range whole halfway.halved in
    subst AreWithinFar (sym halfway.asked)
    (changed_near halfway.before halfway.later
    (replicate (length halfway.later) (far_part claim)) halfway.part halfway.middle
    (subst AreWithinFar halfway.parts near)
    (middle_near claim halfway.range halfway.middle range halfway.several halfway.midpoint)
    (far_parts_near claim (length halfway.later)))
