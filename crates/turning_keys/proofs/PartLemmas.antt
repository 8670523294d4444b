-- One part of the turning key: what a step of halving leaves of its range.
use Rattle.std.proofs.Common.{◌≡◌, ℕ, ℤ, pos, ◌+ℤ◌, ◌-ℤ◌, ◌≤ℤ◌, ◌<ℤ◌, true, List, []}
use Rattle.std.proofs.Common.{◌∷◌, ◌++◌, length, replicate, slice_get, slice_set, sym}
use Rattle.std.proofs.Common.{ap, ◌∙◌, subst, inl, inr, arith}
use Rattle.std.proofs.Math.Seq.{set-append_seam}
use Rattle.std.proofs.lemmas.Int.{ints}
use Rattle.std.proofs.lemmas.List.{length-append, length-replicate}
use Rattle.league_core.specs.declared.sheet.Sheet.{Sheet}
use Rattle.league_core.specs.declared.question.Claim.{Claim}
use Rattle.league_core.specs.declared.question.Claim.TheVariants.{Inside, Outside}
use Rattle.league_core.specs.game.Results.{Results, are_results}
use Rattle.league_core.specs.game.Sheets.{IsWithinLimits}
use Rattle.league_core.specs.search.Keys.{key_of, key_ranges}
use Rattle.league_core.specs.search.PointRanges.{Range}
use Rattle.tree_arena.specs.declared.example.Example.{Example}
use Rattle.cup_sheet.specs.CupLimits.{direct_places}
use Rattle.cup_sheet.specs.KeyBounds.{far_part, IsBeyond, IsNearestKey, IsMidpoint}
use Rattle.cup_sheet.specs.KeyBounds.{IsInNearHalf, near_half, far_half, IsHalvedTo, not_halved}
use Rattle.cup_sheet.specs.KeyBounds.{to_near_half, to_far_half, IsHalfwayKey}
use Rattle.turning_keys.specs.inside.TurningSearches.{IsPartLeft}
use Rattle.turning_keys.specs.inside.TurningSearches.{IsReachedWithin, IsRefutedWithin}
use Rattle.turning_keys.specs.inside.TurningLaws.{AreWithinFar}
use Rattle.turning_keys.proofs.NearestKeyLemmas.{beyond_along}
use Rattle.turning_keys.proofs.FartherLemmas.{to_parts, from_parts, near_if_within}
use Rattle.turning_keys.proofs.FartherLemmas.{within_if_near}
use Rattle.turning_keys.proofs.FartherLemmas.{three_ways}
use Rattle.turning_keys.proofs.ReachedLemmas.{IsOwnKey, own_key, candidate_can}

-- the far parts of a key
abbrev pub far_parts : Claim → List ℤ → List ℤ
far_parts claim later = replicate (length later) (far_part claim)

-- a number in the place of the first far part
pub set_part : (claim : Claim) (before later key : List ℤ) (place : ℕ) (part : ℤ)
    → length before ≡ place → key ≡ before ++ far_part claim ∷ far_parts claim later
    → slice_set key place part ≡ before ++ part ∷ far_parts claim later
set_part claim before later key place part counted known =
    ap (λ (it : List ℤ). slice_set it place part) known
    ∙ ap (λ (n : ℕ). slice_set (before ++ far_part claim ∷ far_parts claim later) n part)
    (sym counted)
    ∙ set-append_seam before (far_part claim) (far_parts claim later) part

same_length : (claim : Claim) (before later : List ℤ) (part middle : ℤ)
    → length (before ++ part ∷ later) ≡ length (before ++ middle ∷ far_parts claim later)
same_length claim before later part middle =
    length-append before (part ∷ later)
    ∙ omega (arith, length-replicate (length later) (far_part claim))
    ∙ sym (length-append before (middle ∷ far_parts claim later))

later_near : (before later : List ℤ) (part : ℤ) → AreWithinFar (before ++ part ∷ later)
    → AreWithinFar later
later_near [] later part near = near.1
later_near (first ∷ before) later part near = later_near before later part near.1

-- ---- ranges that are met in halving have the part

kept_near : (claim : Claim) (part middle : ℤ) (range : Range)
    → (range.least ≤ℤ part) × (part ≤ℤ range.greatest) → IsInNearHalf claim middle part
    → ((near_half claim range middle).least ≤ℤ part)
    × (part ≤ℤ (near_half claim range middle).greatest)
kept_near Outside part middle range within half = (within.0, half)
kept_near Inside part middle range within half = (half, within.1)

past_middle : (part middle : ℤ) → (part ≤ℤ middle → ⊥) → (middle +ℤ pos 1) ≤ℤ part
past_middle part middle outside =
    elim (three_ways part middle) as (λ _. (middle +ℤ pos 1) ≤ℤ part) [
      | inl below ↦ absurd (outside (omega (arith, ints, below)))
      | inr rest ↦ elim rest as (λ _. (middle +ℤ pos 1) ≤ℤ part) [
        | inl same ↦ absurd (outside (omega (arith, ints, same)))
        | inr above ↦ omega (arith, ints, above)
      ]
    ]

before_middle : (part middle : ℤ) → (middle ≤ℤ part → ⊥) → part ≤ℤ (middle -ℤ pos 1)
before_middle part middle outside =
    elim (three_ways part middle) as (λ _. part ≤ℤ (middle -ℤ pos 1)) [
      | inl below ↦ omega (arith, ints, below)
      | inr rest ↦ elim rest as (λ _. part ≤ℤ (middle -ℤ pos 1)) [
        | inl same ↦ absurd (outside (omega (arith, ints, same)))
        | inr above ↦ absurd (outside (omega (arith, ints, above)))
      ]
    ]

kept_far : (claim : Claim) (part middle : ℤ) (range : Range)
    → (range.least ≤ℤ part) × (part ≤ℤ range.greatest) → (IsInNearHalf claim middle part → ⊥)
    → ((far_half claim range middle).least ≤ℤ part)
    × (part ≤ℤ (far_half claim range middle).greatest)
kept_far Outside part middle range within outside = (past_middle part middle outside, within.1)
kept_far Inside part middle range within outside = (within.0, before_middle part middle outside)

pub halved_within : (claim : Claim) (part : ℤ) (whole range : Range)
    → (whole.least ≤ℤ part) × (part ≤ℤ whole.greatest) → IsHalvedTo claim part whole range
    → (range.least ≤ℤ part) × (part ≤ℤ range.greatest)
halved_within claim part whole _ within not_halved = within
halved_within claim part whole _ within (to_near_half range middle halved several is half) =
    kept_near claim part middle range (halved_within claim part whole range within halved) half
halved_within claim part whole _ within (to_far_half range middle halved several is outside) =
    kept_far claim part middle range (halved_within claim part whole range within halved) outside

module _ (sheet : Sheet) (season : Results) (claim : Claim) (club : ℕ)
    (limits : IsWithinLimits sheet) (results : are_results season ≡ true) where
  abbrev pub Left : List ℤ → ℕ → List ℤ → Range → Type 0
  Left turning place key range = IsPartLeft sheet season claim club turning place key range

  own_nearest : (turning : List ℤ)
      → IsNearestKey direct_places sheet season claim club turning
      → IsOwnKey sheet season club turning
  own_nearest turning nearest =
      own_key sheet season club limits results turning nearest.0

  -- ---- a step

  -- an example with a key no farther out than the one with a middle there
  pub near_left : (turning key : List ℤ) (place : ℕ) (range : Range) (middle : ℤ)
      (example : Example) → IsNearestKey direct_places sheet season claim club turning
      → Left turning place key range → range.least <ℤ range.greatest
      → IsMidpoint claim range middle
      → IsReachedWithin sheet season claim club (slice_set key place middle) example
      → Left turning place key (near_half claim range middle)
  near_left turning key place range middle example nearest left several is reached =
      let own = key_of sheet example.finish club in
      let beyond = beyond_along claim turning own (slice_set key place middle)
      (nearest.1 own (candidate_can sheet season club example reached.candidate))
      reached.near in
      let asked = set_part claim left.before left.later key place middle left.counted left.known in
      let far = far_parts claim left.later in
      let half = near_if_within claim left.before left.later far left.part middle
      (to_parts claim (left.before ++ left.part ∷ left.later) (left.before ++ middle ∷ far)
      (same_length claim left.before left.later left.part middle)
      (subst (λ (it : List ℤ). IsBeyond claim it (left.before ++ middle ∷ far)) left.parts
      (subst (λ (it : List ℤ). IsBeyond claim turning it) asked beyond))) in
      record {
        before = left.before;
        part = left.part;
        later = left.later;
        parts = left.parts;
        counted = left.counted;
        known = left.known;
        whole = left.whole;
        of_part = left.of_part;
        least = left.least;
        greatest = left.greatest;
        halved = to_near_half range middle left.halved several is half;
      }

  -- or no such example
  pub far_left : (turning key : List ℤ) (place : ℕ) (range : Range) (middle : ℤ)
      → IsNearestKey direct_places sheet season claim club turning
      → Left turning place key range → range.least <ℤ range.greatest
      → IsMidpoint claim range middle
      → IsRefutedWithin sheet season claim club (slice_set key place middle)
      → Left turning place key (far_half claim range middle)
  far_left turning key place range middle nearest left several is refuted =
      let asked = set_part claim left.before left.later key place middle left.counted left.known in
      let far = far_parts claim left.later in
      let own = own_nearest turning nearest in
      let near = later_near left.before left.later left.part
      (subst AreWithinFar left.parts own.near) in
      let outside : IsInNearHalf claim middle left.part → ⊥ =
      λ half. refuted turning nearest.0
      (subst (λ (it : List ℤ). IsBeyond claim turning it) (sym asked)
      (subst (λ (it : List ℤ). IsBeyond claim it (left.before ++ middle ∷ far)) (sym left.parts)
      (from_parts claim (left.before ++ left.part ∷ left.later) (left.before ++ middle ∷ far)
      (within_if_near claim left.before left.later left.part middle near half)))) in
      record {
        before = left.before;
        part = left.part;
        later = left.later;
        parts = left.parts;
        counted = left.counted;
        known = left.known;
        whole = left.whole;
        of_part = left.of_part;
        least = left.least;
        greatest = left.greatest;
        halved = to_far_half range middle left.halved several is outside;
      }

  -- the question about the middle is on the way
  pub halfway_key : (turning key : List ℤ) (place : ℕ) (range : Range) (middle : ℤ)
      → Left turning place key range → range.least <ℤ range.greatest
      → IsMidpoint claim range middle
      → IsHalfwayKey sheet season claim club turning (slice_set key place middle)
  halfway_key turning key place range middle left several is = record {
    before = left.before;
    part = left.part;
    later = left.later;
    parts = left.parts;
    whole = left.whole;
    of_part =
        ap (λ (n : ℕ). slice_get (key_ranges sheet season [] club) n) left.counted ∙ left.of_part;
    range = range;
    halved = left.halved;
    several = several;
    middle = middle;
    midpoint = is;
    asked = set_part claim left.before left.later key place middle left.counted left.known;
  }
