-- A step of halving, in the words of its contract.
use Rattle.std.proofs.Common.{◌≡◌, ℕ, ◌<◌, ℤ, ◌≤ℤ◌, ◌<ℤ◌, ◌-ℤ◌, pos, negsuc, nat_abs, List, refl}
use Rattle.std.proofs.Common.{true, sym, subst, slice_set, arith}
use Rattle.std.proofs.lemmas.Int.{ints}
use Rattle.league_core.specs.declared.sheet.Sheet.{Sheet}
use Rattle.league_core.specs.declared.question.Claim.{Claim}
use Rattle.league_core.specs.declared.question.Claim.TheVariants.{Inside, Outside}
use Rattle.league_core.specs.game.Results.{Results, are_results}
use Rattle.league_core.specs.game.Sheets.{IsWithinLimits}
use Rattle.league_core.specs.search.PointRanges.{Range}
use Rattle.club_keys.specs.inside.KeyEnds.{key_parts}
use Rattle.tree_arena.specs.declared.example.Example.{Example}
use Rattle.cup_sheet.specs.KeyBounds.{IsMidpoint, near_half, far_half, IsHalfwayKey}
use Rattle.turning_keys.specs.declared.halve.Reached.{Reached}
use Rattle.turning_keys.specs.inside.TurningSearches.{IsHalving, IsReachedWithin, IsRefutedWithin}
use Rattle.turning_keys.specs.inside.TurningSearches.{far_end, numbers_past, IsHalfwayTo}
use Rattle.turning_keys.proofs.PartLemmas.{near_left, far_left, halfway_key}

abs_less : (a b : ℤ) → pos 0 ≤ℤ a → a <ℤ b → nat_abs a < nat_abs b
abs_less (pos a) (pos b) from less = omega (arith, ints)
abs_less (pos a) (negsuc b) from less = absurd (omega (arith, ints))
abs_less (negsuc a) b from less = absurd (omega (arith, ints))

-- a range with both ends in order that has fewer numbers
pub record IsFewer (whole half : Range) : Type 0 where
  pub in_order : half.least ≤ℤ half.greatest
  pub fewer : numbers_past half < numbers_past whole

near_fewer : (claim : Claim) (range : Range) (middle : ℤ) → range.least <ℤ range.greatest
    → IsMidpoint claim range middle → IsFewer range (near_half claim range middle)
near_fewer Outside range middle several is = record {
  in_order = omega (arith, ints, several, is.0, is.1);
  fewer =
      abs_less (middle -ℤ range.least) (range.greatest -ℤ range.least)
      (omega (arith, ints, several, is.0, is.1)) (omega (arith, ints, several, is.0, is.1));
}
near_fewer Inside range middle several is = record {
  in_order = omega (arith, ints, several, is.0, is.1);
  fewer =
      abs_less (range.greatest -ℤ middle) (range.greatest -ℤ range.least)
      (omega (arith, ints, several, is.0, is.1)) (omega (arith, ints, several, is.0, is.1));
}

far_fewer : (claim : Claim) (range : Range) (middle : ℤ) → range.least <ℤ range.greatest
    → IsMidpoint claim range middle → IsFewer range (far_half claim range middle)
far_fewer Outside range middle several is =
    let half = far_half Outside range middle in
    record {
      in_order = omega (arith, ints, several, is.0, is.1);
      fewer =
          abs_less (half.greatest -ℤ half.least) (range.greatest -ℤ range.least)
          (omega (arith, ints, several, is.0, is.1)) (omega (arith, ints, several, is.0, is.1));
    }
far_fewer Inside range middle several is =
    let half = far_half Inside range middle in
    record {
      in_order = omega (arith, ints, several, is.0, is.1);
      fewer =
          abs_less (half.greatest -ℤ half.least) (range.greatest -ℤ range.least)
          (omega (arith, ints, several, is.0, is.1)) (omega (arith, ints, several, is.0, is.1));
    }

near_end : (claim : Claim) (range : Range) (middle : ℤ)
    → far_end claim (near_half claim range middle) ≡ middle
near_end Outside range middle = refl
near_end Inside range middle = refl

far_end-far_half : (claim : Claim) (range : Range) (middle : ℤ)
    → far_end claim (far_half claim range middle) ≡ far_end claim range
far_end-far_half Outside range middle = refl
far_end-far_half Inside range middle = refl

module _ (sheet : Sheet) (season : Results) (claim : Claim) (club : ℕ)
    (limits : IsWithinLimits sheet) (results : are_results season ≡ true) where
  abbrev Halving : Reached → Range → Type 0
  Halving reached range = IsHalving sheet season claim club reached range

  -- toward the near half, with an example
  pub near_step : (old : Reached) (range : Range) (middle : ℤ) (asked : List ℤ)
      (example : Example) → Halving old range → range.least <ℤ range.greatest
      → IsMidpoint claim range middle → asked ≡ slice_set (key_parts old.key) old.known middle
      → IsReachedWithin sheet season claim club asked example
      → Halving (record { key = old.key; known = old.known; example = example })
      (near_half claim range middle)
      × (numbers_past (near_half claim range middle) < numbers_past range)
      × (old.known ≡ old.known)
  near_step old range middle asked example halving several is at reached =
      let less = near_fewer claim range middle several is in
      let near = subst (λ (it : List ℤ). IsReachedWithin sheet season claim club it example) at
      reached in (
        record {
          room = halving.room;
          in_order = less.in_order;
          left = λ turning nearest.
              near_left sheet season claim club limits results turning (key_parts old.key)
              old.known range middle example nearest (halving.left turning nearest) several is
              near;
          near =
              subst (λ (end : ℤ). IsReachedWithin sheet season claim club
              (slice_set (key_parts old.key) old.known end) example)
              (sym (near_end claim range middle)) near;
        },
        less.fewer,
        refl,
      )

  -- toward the far half, with a refutation
  pub far_step : (old : Reached) (range : Range) (middle : ℤ) (asked : List ℤ)
      (example : Example) → Halving old range → range.least <ℤ range.greatest
      → IsMidpoint claim range middle → asked ≡ slice_set (key_parts old.key) old.known middle
      → example ≡ old.example → IsRefutedWithin sheet season claim club asked
      → Halving (record { key = old.key; known = old.known; example = example })
      (far_half claim range middle)
      × (numbers_past (far_half claim range middle) < numbers_past range)
      × (old.known ≡ old.known)
  far_step old range middle asked example halving several is at same refuted =
      let less = far_fewer claim range middle several is in (
        record {
          room = halving.room;
          in_order = less.in_order;
          left = λ turning nearest.
              far_left sheet season claim club limits results turning (key_parts old.key)
              old.known range middle nearest (halving.left turning nearest) several is
              (subst (λ (it : List ℤ). IsRefutedWithin sheet season claim club it) at refuted);
          near =
              subst (λ (end : ℤ). IsReachedWithin sheet season claim club
              (slice_set (key_parts old.key) old.known end) example)
              (sym (far_end-far_half claim range middle))
              (subst (λ (it : Example). IsReachedWithin sheet season claim club
              (slice_set (key_parts old.key) old.known (far_end claim range)) it)
              (sym same) halving.near);
        },
        less.fewer,
        refl,
      )

  -- the question about the middle is on the way
  pub middle_on_the_way : (old : Reached) (range : Range) (middle : ℤ) (asked : List ℤ)
      → Halving old range → range.least <ℤ range.greatest → IsMidpoint claim range middle
      → asked ≡ slice_set (key_parts old.key) old.known middle
      → IsHalfwayTo sheet season claim club asked
  middle_on_the_way old range middle asked halving several is at turning nearest =
      subst (λ (it : List ℤ). IsHalfwayKey sheet season claim club turning it) (sym at)
      (halfway_key sheet season claim club limits results turning (key_parts old.key) old.known
      range middle (halving.left turning nearest) several is)
