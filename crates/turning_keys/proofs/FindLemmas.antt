-- The parts of a turning key, one after the other, in the words of the contracts.
use Rattle.std.proofs.Common.{◌≡◌, ℕ, ◌+◌, ◌<◌, ℤ, ◌≤ℤ◌, ◌<ℤ◌, true, List, [], length, replicate}
use Rattle.std.proofs.Common.{refl, sym}
use Rattle.std.proofs.Common.{◌∷◌, zero, suc, map, ap, ◌∙◌, subst, inl, inr, slice_get, slice_set}
use Rattle.std.proofs.Common.{Some, arith}
use Rattle.std.proofs.lemmas.Int.{ints}
use Rattle.std.proofs.lemmas.Option.{none-some, same_Some}
use Rattle.league_core.specs.declared.sheet.Sheet.{Sheet}
use Rattle.league_core.specs.declared.question.Claim.{Claim}
use Rattle.league_core.specs.declared.question.Claim.TheVariants.{Inside, Outside}
use Rattle.league_core.specs.game.Results.{Results, are_results}
use Rattle.league_core.specs.game.Sheets.{IsWithinLimits}
use Rattle.league_core.specs.search.Keys.{key_ranges}
use Rattle.league_core.specs.search.PointRanges.{Range}
use Rattle.club_keys.specs.inside.KeyEnds.{key_parts}
use Rattle.cup_sheet.specs.CupLimits.{direct_places}
use Rattle.cup_sheet.specs.KeyBounds.{far_key, far_part, CanBeCandidateWith, IsNearestKey}
use Rattle.turning_keys.specs.declared.halve.Reached.{Reached}
use Rattle.turning_keys.specs.inside.TurningSearches.{far_end, AreKnownParts, IsKnownTo}
use Rattle.turning_keys.specs.inside.TurningSearches.{IsReachedWithin, IsReachedTo, IsHalving}
use Rattle.turning_keys.specs.inside.TurningSearches.{IsRefutedWithin}
use Rattle.turning_keys.specs.inside.KeyEndings.{IsExampleAt}
use Rattle.turning_keys.proofs.FartherLemmas.{three_ways, from_parts, far_no_farther}
use Rattle.turning_keys.proofs.ReachedLemmas.{nearest_exists, own_key, reached_key}
use Rattle.turning_keys.proofs.ReachedLemmas.{reached_example}
use Rattle.turning_keys.proofs.PartLemmas.{halved_within}
use Rattle.turning_keys.proofs.WholePartLemmas.{whole_left, whole_reached, part_known, all_known}

-- the far end of a range with one number
far_end_is_least : (claim : Claim) (range : Range) → range.least ≤ℤ range.greatest
    → range.greatest ≤ℤ range.least → far_end claim range ≡ range.least
far_end_is_least Outside range in_order one = omega (arith, ints, in_order, one)
far_end_is_least Inside range in_order one = refl

both_ends : (least part greatest : ℤ) → (least ≤ℤ part) × (part ≤ℤ greatest) → least ≤ℤ greatest
both_ends least part greatest within = omega (arith, ints, within.0, within.1)

-- a range without several numbers
pub not_several : (least greatest : ℤ) → (least <ℤ greatest → ⊥) → greatest ≤ℤ least
not_several least greatest one =
    elim (three_ways least greatest) as (λ _. greatest ≤ℤ least) [
      | inl below ↦ absurd (one below)
      | inr rest ↦ elim rest as (λ _. greatest ≤ℤ least) [
        | inl same ↦ omega (arith, ints, same)
        | inr above ↦ omega (arith, ints, above)
      ]
    ]

-- the part of a range list from the parts of its low and of its high ends
pub range_there : (ranges : List Range) (place : ℕ) (least greatest : ℤ)
    → slice_get (map (λ it. it.least) ranges) place ≡ Some least
    → slice_get (map (λ it. it.greatest) ranges) place ≡ Some greatest
    → slice_get ranges place ≡ Some (record { least = least; greatest = greatest })
range_there [] place least greatest low high = absurd (none-some least low)
range_there (range ∷ ranges) zero least greatest low high =
    let one = same_Some range.least least low in
    let other = same_Some range.greatest greatest high in
    λ i. Some (record { least = one i; greatest = other i })
range_there (range ∷ ranges) (suc place) least greatest low high =
    range_there ranges place least greatest low high

module _ (sheet : Sheet) (season : Results) (claim : Claim) (club : ℕ)
    (limits : IsWithinLimits sheet) (results : are_results season ≡ true)
    (below : club < length sheet.clubs) where
  -- where a part is looked for in its whole range
  pub whole_halving : (reached : Reached) (range : Range)
      → IsReachedTo sheet season claim club reached → reached.known < 7
      → slice_get (key_ranges sheet season [] club) reached.known ≡ Some range
      → IsHalving sheet season claim club reached range
  whole_halving reached range to room there =
      let key = key_parts reached.key in
      let some = nearest_exists sheet season club below claim reached.example
      to.near.candidate in
      let left = whole_left sheet season claim club limits results some.0 key reached.known range
      some.1 (to.known some.0 some.1) room there in
      record {
        room = room;
        in_order =
            both_ends range.least left.part range.greatest
            (halved_within claim left.part left.whole range (left.least, left.greatest)
            left.halved);
        left = λ turning nearest.
            whole_left sheet season claim club limits results turning key reached.known range
            nearest (to.known turning nearest) room there;
        near =
            whole_reached sheet season claim club limits results some.0 key reached.known range
            reached.example some.1 left there to.near;
      }

  -- where one number is left
  pub one_left : (reached : Reached) (range : Range)
      → IsHalving sheet season claim club reached range → range.greatest ≤ℤ range.least
      → IsKnownTo sheet season claim club (reached.known + 1)
      (slice_set (key_parts reached.key) reached.known range.least)
      × IsReachedWithin sheet season claim club
      (slice_set (key_parts reached.key) reached.known range.least) reached.example
  one_left reached range halving one = (
    λ turning nearest.
        part_known sheet season claim club limits results turning (key_parts reached.key)
        reached.known range (halving.left turning nearest) one,
    subst (λ (end : ℤ). IsReachedWithin sheet season claim club
        (slice_set (key_parts reached.key) reached.known end) reached.example)
        (far_end_is_least claim range halving.in_order one) halving.near,
  )

  -- where all parts are known
  pub key_found : (reached : Reached) → IsReachedTo sheet season claim club reached
      → reached.known ≡ 7
      → IsNearestKey direct_places sheet season claim club (key_parts reached.key)
  key_found reached to all =
      let some = nearest_exists sheet season club below claim reached.example
      to.near.candidate in
      subst (λ (it : List ℤ). IsNearestKey direct_places sheet season claim club it)
      (all_known sheet season claim club limits results some.0 (key_parts reached.key) some.1
      (subst (λ (n : ℕ). AreKnownParts claim some.0 n (key_parts reached.key)) all
      (to.known some.0 some.1))) some.1

  -- where none is known yet
  pub none_known : (key : List ℤ) → key ≡ far_key claim → IsKnownTo sheet season claim club 0 key
  none_known key far turning nearest =
      let own = own_key sheet season club limits results turning nearest.0 in
      record {
        before = [];
        later = turning;
        parts = refl;
        counted = refl;
        known = far ∙ ap (λ (n : ℕ). replicate n (far_part claim)) (sym own.sized);
      }

  -- the example of a candidate has the turning key
  pub example_at_key : (reached : Reached) → IsReachedTo sheet season claim club reached
      → reached.known ≡ 7
      → IsExampleAt sheet season claim club (key_parts reached.key) (Some reached.example)
  example_at_key reached to all = (
    reached_example sheet season club claim (key_parts reached.key) reached.example to.near,
    reached_key sheet season club claim (key_parts reached.key) reached.example
        (key_found reached to all) to.near,
  )

  -- with no key that is not beyond all can the club be the candidate
  pub none_at_far : IsRefutedWithin sheet season claim club (far_key claim) → (key : List ℤ)
      → CanBeCandidateWith direct_places sheet season club key → ⊥
  none_at_far refuted key can =
      let own = own_key sheet season club limits results key can in
      refuted key can (from_parts claim key (far_key claim)
      (far_no_farther claim 7 key own.sized own.near))
