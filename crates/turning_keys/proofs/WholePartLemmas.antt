-- One part of the turning key: its whole range at first, and the one number that is left at last.
use Rattle.std.proofs.Common.{◌≡◌, ℕ, ◌+◌, ◌<◌, ℤ, ◌≤ℤ◌, true, List, []}
use Rattle.std.proofs.Common.{◌∷◌, ◌++◌, length, slice_get, slice_set, Some, refl, sym}
use Rattle.std.proofs.Common.{ap, ◌∙◌, subst, suc, arith}
use Rattle.std.proofs.lemmas.Int.{ints}
use Rattle.std.proofs.lemmas.List.{append_assoc, length-append, length-replicate}
use Rattle.league_core.specs.declared.sheet.Sheet.{Sheet}
use Rattle.league_core.specs.declared.question.Claim.{Claim}
use Rattle.league_core.specs.game.Results.{Results, are_results}
use Rattle.league_core.specs.game.Sheets.{IsWithinLimits}
use Rattle.league_core.specs.search.Keys.{key_of, key_ranges}
use Rattle.league_core.specs.search.PointRanges.{Range}
use Rattle.tree_arena.specs.declared.example.Example.{Example}
use Rattle.cup_sheet.specs.CupLimits.{direct_places}
use Rattle.cup_sheet.specs.KeyBounds.{far_part, IsBeyond, IsNearestKey}
use Rattle.cup_sheet.specs.KeyBounds.{not_halved}
use Rattle.turning_keys.specs.inside.TurningSearches.{far_end, AreKnownParts, IsPartLeft}
use Rattle.turning_keys.specs.inside.TurningSearches.{IsReachedWithin}
use Rattle.turning_keys.proofs.FartherLemmas.{to_parts, from_parts}
use Rattle.turning_keys.proofs.FartherLemmas.{part_within, own_part_within}
use Rattle.turning_keys.proofs.FartherLemmas.{far_end_no_farther, IsPartWithin}
use Rattle.turning_keys.proofs.ReachedLemmas.{IsOwnKey, own_key, candidate_can}
use Rattle.turning_keys.proofs.PartLemmas.{far_parts, set_part, halved_within}

module _ (sheet : Sheet) (season : Results) (claim : Claim) (club : ℕ)
    (limits : IsWithinLimits sheet) (results : are_results season ≡ true) where
  abbrev Part : List ℤ → ℕ → List ℤ → Range → Type 0
  Part turning place key range = IsPartLeft sheet season claim club turning place key range

  own_turning : (turning : List ℤ)
      → IsNearestKey direct_places sheet season claim club turning
      → IsOwnKey sheet season club turning
  own_turning turning nearest =
      own_key sheet season club limits results turning nearest.0

  -- ---- the whole range

  -- one part is left next where not all are known
  first_left : (turning key before later : List ℤ) (place : ℕ) (range : Range)
      → IsOwnKey sheet season club turning → turning ≡ before ++ later
      → length before ≡ place → place < 7 → key ≡ before ++ far_parts claim later
      → slice_get (key_ranges sheet season [] club) place ≡ Some range
      → Part turning place key range
  first_left turning key before [] place range own parts counted room known there =
      absurd (omega (arith, own.sized, ap length parts, length-append before []))
  first_left turning key before (part ∷ later) place range own parts counted room known there =
      let at : slice_get (key_ranges sheet season [] club) (length before) ≡ Some range =
      ap (λ (n : ℕ). slice_get (key_ranges sheet season [] club) n) counted ∙ there in
      let within = own_part_within before later part range
      (subst (λ (it : List ℤ). IsPartWithin before it range) parts
      (part_within before turning (key_ranges sheet season [] club) range own.low own.high at)) in
      record {
        before = before;
        part = part;
        later = later;
        parts = parts;
        counted = counted;
        known = known;
        whole = range;
        of_part = there;
        least = within.0;
        greatest = within.1;
        halved = not_halved;
      }

  pub whole_left : (turning key : List ℤ) (place : ℕ) (range : Range)
      → IsNearestKey direct_places sheet season claim club turning
      → AreKnownParts claim turning place key → place < 7
      → slice_get (key_ranges sheet season [] club) place ≡ Some range
      → Part turning place key range
  whole_left turning key place range nearest known room there =
      first_left turning key known.before known.later place range
      (own_turning turning nearest) known.parts known.counted room known.known there

  -- an example that is known before a part is halved has a key no farther out than the one with
  -- the far end of the whole range there
  pub whole_reached : (turning key : List ℤ) (place : ℕ) (range : Range) (example : Example)
      → IsNearestKey direct_places sheet season claim club turning
      → Part turning place key range
      → slice_get (key_ranges sheet season [] club) place ≡ Some range
      → IsReachedWithin sheet season claim club key example
      → IsReachedWithin sheet season claim club
      (slice_set key place (far_end claim range)) example
  whole_reached turning key place range example nearest left there reached =
      let own = key_of sheet example.finish club in
      let is = own_key sheet season club limits results own
      (candidate_can sheet season club example reached.candidate) in
      let far = far_parts claim left.later in
      let turning_is = own_turning turning nearest in
      let sized : length own ≡ length left.before + suc (length left.later) =
      omega (
        arith,
        is.sized,
        turning_is.sized,
        ap length left.parts,
        length-append left.before (left.part ∷ left.later),
      ) in
      let long : length own ≡ length (left.before ++ far_part claim ∷ far) =
      omega (
        arith,
        sized,
        length-append left.before (far_part claim ∷ far),
        length-replicate (length left.later) (far_part claim),
      ) in
      let at : slice_get (key_ranges sheet season [] club) (length left.before) ≡ Some range =
      ap (λ (n : ℕ). slice_get (key_ranges sheet season [] club) n) left.counted ∙ there in
      record {
        candidate = reached.candidate;
        near =
            subst (λ (it : List ℤ). IsBeyond claim own it)
            (sym (set_part claim left.before left.later key place (far_end claim range)
            left.counted left.known))
            (from_parts claim own (left.before ++ far_end claim range ∷ far)
            (far_end_no_farther claim left.before own (length left.later) range sized is.near
            (part_within left.before own (key_ranges sheet season [] club) range is.low is.high at)
            (to_parts claim own (left.before ++ far_part claim ∷ far) long
            (subst (λ (it : List ℤ). IsBeyond claim own it) left.known reached.near))));
      }

  -- ---- one number is left

  one_number : (least greatest part : ℤ) → greatest ≤ℤ least → (least ≤ℤ part)
      × (part ≤ℤ greatest) → part ≡ least
  one_number least greatest part one within = omega (arith, ints, within.0, within.1, one)

  -- it is the part
  pub part_known : (turning key : List ℤ) (place : ℕ) (range : Range)
      → Part turning place key range → range.greatest ≤ℤ range.least
      → AreKnownParts claim turning (place + 1) (slice_set key place range.least)
  part_known turning key place range left one =
      let within = halved_within claim left.part left.whole range (left.least, left.greatest)
      left.halved in
      let is = one_number range.least range.greatest left.part one within in
      record {
        before = left.before ++ left.part ∷ [];
        later = left.later;
        parts = left.parts ∙ sym (append_assoc left.before (left.part ∷ []) left.later);
        counted = length-append left.before (left.part ∷ []) ∙ omega (arith, left.counted);
        known =
            set_part claim left.before left.later key place range.least left.counted left.known
            ∙ ap (λ (it : ℤ). left.before ++ it ∷ far_parts claim left.later) (sym is)
            ∙ sym (append_assoc left.before (left.part ∷ []) (far_parts claim left.later));
      }

  -- ---- all are known

  no_later : (before later : List ℤ) → length before ≡ 7 → length (before ++ later) ≡ 7
      → later ≡ []
  no_later before [] counted sized = refl
  no_later before (part ∷ later) counted sized =
      absurd (omega (arith, counted, sized, length-append before (part ∷ later)))

  pub all_known : (turning key : List ℤ)
      → IsNearestKey direct_places sheet season claim club turning
      → AreKnownParts claim turning 7 key → turning ≡ key
  all_known turning key nearest known =
      let own = own_turning turning nearest in
      let none = no_later known.before known.later known.counted
      (sym (ap length known.parts) ∙ own.sized) in
      known.parts ∙ ap (λ (it : List ℤ). known.before ++ it) none
      ∙ sym (known.known ∙ ap (λ (it : List ℤ). known.before ++ far_parts claim it) none)
