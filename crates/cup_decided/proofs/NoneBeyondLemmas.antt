-- A club's key at a finish is never beyond the key that is beyond all: its part of the fixed rank
-- is less far out than that. So at that key no group has a candidate on the far side. At any other
-- turning key the club itself can be the candidate.
use Rattle.std.proofs.Common.{◌≡◌, ℕ, ℤ, pos, ◌-ℤ◌, ◌≤◌, ◌==◌, true, List, refl, ap, ◌∙◌, arith}
use Rattle.std.specs.Prelude.{slice_get}
use Rattle.std.proofs.lemmas.Bool.{and_parts}
use Rattle.std.proofs.lemmas.Int.{ints}
use Rattle.std.proofs.lemmas.Option.{same_Some}
use Rattle.league_core.specs.declared.sheet.Sheet.{Sheet}
use Rattle.league_core.specs.declared.question.Claim.{Claim}
use Rattle.league_core.specs.declared.question.Claim.TheVariants.{Inside, Outside}
use Rattle.league_core.specs.game.Ahead.{rank_of}
use Rattle.league_core.specs.game.Ranking.{place_of}
use Rattle.league_core.specs.game.Results.{Results, are_results}
use Rattle.league_core.specs.game.Sheets.{IsWithinLimits}
use Rattle.league_core.specs.search.Keys.{key_of, is_key_from, rank_part}
use Rattle.club_keys.proofs.KeyOrderLemmas.{from_itself, one_if_both}
use Rattle.cup_sheet.specs.CupLimits.{direct_places}
use Rattle.cup_sheet.specs.GroupQuestions.{HasGroupExample, holds_in_group}
use Rattle.cup_sheet.specs.KeyBounds.{far_key, far_part, halving_kind, others_kind, IsBeyond}
use Rattle.cup_sheet.specs.KeyBounds.{CanBeCandidateWith}
use Rattle.turning_keys.proofs.FartherLemmas.{far_no_farther, from_parts}
use Rattle.turning_keys.proofs.KeyBoundLemmas.{key_within, rank_within}
use Rattle.turning_keys.proofs.ReachedLemmas.{reached_example}
use Rattle.turning_keys.proofs.TurningKeyLemmas.{candidate_parts}

-- of two keys that are each beyond the other the one is the other
same_if_beyond : (claim : Claim) (key other : List ℤ) → IsBeyond claim key other
    → IsBeyond claim other key → other ≡ key
same_if_beyond Outside key other first second = one_if_both other key second first
same_if_beyond Inside key other first second = one_if_both other key first second

-- what a club of another group shows at a key is a key beyond it
beyond_shown : (claim : Claim) (sheet : Sheet) (bound : List ℤ) (other : ℕ) (finish : Results)
    (lots : List ℕ) → holds_in_group direct_places sheet
    (record { kind = others_kind claim; club = other; key = bound }) finish lots ≡ true
    → IsBeyond claim bound (key_of sheet finish other)
beyond_shown Outside sheet bound other finish lots holds =
    (and_parts (place_of sheet finish lots other == 2)
    (is_key_from bound (key_of sheet finish other)) holds).1
beyond_shown Inside sheet bound other finish lots holds =
    (and_parts (place_of sheet finish lots other == 2)
    (is_key_from (key_of sheet finish other) bound) holds).1

-- the part of the fixed rank is less far out
rank_is_within : (claim : Claim) (rank : ℕ) → rank ≤ 999
    → (pos 1000 -ℤ pos rank) ≡ far_part claim → ⊥
rank_is_within Outside rank few same = omega (arith, ints, same)
rank_is_within Inside rank few same = omega (arith, ints, few, same)

pub none_beyond_far : (claim : Claim) (sheet : Sheet) (season : Results) (other : ℕ)
    → IsWithinLimits sheet → are_results season ≡ true
    → HasGroupExample direct_places sheet season
    (record { kind = others_kind claim; club = other; key = far_key claim }) → ⊥
none_beyond_far claim sheet season other limits results can =
    let key = key_of sheet can.0 other in
    let near = key_within sheet season can.0 other limits results can.2.is_finish in
    let same = same_if_beyond claim (far_key claim) key
    (beyond_shown claim sheet (far_key claim) other can.0 can.1 can.2.holds)
    (from_parts claim key (far_key claim) (far_no_farther claim 7 key refl near)) in
    rank_is_within claim (rank_of sheet other) (rank_within sheet.clubs other limits.clubs)
    (same_Some (rank_part sheet other) (far_part claim)
    (ap (λ (it : List ℤ). slice_get it 6) same))

-- a key is beyond one that it is
beyond_same : (claim : Claim) (key other : List ℤ) → other ≡ key → IsBeyond claim other key
beyond_same Outside key other same = ap (λ it. is_key_from it key) same ∙ from_itself key
beyond_same Inside key other same = ap (λ it. is_key_from key it) same ∙ from_itself key

-- a club that can be the candidate with a key shows that in the words of a question
pub candidate_at_key : (claim : Claim) (sheet : Sheet) (season : Results) (club : ℕ)
    (key : List ℤ) → CanBeCandidateWith direct_places sheet season club key
    → HasGroupExample direct_places sheet season
    (record { kind = halving_kind claim; club = club; key = key })
candidate_at_key claim sheet season club key can = (
  can.0,
  can.1,
  reached_example sheet season club claim key (record { finish = can.0; lots = can.1 }) (record {
    candidate = record {
      is_finish = can.2.is_finish;
      is_drawn = can.2.is_drawn;
      place = candidate_parts sheet season club key can.0 can.1 can.2;
    };
    near = beyond_same claim key (key_of sheet can.0 club) can.3;
  }),
)
