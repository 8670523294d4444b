-- What an example shows of a club's keys as its group's candidate, and what a refutation does.
use Rattle.std.proofs.Common.{◌≡◌, ℕ, ◌<◌, ℤ, Bool, true, false, not, ◌==◌, List, [], length, map}
use Rattle.std.proofs.Common.{refl, subst, ap, ◌∙◌, inl, inr}
use Rattle.std.proofs.lemmas.Bool.{false≢true, and_parts, and_from, eq-eqb, eqb-true}
use Rattle.league_core.specs.declared.sheet.Sheet.{Sheet}
use Rattle.league_core.specs.declared.question.Claim.{Claim}
use Rattle.league_core.specs.declared.question.Claim.TheVariants.{Inside, Outside}
use Rattle.league_core.specs.game.Results.{Results, are_results}
use Rattle.league_core.specs.game.Sheets.{IsWithinLimits}
use Rattle.league_core.specs.game.Finishes.{IsFinishOf}
use Rattle.league_core.specs.game.Ranking.{place_of}
use Rattle.league_core.specs.search.Keys.{key_of, is_key_from, key_ranges, low_key, high_key}
use Rattle.league_core.specs.search.Keys.{AreAtMost}
use Rattle.league_core.proofs.OptionLemmas.{box_of_finish}
use Rattle.reason_laws.proofs.KeyLemmas.{key_parts_in_range}
use Rattle.club_keys.proofs.KeyOrderLemmas.{from_itself, one_if_both}
use Rattle.tree_arena.specs.declared.example.Example.{Example}
use Rattle.depth_search.specs.declared.kind.CaseNode.{CaseNode}
use Rattle.cup_sheet.specs.declared.question.GroupReason.{GroupReason}
use Rattle.cup_sheet.specs.CupLimits.{direct_places}
use Rattle.cup_sheet.specs.GroupQuestions.{is_key_on_side}
use Rattle.cup_sheet.specs.KeyBounds.{halving_kind, CanBeCandidateWith, IsBeyond, IsNearestKey}
use Rattle.cup_sheet.specs.KeyBounds.{IsTurningKey}
use Rattle.group_search.specs.inside.GroupLooks.{IsGroupExampleOf}
use Rattle.group_search.specs.inside.GroupTasks.{IsGroupRefutedBy}
use Rattle.cup_laws.proofs.GroupTruthLemmas.{group_refuted}
use Rattle.turning_keys.specs.inside.TurningQuestions.{halving_question, nearer_question}
use Rattle.turning_keys.specs.inside.TurningSearches.{IsCandidateAt, IsReachedWithin}
use Rattle.turning_keys.specs.inside.TurningSearches.{IsRefutedWithin}
use Rattle.turning_keys.specs.inside.TurningLaws.{AreWithinFar}
use Rattle.turning_keys.proofs.KeyBoundLemmas.{key_within}
use Rattle.turning_keys.proofs.TurningKeyLemmas.{turning_key_exists}

module _ (sheet : Sheet) (season : Results) (club : ℕ) where
  -- the example shows the club as the candidate with its key there
  pub candidate_can : (example : Example) → IsCandidateAt sheet season club example
      → CanBeCandidateWith direct_places sheet season club (key_of sheet example.finish club)
  candidate_can example candidate =
      let key = key_of sheet example.finish club in (
        example.finish,
        example.lots,
        record {
          is_finish = candidate.is_finish;
          is_drawn = candidate.is_drawn;
          holds =
              and_from (place_of sheet example.finish example.lots club == 2)
              (is_key_from key key)
              (eq-eqb (place_of sheet example.finish example.lots club) 2 candidate.place)
              (from_itself key);
        },
        refl,
      )

  -- an example of the question about a key
  pub example_reached : (claim : Claim) (bound : List ℤ) (example : Example)
      → IsGroupExampleOf sheet season (halving_question claim club bound) example
      → IsReachedWithin sheet season claim club bound example
  example_reached Outside bound example is =
      let parts = and_parts (place_of sheet example.finish example.lots club == 2)
      (is_key_from (key_of sheet example.finish club) bound) is.holds in
      record {
        candidate = record {
          is_finish = is.is_finish;
          is_drawn = is.is_drawn;
          place = eqb-true (place_of sheet example.finish example.lots club) 2 parts.0;
        };
        near = parts.1;
      }
  example_reached Inside bound example is =
      let parts = and_parts (place_of sheet example.finish example.lots club == 2)
      (is_key_from bound (key_of sheet example.finish club)) is.holds in
      record {
        candidate = record {
          is_finish = is.is_finish;
          is_drawn = is.is_drawn;
          place = eqb-true (place_of sheet example.finish example.lots club) 2 parts.0;
        };
        near = parts.1;
      }

  -- and back
  pub reached_example : (claim : Claim) (bound : List ℤ) (example : Example)
      → IsReachedWithin sheet season claim club bound example
      → IsGroupExampleOf sheet season (halving_question claim club bound) example
  reached_example Outside bound example reached = record {
    is_finish = reached.candidate.is_finish;
    is_drawn = reached.candidate.is_drawn;
    holds =
        and_from (place_of sheet example.finish example.lots club == 2)
        (is_key_from (key_of sheet example.finish club) bound)
        (eq-eqb (place_of sheet example.finish example.lots club) 2 reached.candidate.place)
        reached.near;
  }
  reached_example Inside bound example reached = record {
    is_finish = reached.candidate.is_finish;
    is_drawn = reached.candidate.is_drawn;
    holds =
        and_from (place_of sheet example.finish example.lots club == 2)
        (is_key_from bound (key_of sheet example.finish club))
        (eq-eqb (place_of sheet example.finish example.lots club) 2 reached.candidate.place)
        reached.near;
  }

  -- a key with which it can be the candidate is that of an example
  own_example : (claim : Claim) (bound key : List ℤ)
      → (can : CanBeCandidateWith direct_places sheet season club key)
      → IsBeyond claim key bound
      → (place_of sheet can.0 can.1 club == 2) ≡ true
      × (is_key_on_side (halving_kind claim) bound (key_of sheet can.0 club) ≡ true)
  own_example Outside bound key can beyond = (
    (and_parts (place_of sheet can.0 can.1 club == 2) (is_key_from key (key_of sheet can.0 club))
        can.2.holds).0,
    ap (λ it. is_key_from it bound) can.3 ∙ beyond,
  )
  own_example Inside bound key can beyond = (
    (and_parts (place_of sheet can.0 can.1 club == 2) (is_key_from key (key_of sheet can.0 club))
        can.2.holds).0,
    ap (λ it. is_key_from bound it) can.3 ∙ beyond,
  )

  halving_example : (claim : Claim) (bound key : List ℤ)
      → (can : CanBeCandidateWith direct_places sheet season club key)
      → IsBeyond claim key bound
      → IsGroupExampleOf sheet season (halving_question claim club bound)
      (record { finish = can.0; lots = can.1 })
  halving_example claim bound key can beyond =
      let parts = own_example claim bound key can beyond in
      by_claim claim parts.0 parts.1
    where
      by_claim : (claim : Claim) → (place_of sheet can.0 can.1 club == 2) ≡ true
          → is_key_on_side (halving_kind claim) bound (key_of sheet can.0 club) ≡ true
          → IsGroupExampleOf sheet season (halving_question claim club bound)
          (record { finish = can.0; lots = can.1 })
      by_claim Outside place side = record {
        is_finish = can.2.is_finish;
        is_drawn = can.2.is_drawn;
        holds =
            and_from (place_of sheet can.0 can.1 club == 2)
            (is_key_from (key_of sheet can.0 club) bound) place side;
      }
      by_claim Inside place side = record {
        is_finish = can.2.is_finish;
        is_drawn = can.2.is_drawn;
        holds =
            and_from (place_of sheet can.0 can.1 club == 2)
            (is_key_from bound (key_of sheet can.0 club)) place side;
      }

  -- a refutation leaves no such key
  pub refuted_at : (claim : Claim) (bound : List ℤ) (budget : ℕ)
      (nodes : List (CaseNode GroupReason)) → IsWithinLimits sheet → are_results season ≡ true
      → club < length sheet.clubs
      → IsGroupRefutedBy sheet season (halving_question claim club bound) budget nodes
      → IsRefutedWithin sheet season claim club bound
  refuted_at claim bound budget nodes limits results below refuted key can beyond =
      group_refuted direct_places sheet season (halving_question claim club bound) _ limits results
      below refuted.refuted
      (can.0, can.1, halving_example claim bound key can beyond)

  -- ---- keys at finishes

  -- the key has seven parts, each within its range and far from all that is beyond
  pub record IsOwnKey (key : List ℤ) : Type 0 where
    pub sized : length key ≡ 7
    pub near : AreWithinFar key
    pub low : AreAtMost (map (λ it. it.least) (key_ranges sheet season [] club)) key
    pub high : AreAtMost key (map (λ it. it.greatest) (key_ranges sheet season [] club))

  key_at_finish : IsWithinLimits sheet → are_results season ≡ true → (finish : Results)
      → IsFinishOf sheet season finish → IsOwnKey (key_of sheet finish club)
  unfolding low_key high_key
  key_at_finish limits results finish is =
      let parts = key_parts_in_range sheet season [] finish club
      (box_of_finish sheet season finish is) in
      record {
        sized = refl;
        near = key_within sheet season finish club limits results is;
        low = parts.0;
        high = parts.1;
      }

  pub own_key : IsWithinLimits sheet → are_results season ≡ true → (key : List ℤ)
      → CanBeCandidateWith direct_places sheet season club key → IsOwnKey key
  own_key limits results key can =
      subst IsOwnKey can.3 (key_at_finish limits results can.0 can.2.is_finish)

  -- ---- the nearest key

  -- there is one if some example shows the club as the candidate
  pub nearest_exists : club < length sheet.clubs → (claim : Claim) (example : Example)
      → IsCandidateAt sheet season club example
      → (turning : List ℤ) × IsNearestKey direct_places sheet season claim club turning
  nearest_exists below claim example candidate =
      let some = turning_key_exists sheet season club below claim in
      elim some.1 as (λ _. (turning : List ℤ)
      × IsNearestKey direct_places sheet season claim club turning) [
        | inl nearest ↦ (some.0, nearest)
        | inr none ↦ absurd (none.0 (key_of sheet example.finish club)
            (candidate_can example candidate))
      ]

  -- nor is there a key before the turning key
  on_both_sides : (b : Bool) → b ≡ true → not b ≡ true → ⊥
  on_both_sides true is other = false≢true other
  on_both_sides false is other = false≢true is

  nearer_candidate : (claim : Claim) (bound : List ℤ) (example : Example)
      → IsGroupExampleOf sheet season (nearer_question claim club bound) example
      → IsCandidateAt sheet season club example
      × (IsBeyond claim bound (key_of sheet example.finish club) → ⊥)
  nearer_candidate Outside bound example is =
      let parts = and_parts (place_of sheet example.finish example.lots club == 2)
      (not (is_key_from bound (key_of sheet example.finish club))) is.holds in (
        record {
          is_finish = is.is_finish;
          is_drawn = is.is_drawn;
          place = eqb-true (place_of sheet example.finish example.lots club) 2 parts.0;
        },
        λ beyond. on_both_sides _ beyond parts.1,
      )
  nearer_candidate Inside bound example is =
      let parts = and_parts (place_of sheet example.finish example.lots club == 2)
      (not (is_key_from (key_of sheet example.finish club) bound)) is.holds in (
        record {
          is_finish = is.is_finish;
          is_drawn = is.is_drawn;
          place = eqb-true (place_of sheet example.finish example.lots club) 2 parts.0;
        },
        λ beyond. on_both_sides _ beyond parts.1,
      )

  pub none_before : (claim : Claim) (key : List ℤ) (example : Example)
      → IsTurningKey direct_places sheet season claim club key
      → IsGroupExampleOf sheet season (nearer_question claim club key) example → ⊥
  none_before claim key example turning is =
      let parts = nearer_candidate claim key example is in
      let can = candidate_can example parts.0 in
      elim turning as (λ _. ⊥) [
        | inl nearest ↦ parts.1 (nearest.1 (key_of sheet example.finish club) can)
        | inr none ↦ none.0 (key_of sheet example.finish club) can
      ]

  -- an example with a key no farther out than the nearest key has that key
  pub reached_key : (claim : Claim) (key : List ℤ) (example : Example)
      → IsNearestKey direct_places sheet season claim club key
      → IsReachedWithin sheet season claim club key example → key_of sheet example.finish club ≡ key
  reached_key Outside key example nearest reached =
      one_if_both (key_of sheet example.finish club) key reached.near
      (nearest.1 (key_of sheet example.finish club) (candidate_can example reached.candidate))
  reached_key Inside key example nearest reached =
      one_if_both (key_of sheet example.finish club) key
      (nearest.1 (key_of sheet example.finish club) (candidate_can example reached.candidate))
      reached.near
