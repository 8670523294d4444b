-- What is found for the rest is an answer for all the clubs.
use Rattle.std.proofs.Common.{◌≡◌, ◌≢◌, ℕ, List, [], ℤ, Bool, Option, Some, None, inr}
use Rattle.std.proofs.Common.{arith}
use Rattle.std.proofs.lemmas.Int.{ints}
use Rattle.std.specs.Prelude.{MatchOption}
use Rattle.league_core.specs.declared.club_set.ClubSet.{ClubSet}
use Rattle.league_core.specs.game.ClubSets.{clubs_in}
use Rattle.flow_bound.specs.declared.tally.Pair.{Pair}
use Rattle.flow_bound.specs.inside.Parts.{HasNoExcess, IsAnsweredSet, IsLeastBest, KeepsExcess}
use Rattle.flow_bound.specs.inside.Parts.{NoneOver, EachAdds, IsLeftOpenIn, IsPartOf, has_both}
use Rattle.flow_bound.specs.inside.Parts.{side_of, sum_of_pairs}
use Rattle.flow_bound.proofs.PeelLemmas.{no_excess_of_all, best_of_all}

pub answer_of_rest : (table : List ℤ) (pairs : List Pair) (whole rest : ℕ → Bool)
    (answer : Option ClubSet) → KeepsExcess table pairs whole rest → NoneOver table whole
    → MatchOption answer (HasNoExcess table pairs rest)
    (λ set. IsLeastBest table pairs rest (side_of set))
    → MatchOption answer (HasNoExcess table pairs whole) (IsAnsweredSet table pairs whole)
answer_of_rest table pairs whole rest None keeps none is =
    no_excess_of_all table pairs whole rest keeps is
answer_of_rest table pairs whole rest (Some set) keeps none is =
    inr (none, best_of_all table pairs whole rest (side_of set) keeps is)

-- pairs that give each part of the rest the same surplus give it the same answer
pub rest_of_pairs : (table : List ℤ) (pairs other : List Pair) (rest : ℕ → Bool)
    (answer : Option ClubSet)
    → ((side : ℕ → Bool) → IsPartOf side rest
    → sum_of_pairs (has_both side) pairs ≡ sum_of_pairs (has_both side) other)
    → MatchOption answer (HasNoExcess table pairs rest)
    (λ set. IsLeastBest table pairs rest (side_of set))
    → MatchOption answer (HasNoExcess table other rest)
    (λ set. IsLeastBest table other rest (side_of set))
rest_of_pairs table pairs other rest None same none = λ side part.
    let low = none side part in
    let sums = same side part in
    omega (arith, ints)
rest_of_pairs table pairs other rest (Some set) same best = record {
  part = best.part;
  exceeds =
      let over = best.exceeds in
      let sums = same (side_of set) best.part in
      omega (arith, ints);
  greatest = λ side part.
      let most = best.greatest side part in
      let sums = same side part in
      let own = same (side_of set) best.part in
      omega (arith, ints);
  contained = λ side part is.
      let sums = same side part in
      let own = same (side_of set) best.part in
      best.contained side part (omega (arith, ints));
}

-- what the clubs alone and the peel leave open
pub left_open : (table : List ℤ) (pairs : List Pair) (whole : ℕ → Bool) (rest : ClubSet)
    → NoneOver table whole → KeepsExcess table pairs whole (side_of rest) → clubs_in rest ≢ []
    → EachAdds table pairs (side_of rest) → IsLeftOpenIn table pairs whole
left_open table pairs whole rest none keeps some adds = record {
  none_over = none;
  rest = rest;
  part = keeps.part;
  some = some;
  adds = adds;
}
