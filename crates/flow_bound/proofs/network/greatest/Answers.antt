-- What a cut takes is the excess of its source side.
use Rattle.std.proofs.Common.{◌≡◌, ℕ, ◌+◌, pos, ◌+ℤ◌, Bool, List, length, subst, ◌∙◌, arith}
use Rattle.league_core.specs.game.ClubSets.{clubs_in}
use Rattle.league_core.proofs.ClubCountLemmas.{few_below}
use Rattle.flow_net.specs.inside.Cut.{IsCut, IsLeastCut, capacity_of, marked}
use Rattle.flow_bound.specs.inside.Parts.{in_both, side_of, sum_of_side}
use Rattle.flow_bound.specs.inside.Network.{through}
use Rattle.flow_bound.proofs.NetworkLemmas.{best_at_cut, network_is, no_excess_at_cut}
use Rattle.flow_bound.proofs.network.greatest.Goals as goal

pub returns-then-flow-goal : goal.returns-then-flow-goal
returns-then-flow-goal c =
    let table = c.args.alone.now in
    let pairs = c.args.pairs.now in
    let rest = c.args.rest in
    let places = c.places_of-places.result in
    let first = c.add_clubs-goal.new.net.arcs in
    let arcs = c.add_pairs.new.net.arcs in
    let total = c.add_clubs-goal.result in
    let source : c.from-source.result ≡ length (clubs_in rest) = c.from-source.ensures ∙
    c.len.ensures in
    let Taken : ℕ → Type 0 = λ n. (side : ℕ → Bool) → IsCut n (n + 1) side → pos (capacity_of side
    first) +ℤ sum_of_side c.weights_of.result (in_both (side_of rest) (through places side)) ≡ pos
    total in
    let Least : ℕ → Type 0 = λ n. IsLeastCut arcs n (n + 1) c.in_ok-flow.flow.value (marked
    c.in_ok-flow.flow.source_side.items) in
    let least = subst Least source c.in_ok-flow.ensures.cut in
    let network = network_is table c.weights_of.result pairs rest places first arcs total
    c.weights_of.ensures.sums (subst Taken source c.add_clubs-goal.ensures.cut)
    c.add_pairs.ensures.cut in
    let Found : List Bool → Type 0 = λ marks. (club : ℕ) → side_of c.clubs_of.result club ≡ in_both
    (side_of rest) (through places (marked marks)) club in
    best_at_cut table pairs rest places (marked c.in_ok-flow.flow.source_side.items)
    (side_of c.clubs_of.result) arcs total c.in_ok-flow.flow.value c.places_of-places.ensures
    network
    least c.if-flow-goal.true (subst Found c.deref.ensures.value c.clubs_of.ensures)

pub returns : goal.returns
returns c =
    let table = c.args.alone.now in
    let pairs = c.args.pairs.now in
    let rest = c.args.rest in
    let places = c.places_of-places.result in
    let first = c.add_clubs-goal.new.net.arcs in
    let arcs = c.add_pairs.new.net.arcs in
    let total = c.add_clubs-goal.result in
    let source : c.from-source.result ≡ length (clubs_in rest) = c.from-source.ensures ∙
    c.len.ensures in
    let Taken : ℕ → Type 0 = λ n. (side : ℕ → Bool) → IsCut n (n + 1) side → pos (capacity_of side
    first) +ℤ sum_of_side c.weights_of.result (in_both (side_of rest) (through places side)) ≡ pos
    total in
    let Least : ℕ → Type 0 = λ n. IsLeastCut arcs n (n + 1) c.in_ok-flow.flow.value (marked
    c.in_ok-flow.flow.source_side.items) in
    let least = subst Least source c.in_ok-flow.ensures.cut in
    let network = network_is table c.weights_of.result pairs rest places first arcs total
    c.weights_of.ensures.sums (subst Taken source c.add_clubs-goal.ensures.cut)
    c.add_pairs.ensures.cut in
    no_excess_at_cut table pairs rest places (marked c.in_ok-flow.flow.source_side.items) arcs total
    c.in_ok-flow.flow.value c.places_of-places.ensures network least c.if-flow-goal.false

pub add_clubs-goal-requires-clause-few : goal.add_clubs-goal-requires-clause-few
add_clubs-goal-requires-clause-few c =
    omega (arith, c.from-source.ensures, c.len.ensures, few_below 32 c.args.rest.bits (omega arith))

pub add_clubs-goal-requires-clause-clubs : goal.add_clubs-goal-requires-clause-clubs
add_clubs-goal-requires-clause-clubs c = c.from-source.ensures ∙ c.len.ensures
