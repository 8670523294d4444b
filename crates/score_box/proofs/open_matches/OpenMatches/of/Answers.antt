-- The matches without a score are of the fixtures.
use Rattle.std.proofs.Common.{ℕ, List, length, get_or, ap, ◌∙◌, arith}
use Rattle.score_box.proofs.SplitLemmas.{unplayed_in_range}
use Rattle.score_box.proofs.open_matches.OpenMatches.of.Goals as goal

pub sides_of-requires-clause-in_range : goal.sides_of-requires-clause-in_range
sides_of-requires-clause-in_range c k d within =
    let numbers = c.deref.ensures.value ∙ c.in_ok-numbers.ensures in
    let below = unplayed_in_range c.args.scores.now k d (omega
    (arith, within, ap (λ (ns : List ℕ). length ns) numbers)) in
    omega (arith, below, ap (λ (ns : List ℕ). get_or ns k d) numbers, c.requires.many)
