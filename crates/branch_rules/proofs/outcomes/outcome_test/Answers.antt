use Rattle.std.proofs.Common.{◌<◌, IsTrue, List, ℕ, length, get_or, subst, sym, ap, arith}
use Rattle.league_core.specs.search.Options.{has_one_outcome}
use Rattle.league_core.specs.search.Splits.{are_outcomes_fixed}
use Rattle.branch_rules.specs.inside.Choices.{options_at_fixture}
use Rattle.branch_rules.proofs.RatedLemmas.{if_there_is_none, none_with_this}
use Rattle.branch_rules.proofs.OutcomeTestLemmas.{outcomes_fixed}
use Rattle.branch_rules.proofs.outcomes.outcome_test.Goals as goal
use Rattle.score_box.proofs.SplitLemmas.{unplayed_in_range}

pub better_of-best-requires-clause-in_range : goal.better_of-best-requires-clause-in_range
better_of-best-requires-clause-in_range c =
    let scores = c.args.zone_box.now.season.scores in
    let i = c.loop-i.i in
    subst (λ (xs : List ℕ). get_or xs i 0 < length scores) (sym c.unplayed-unplayed.ensures)
    (unplayed_in_range scores i 0
    (subst (λ (xs : List ℕ). i < length xs) c.unplayed-unplayed.ensures c.loop-i-test.true))

pub loop-i-preserved : goal.loop-i-preserved
loop-i-preserved c = (
  c.better_of-best.ensures.some,
  none_with_this c.better_of-best.result c.loop-i.best
      (λ fixture. IsTrue (has_one_outcome (options_at_fixture c.args.zone_box.now fixture)))
      c.unplayed-unplayed.result.now c.loop-i.i c.better_of-best.ensures.none c.loop-i.invariant.1,
)

pub returns-clause-none : goal.returns-clause-none
returns-clause-none c =
    let b = c.args.zone_box.now in
    if_there_is_none c.loop-i.best (IsTrue (are_outcomes_fixed b.sheet b.season b.zone)) (λ is.
    outcomes_fixed b.sheet b.season b.zone (λ j within.
    let long = ap (λ (xs : List ℕ). length xs) c.unplayed-unplayed.ensures in
    subst (λ (xs : List ℕ). IsTrue (has_one_outcome (options_at_fixture b (get_or xs j 0))))
    c.unplayed-unplayed.ensures
    (c.loop-i.invariant.1 is j (omega (arith, long, c.loop-i-test.false)))))
