use Rattle.std.proofs.Common.{◌<◌, IsTrue, List, ℕ, length, get_or, [], subst, sym, ap, arith}
use Rattle.league_core.specs.search.Options.{has_one_outcome, has_one_score, is_single, options_in}
use Rattle.score_box.specs.inside.Unplayed.{unplayed_in}
use Rattle.score_box.proofs.SplitLemmas.{unplayed_in_range}
use Rattle.league_core.proofs.OptionLemmas.{length-options_from}
use Rattle.branch_rules.specs.inside.Choices.{options_at_fixture}
use Rattle.branch_rules.proofs.RatedLemmas.{test_of_none}
use Rattle.branch_rules.proofs.GoalTestLemmas.{scores_fixed}
use Rattle.branch_rules.proofs.goals.goal_test.Goals as goal
use Rattle.league_core.proofs.plain.Lists.{list_all-at}

pub rated_goals-requires-clause-in_range : goal.rated_goals-requires-clause-in_range
rated_goals-requires-clause-in_range c =
    let scores = c.args.zone_box.now.season.scores in
    let i = c.loop-i.i in
    subst (λ (xs : List ℕ). get_or xs i 0 < length scores) (sym c.unplayed-unplayed.ensures)
    (unplayed_in_range scores i 0
    (subst (λ (xs : List ℕ). i < length xs) c.unplayed-unplayed.ensures c.loop-i-test.true))

pub returns-clause-none : goal.returns-clause-none
returns-clause-none c =
    let b = c.args.zone_box.now in
    let scores = b.season.scores in
    test_of_none c.loop-i.best c.test_of.result (IsTrue (is_single b.sheet b.season b.zone))
    c.test_of.ensures (λ is.
    scores_fixed b.sheet b.season b.zone c.requires.has_finish (λ j within.
    let long = ap (λ (xs : List ℕ). length xs) c.unplayed-unplayed.ensures in
    let there = length-options_from b.sheet.goal_limit b.zone 0 scores in
    let fixture = get_or (unplayed_in scores) j 0 in
    let in_range = unplayed_in_range scores j 0 within in
    subst (λ (xs : List ℕ). IsTrue (has_one_outcome (options_at_fixture b (get_or xs j 0)))
    → IsTrue (has_one_score (options_at_fixture b (get_or xs j 0))))
    c.unplayed-unplayed.ensures
    (c.loop-i.invariant.1 is j (omega (arith, long, c.loop-i-test.false)))
    (list_all-at has_one_outcome (options_in b.sheet b.season b.zone) fixture []
    (omega (arith, there, in_range)) c.requires.fixed)))
