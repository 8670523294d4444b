use Rattle.branch_rules.proofs.GoalTestLemmas.{goals_split, one_score_is_left}
use Rattle.branch_rules.proofs.goals.rated_goals.Goals as goal

pub returns-in-Some-clause-some : goal.returns-in-Some-clause-some
returns-in-Some-clause-some c =
    goals_split c.args.zone_box.now c.args.question.now c.args.fixture c.cell.result.now
    c.in-Some.split.test c.sides_of.ensures.of_sheet c.requires.has_finish c.requires.in_range
    c.cell.ensures c.in-Some.ensures.some

pub returns-in-None-clause-none : goal.returns-in-None-clause-none
returns-in-None-clause-none c =
    one_score_is_left c.args.zone_box.now c.args.fixture c.cell.result.now c.requires.has_finish
    c.requires.in_range c.cell.ensures c.in-None.ensures.none
