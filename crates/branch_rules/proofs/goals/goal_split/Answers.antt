use Rattle.league_core.specs.search.Options.{is_home_win, is_draw, is_away_win}
use Rattle.branch_rules.proofs.GoalTestLemmas.{parts_this}
use Rattle.branch_rules.proofs.goals.goal_split.Goals as goal

pub returns-in-Some-clause-some : goal.returns-in-Some-clause-some
returns-in-Some-clause-some c =
    parts_this c.split_of.result c.args.cell.now is_home_win c.in-Some.goals c.args.fixture
    c.split_of.ensures.some c.in-Some.ensures.goals

pub returns-in-Some-draws-clause-some : goal.returns-in-Some-draws-clause-some
returns-in-Some-draws-clause-some c =
    parts_this c.split_of-in-Some-draws.result c.args.cell.now is_draw c.in-Some-draws.goals
    c.args.fixture c.split_of-in-Some-draws.ensures.some c.in-Some-draws.ensures.goals

pub returns-clause-some : goal.returns-clause-some
returns-clause-some c =
    parts_this c.split_of-2.result c.args.cell.now is_away_win c.in_ok-goals.goals c.args.fixture
    c.split_of-2.ensures.some c.in_ok-goals.ensures.goals
