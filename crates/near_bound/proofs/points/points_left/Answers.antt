use Rattle.std.proofs.Common.{◌∙◌}
use Rattle.near_bound.proofs.PointLemmas.{at_home_alone, away_alone, not_there}
use Rattle.near_bound.proofs.points.points_left.Goals as goal

pub returns-then-fixture-club-clause-range : goal.returns-then-fixture-club-clause-range
returns-then-fixture-club-clause-range c = λ options left_of.
    c.points_of_side.ensures.range options left_of
    ∙ at_home_alone c.args.fixture c.args.club options c.if-fixture-club.true

pub returns-then-fixture-club-2-clause-range : goal.returns-then-fixture-club-2-clause-range
returns-then-fixture-club-2-clause-range c = λ options left_of.
    c.points_of_side-then-fixture-club-2.ensures.range options left_of
    ∙ away_alone c.args.fixture c.args.club options c.if-fixture-club.false
    c.if-fixture-club-2.true

pub returns-else-fixture-club-2-clause-range : goal.returns-else-fixture-club-2-clause-range
returns-else-fixture-club-2-clause-range c = λ options left_of.
    not_there c.args.fixture c.args.club options c.if-fixture-club.false c.if-fixture-club-2.false
