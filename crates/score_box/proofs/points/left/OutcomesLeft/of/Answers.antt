-- What the goals of the outcomes say of the cell.
use Rattle.score_box.proofs.points.left.OutcomesLeft.of.Goals as goal

pub returns : goal.returns
returns c = record {
  home_win = record {
    goals = c.home_wins.result;
    says = c.home_wins.ensures.goals;
    is = c.is_some-home_win.ensures;
  };
  draw = record {
    goals = c.draws.result;
    says = c.draws.ensures.goals;
    is = c.is_some-draw.ensures;
  };
  away_win = record {
    goals = c.away_wins.result;
    says = c.away_wins.ensures.goals;
    is = c.is_some-away_win.ensures;
  };
}
