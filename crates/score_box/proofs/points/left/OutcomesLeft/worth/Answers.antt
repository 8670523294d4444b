-- Each side may lose, draw or win.
use Rattle.score_box.proofs.SideLemmas.{home_points-are, away_points-are}
use Rattle.score_box.proofs.points.left.OutcomesLeft.worth.Goals as goal

pub returns-clause-points : goal.returns-clause-points
returns-clause-points c cell are =
    let row = c.row_of in
    record {
      home = home_points-are cell c.args.self row.result.home are row.ensures.home_least
          row.ensures.home_most;
      away = away_points-are cell c.args.self row.result.away are row.ensures.away_least
          row.ensures.away_most;
    }
