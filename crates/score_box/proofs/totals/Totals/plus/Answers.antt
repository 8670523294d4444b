-- Each column by itself.
use Rattle.std.proofs.Common.{arith}
use Rattle.std.proofs.lemmas.Int.{ints}
use Rattle.score_box.specs.inside.Totals.{points_column, difference_column, goals_column}
use Rattle.score_box.specs.inside.Totals.{away_goals_column, wins_column, away_wins_column}
use Rattle.score_box.proofs.TotalLemmas.{each_column, away_goals-is, away_wins-is, grown}
use Rattle.score_box.proofs.totals.Totals.plus.Goals as goal

pub overflow_add-result : goal.overflow_add-result
overflow_add-result c =
    let near = c.requires points_column in omega (arith, ints, near.0, near.1)

pub overflow_add-result-2 : goal.overflow_add-result-2
overflow_add-result-2 c =
    let near = c.requires difference_column in omega (arith, ints, near.0, near.1)

pub overflow_sub-result : goal.overflow_sub-result
overflow_sub-result c =
    let near = c.requires difference_column in omega (arith, ints, near.0, near.1)

pub overflow_add-result-3 : goal.overflow_add-result-3
overflow_add-result-3 c =
    let near = c.requires goals_column in omega (arith, ints, near.0, near.1)

pub overflow_add-result-4 : goal.overflow_add-result-4
overflow_add-result-4 c =
    let near = c.requires away_goals_column in omega (arith, ints, near.0, near.1)

pub overflow_add-result-5 : goal.overflow_add-result-5
overflow_add-result-5 c =
    let near = c.requires wins_column in omega (arith, ints, near.0, near.1)

pub overflow_add-result-6 : goal.overflow_add-result-6
overflow_add-result-6 c =
    let near = c.requires away_wins_column in omega (arith, ints, near.0, near.1)

pub returns : goal.returns
returns c =
    let points = c.requires points_column in
    let difference = c.requires difference_column in
    let goals = c.requires goals_column in
    let away_goals = c.requires away_goals_column in
    let wins = c.requires wins_column in
    let away_wins = c.requires away_wins_column in
    let scored = c.args.scored in
    let conceded = c.args.conceded in
    let away = c.args.away in
    let away_goals_are = away_goals-is _ c.only_if.result scored conceded away
    (omega (arith, ints)) c.only_if.ensures.value in
    let away_wins_are = away_wins-is _ c.only_if-2.result scored conceded away
    (omega (arith, ints)) c.only_if-2.ensures.value in
    grown c.args.self.now _ scored conceded away (omega arith) (omega arith)
    (each_column _
    (omega (arith, ints, points.0, points.1))
    (omega (arith, ints, difference.0, difference.1))
    (omega (arith, ints, goals.0, goals.1))
    (omega (arith, ints, away_goals.0, away_goals.1, away_goals_are))
    (omega (arith, ints, wins.0, wins.1))
    (omega (arith, ints, away_wins.0, away_wins.1, away_wins_are)))
