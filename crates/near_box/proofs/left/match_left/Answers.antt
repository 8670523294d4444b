-- The goals of the three outcomes are those of all scores of the cell.
use Rattle.std.proofs.Common.{Option, false, refl, subst}
use Rattle.league_core.specs.search.Options.{is_home_win, is_draw, is_away_win}
use Rattle.score_box.specs.declared.cell.goals.ScoreRange.{ScoreRange}
use Rattle.near_box.specs.inside.CellMatches.{IsRangeIfAny}
use Rattle.near_box.proofs.HullLemmas.{either_of}
use Rattle.near_box.proofs.CellMatchLemmas.{match_is, nothing_is}
use Rattle.near_box.proofs.left.match_left.Goals as goal

pub returns-in-Some : goal.returns-in-Some
returns-in-Some c =
    let cell = c.args.cell.now in
    let Says : Option ScoreRange → Type 0 = λ goals. IsRangeIfAny cell
    (either_of (either_of is_home_win is_draw) is_away_win) goals in
    let homes = c.home_wins-home_wins.ensures.goals in
    let levels = c.draws-draws.ensures.goals in
    let aways = c.away_wins-away_wins.ensures.goals in
    match_is cell c.home_wins-home_wins.result c.draws-draws.result c.away_wins-away_wins.result
    c.in-Some.goals (record {
      home_win = c.is_some.result;
      draw = c.is_some-in-Some.result;
      away_win = c.is_some-in-Some-2.result;
      home_least = c.in-Some.goals.home_least;
      home_most = c.in-Some.goals.home_most;
      away_least = c.in-Some.goals.away_least;
      away_most = c.in-Some.goals.away_most;
    }) homes levels aways
    (subst Says c.in-Some.is
    (c.either-2.ensures cell (either_of is_home_win is_draw) is_away_win
    (c.either.ensures cell is_home_win is_draw homes levels) aways))
    c.is_some.ensures c.is_some-in-Some.ensures c.is_some-in-Some-2.ensures refl refl refl refl

pub returns-in-None : goal.returns-in-None
returns-in-None c =
    let cell = c.args.cell.now in
    let Says : Option ScoreRange → Type 0 = λ goals. IsRangeIfAny cell
    (either_of (either_of is_home_win is_draw) is_away_win) goals in
    let homes = c.home_wins-home_wins.ensures.goals in
    let levels = c.draws-draws.ensures.goals in
    let aways = c.away_wins-away_wins.ensures.goals in
    nothing_is cell (record {
      home_win = false;
      draw = false;
      away_win = false;
      home_least = 1;
      home_most = 0;
      away_least = 1;
      away_most = 0;
    })
    (subst Says c.in-None.is
    (c.either-2.ensures cell (either_of is_home_win is_draw) is_away_win
    (c.either.ensures cell is_home_win is_draw homes levels) aways))
    refl refl refl
