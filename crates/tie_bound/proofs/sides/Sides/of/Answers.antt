-- The outcome of one score is that of all, and so are its goals.
use Rattle.std.proofs.Common.{◌≡◌, true, false, sym}
use Rattle.std.proofs.lemmas.Bool.{lt-ltb, eq-eqb}
use Rattle.league_core.specs.declared.season.Score.{Score}
use Rattle.league_core.specs.search.Options.{is_home_win, is_draw, is_away_win}
use Rattle.score_box.specs.inside.Cells.{allows}
use Rattle.score_box.proofs.OutcomeLemmas.{all_home_wins, all_draws, all_away_wins}
use Rattle.tie_bound.proofs.OutcomeLemmas.{home_goals_are, away_goals_are, none_of_three}
use Rattle.tie_bound.proofs.SideLemmas.{none_sums}
use Rattle.tie_bound.proofs.sides.Sides.of.Goals as goal

pub returns-in-Some-clause-home : goal.returns-in-Some-clause-home
returns-in-Some-clause-home c =
    let cell = c.args.cell.now in
    let range = c.in-Some.goals in
    let all = all_home_wins cell _ c.requires c.in-Some.ensures.widest in
    let test : (score : Score) → allows cell score ≡ true
    → is_home_win score ≡ true = λ score is. lt-ltb score.away score.home (all score is) in
    c.won.ensures cell all
    (home_goals_are cell is_home_win range c.home_goals.result test c.in-Some.ensures.goals
    c.home_goals.ensures.least c.home_goals.ensures.most)
    (away_goals_are cell is_home_win range c.away_goals.result test c.in-Some.ensures.goals
    c.away_goals.ensures.least c.away_goals.ensures.most)

pub returns-in-Some-clause-away : goal.returns-in-Some-clause-away
returns-in-Some-clause-away c =
    let cell = c.args.cell.now in
    let range = c.in-Some.goals in
    let all = all_home_wins cell _ c.requires c.in-Some.ensures.widest in
    let test : (score : Score) → allows cell score ≡ true
    → is_home_win score ≡ true = λ score is. lt-ltb score.away score.home (all score is) in
    c.lost.ensures cell all
    (away_goals_are cell is_home_win range c.away_goals-in-Some.result test c.in-Some.ensures.goals
    c.away_goals-in-Some.ensures.least c.away_goals-in-Some.ensures.most)
    (home_goals_are cell is_home_win range c.home_goals-in-Some.result test c.in-Some.ensures.goals
    c.home_goals-in-Some.ensures.least c.home_goals-in-Some.ensures.most)

pub returns-in-Some-draws-clause-home : goal.returns-in-Some-draws-clause-home
returns-in-Some-draws-clause-home c =
    let cell = c.args.cell.now in
    let all = all_draws cell _ c.requires c.in-Some-draws.ensures.least in
    let test : (score : Score) → allows cell score ≡ true
    → is_draw score ≡ true = λ score is. eq-eqb score.home score.away (all score is) in
    c.drawn.ensures cell all
    (home_goals_are cell is_draw c.in-Some-draws.goals c.home_goals-in-Some-draws.result test
    c.in-Some-draws.ensures.goals c.home_goals-in-Some-draws.ensures.least
    c.home_goals-in-Some-draws.ensures.most)

pub returns-in-Some-draws-clause-away : goal.returns-in-Some-draws-clause-away
returns-in-Some-draws-clause-away c =
    let cell = c.args.cell.now in
    let all = all_draws cell _ c.requires c.in-Some-draws.ensures.least in
    let test : (score : Score) → allows cell score ≡ true
    → is_draw score ≡ true = λ score is. eq-eqb score.home score.away (all score is) in
    c.drawn-in-Some-draws.ensures cell (λ score is. sym (all score is))
    (away_goals_are cell is_draw c.in-Some-draws.goals c.away_goals-in-Some-draws.result test
    c.in-Some-draws.ensures.goals c.away_goals-in-Some-draws.ensures.least
    c.away_goals-in-Some-draws.ensures.most)

pub returns-in-Some-away_wins-clause-home : goal.returns-in-Some-away_wins-clause-home
returns-in-Some-away_wins-clause-home c =
    let cell = c.args.cell.now in
    let range = c.in-Some-away_wins.goals in
    let all = all_away_wins cell _ c.requires c.in-Some-away_wins.ensures.widest in
    let test : (score : Score) → allows cell score ≡ true
    → is_away_win score ≡ true = λ score is. lt-ltb score.home score.away (all score is) in
    c.lost-in-Some-away_wins.ensures cell all
    (home_goals_are cell is_away_win range c.home_goals-in-Some-away_wins.result test
    c.in-Some-away_wins.ensures.goals c.home_goals-in-Some-away_wins.ensures.least
    c.home_goals-in-Some-away_wins.ensures.most)
    (away_goals_are cell is_away_win range c.away_goals-in-Some-away_wins.result test
    c.in-Some-away_wins.ensures.goals c.away_goals-in-Some-away_wins.ensures.least
    c.away_goals-in-Some-away_wins.ensures.most)

pub returns-in-Some-away_wins-clause-away : goal.returns-in-Some-away_wins-clause-away
returns-in-Some-away_wins-clause-away c =
    let cell = c.args.cell.now in
    let range = c.in-Some-away_wins.goals in
    let all = all_away_wins cell _ c.requires c.in-Some-away_wins.ensures.widest in
    let test : (score : Score) → allows cell score ≡ true
    → is_away_win score ≡ true = λ score is. lt-ltb score.home score.away (all score is) in
    c.won-in-Some-away_wins.ensures cell all
    (away_goals_are cell is_away_win range c.away_goals-in-Some-away_wins-2.result test
    c.in-Some-away_wins.ensures.goals c.away_goals-in-Some-away_wins-2.ensures.least
    c.away_goals-in-Some-away_wins-2.ensures.most)
    (home_goals_are cell is_away_win range c.home_goals-in-Some-away_wins-2.result test
    c.in-Some-away_wins.ensures.goals c.home_goals-in-Some-away_wins-2.ensures.least
    c.home_goals-in-Some-away_wins-2.ensures.most)

pub returns-clause-home : goal.returns-clause-home
returns-clause-home c =
    none_sums c.args.cell.now false
    (none_of_three c.args.cell.now c.in_default.ensures.goals c.in_default-draws.ensures.goals
    c.in_default-away_wins.ensures.goals)

pub returns-clause-away : goal.returns-clause-away
returns-clause-away c =
    none_sums c.args.cell.now true
    (none_of_three c.args.cell.now c.in_default.ensures.goals c.in_default-draws.ensures.goals
    c.in_default-away_wins.ensures.goals)
