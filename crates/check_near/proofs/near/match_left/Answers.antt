use Rattle.std.proofs.Common.{◌&&◌}
use Rattle.check_near.proofs.MatchesOverLemmas.{goals_same, outcomes_same}
use Rattle.check_near.proofs.near.match_left.Goals as goal

pub returns : goal.returns
returns c = λ score.
    let scope = c.args.scope.now in
    let home = goals_same scope.home c.least_of.result c.most_of.result c.least_of.ensures
    c.most_of.ensures.value c.most_of.ensures.few score.home in
    let away = goals_same scope.away c.least_of-2.result c.most_of-2.result c.least_of-2.ensures
    c.most_of-2.ensures.value c.most_of-2.ensures.few score.away in
    let outcome = outcomes_same scope.home_win scope.draw scope.away_win score.home score.away in
    (λ i. (home i && away i) && outcome i)
