-- The line has the score of the fixture, or may not come there.
use Rattle.std.proofs.Common.{◌+◌, List, Option, Ok, ap, subst, sym}
use Rattle.league_core.specs.declared.season.Score.{Score}
use Rattle.league_core.specs.game.Results.{Results}
use Rattle.cert_check.specs.declared.stop.CheckStopAt.TheVariants.{BadLine}
use Rattle.cert_check.proofs.GoesLemmas.{next_is_bad}
use Rattle.cup_grammar.specs.CupDues.{score}
use Rattle.cup_grammar.specs.CupReports.{cup_grammar}
use Rattle.cup_check.specs.inside.JointCalls.{GoesOverScore}
use Rattle.cup_check.proofs.JointCallLemmas.{over_scored, score_stops}
use Rattle.cup_check.proofs.report.CupReport.score_line.Goals as goal

pub returns-in-Some-clause-goes : goal.returns-in-Some-clause-goes
returns-in-Some-clause-goes c = λ from next.
    let judged = c.args.self.now in
    let first = c.args.group.now.start.fixture in
    let fixture = c.args.fixture in
    let scores = c.args.finish.now.scores in
    let G : List (Option Score) → Type 0 = λ new. GoesOverScore judged from first fixture
    scores new (Ok (c.args.at + 1)) in
    subst G (sym (ap (λ (it : Results). it.scores) c.apply.ensures))
    (over_scored judged from c.args.at c.args.token.now next first fixture
    scores c.in-Some.score c.requires.in_range c.requires.unplayed
    (λ claim club ended left many. c.in-Some.ensures.score judged.basis claim club ended left
    c.requires.of_cup many))

pub returns-in-None-clause-goes : goal.returns-in-None-clause-goes
returns-in-None-clause-goes c = λ from next.
    let judged = c.args.self.now in
    let first = c.args.group.now.start.fixture in
    let fixture = c.args.fixture in
    let scores = c.args.finish.now.scores in
    score_stops judged from first fixture scores scores (BadLine c.args.at)
    c.requires.in_range c.requires.unplayed
    (λ claim club ended left many. next_is_bad cup_grammar judged from c.args.at
    c.args.token.now next (score claim club ended left)
    (c.in-None.ensures.score judged.basis claim club ended left c.requires.of_cup many))
