use Rattle.std.proofs.Common.{IfSome, subst}
use Rattle.league_core.specs.game.Questions.{IsExample}
use Rattle.local_search.specs.inside.WalkedViews.{WalkedView}
use Rattle.local_search.proofs.walking_solver.WalkingSolver.walked.Goals as goal

pub returns-in-Some : goal.returns-in-Some
returns-in-Some g c = λ zone.
    let inside = c.self.inside in
    let question = c.args.question.now in
    let example = subst (λ found. IfSome found (λ pair. IsExample inside.sheet.now
    inside.season.now question pair.0 pair.1)) c.in-Some.is c.in_ok-finish.ensures in
    let P : WalkedView → Type 0 = λ view. IsExample view.sheet view.season question
    c.in-Some.finish c.in-Some.lots in
    subst P c.self.view_is example
