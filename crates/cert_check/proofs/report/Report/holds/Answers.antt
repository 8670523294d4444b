use Rattle.std.proofs.Common.{◌≡◌, ◌&&◌, nat_le, sym, ap, ◌∙◌, subst}
use Rattle.league_core.specs.game.Ranking.{place_of, is_inside}
use Rattle.league_core.specs.game.Questions.{is_on_side}
use Rattle.cert_check.specs.inside.Calls.{ReportView}
use Rattle.cert_check.proofs.report.Report.holds.Goals as goal

pub returns-then-is_in_window : goal.returns-then-is_in_window
returns-then-is_in_window c =
    let sheet = c.args.self.now.basis.sheet in
    let question = c.args.question in
    let finish = c.args.finish.now in
    let drawn = c.args.drawn.now in
    let P : ReportView → Type 0 = λ it. c.in_ok-place.place
    ≡ place_of it.basis.sheet finish drawn question.club in
    let spot = subst P c.self.view_is (c.in_ok-place.ensures {u = tt}) in
    c.is_on_side-on_side.ensures
    ∙ ap (λ place. is_on_side (nat_le place question.line) question.claim) spot
    ∙ ap (λ b. b && is_on_side (is_inside sheet finish drawn question.club question.line)
    question.claim) (sym c.if-is_in_window.true ∙ c.is_in_window.ensures)
