use Rattle.std.proofs.Common.{◌≡◌, IfOk, subst}
use Rattle.check_bounds.specs.inside.Trails.{TrailView, root_of}
use Rattle.cert_check.specs.inside.Calls.{ReportView}
use Rattle.cert_check.proofs.report.Report.whole_season.Goals as goal

pub returns : goal.returns
returns c =
    let Seen : ReportView → Type 0 = λ it.
    IfOk c.copy.result (λ way. way ≡ root_of it.basis.sheet it.basis.season) in
    let Same : TrailView → Type 0 = λ root. IfOk c.copy.result (λ way. way ≡ root) in
    subst Seen c.self.view_is (subst Same c.self.invariant.whole c.copy.ensures)
