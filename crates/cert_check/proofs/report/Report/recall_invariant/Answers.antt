use Rattle.std.proofs.Common.{subst}
use Rattle.league_core.specs.game.Seasons.{IsLeague}
use Rattle.cert_check.specs.inside.Calls.{ReportView}
use Rattle.cert_check.proofs.report.Report.recall_invariant.Goals as goal

pub returns : goal.returns
returns c =
    let P : ReportView → Type 0 = λ it. IsLeague it.basis.sheet it.basis.season in
    subst P c.self.view_is c.self.invariant.league
