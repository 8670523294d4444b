use Rattle.std.proofs.Common.{subst}
use Rattle.cup_check.specs.inside.CupGoes.{CupReportView, IsJudgedInCup}
use Rattle.cup_check.proofs.report.CupReport.recall_invariant.Goals as goal

pub returns : goal.returns
returns c =
    let P : CupReportView → Type 0 = λ it. IsJudgedInCup it.basis.cup it.basis.seasons in
    subst P c.self.view_is c.self.invariant
