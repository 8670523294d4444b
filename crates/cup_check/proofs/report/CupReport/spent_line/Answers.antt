-- What holds of the head holds of the line.
use Rattle.std.proofs.Common.{subst, sym}
use Rattle.cup_text.specs.declared.cup_line.CupLine.{CupLine}
use Rattle.cup_check.specs.inside.CupSideCalls.{TakesSpentInCup}
use Rattle.cup_check.proofs.report.CupReport.spent_line.Goals as goal

pub returns-in-Spent : goal.returns-in-Spent
returns-in-Spent c =
    let Takes : CupLine → Type 0 =
    λ it. TakesSpentInCup c.args.self.now it c.args.at c.spent_tree.result in
    subst Takes (sym c.in-Spent.is) c.spent_tree.ensures
