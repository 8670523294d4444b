-- The head is that of a joint finish, or it is not.
use Rattle.std.proofs.Common.{◌∙◌, subst, sym}
use Rattle.cert_check.specs.LineGrammars.{Next}
use Rattle.cup_grammar.specs.CupDues.{CupDue}
use Rattle.cup_check.specs.inside.CupSideCalls.{TakesNextInCup}
use Rattle.cup_check.proofs.CupReachLemmas.{part_as_finish, part_as_spent, spent_alone}
use Rattle.cup_check.proofs.report.CupReport.part_line.Goals as goal

pub returns-in-Some : goal.returns-in-Some
returns-in-Some c =
    let judged = c.args.self.now in
    let shown = c.args.line.now in
    let Takes : Next CupDue → Type 0 =
    λ next. TakesNextInCup judged next c.args.at c.finish_line.result in
    subst Takes
    (part_as_finish judged.basis c.args.side.claim c.args.side.club shown _
    (sym c.claim_of.ensures ∙ c.in-Some.is)) c.finish_line.ensures

pub returns-in-None : goal.returns-in-None
returns-in-None c =
    let judged = c.args.self.now in
    let shown = c.args.line.now in
    let Takes : Next CupDue → Type 0 =
    λ next. TakesNextInCup judged next c.args.at c.spent_line.result in
    subst Takes
    (part_as_spent judged.basis c.args.side.claim c.args.side.club shown
    (sym c.claim_of.ensures ∙ c.in-None.is))
    (spent_alone judged shown c.args.at c.spent_line.result c.spent_line.ensures)
