-- A proof line is what may come.
use Rattle.std.proofs.Common.{[], refl, subst}
use Rattle.cup_grammar.specs.declared.token.CupToken.{CupToken}
use Rattle.cup_grammar.specs.CupDues.{after_spent_line, spent_head}
use Rattle.cup_check.specs.inside.CupGoes.{IsNextInCup}
use Rattle.cup_check.proofs.CupCallLemmas.{taken_goes}
use Rattle.cup_check.proofs.CupReachLemmas.{spent_alone}
use Rattle.cup_check.proofs.report.CupReport.spent_token.Goals as goal

pub returns-in-Proof : goal.returns-in-Proof
returns-in-Proof c = λ from is.
    let judged = c.args.self.now in
    let shown = c.in-Proof.line in
    let at = c.args.at in
    let Is : CupToken → Type 0 = λ it. IsNextInCup judged from at it in
    taken_goes judged from at shown (subst Is c.in-Proof.is is)
    spent_head (after_spent_line judged.basis [] shown) refl c.spent_line.result
    (spent_alone judged shown at c.spent_line.result c.spent_line.ensures)
