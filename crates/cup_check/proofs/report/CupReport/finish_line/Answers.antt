-- The head is that of the side, of the other side, or of no joint finish.
use Rattle.std.proofs.Common.{◌≡◌, ◌∙◌, true, arith, subst, sym}
use Rattle.std.proofs.lemmas.Grind.{common_steps}
use Rattle.line_tokens.specs.LineRanges.{same_claim}
use Rattle.cert_check.specs.LineGrammars.{Next}
use Rattle.cup_grammar.specs.CupDues.{CupDue}
use Rattle.cup_check.specs.inside.CupSideCalls.{TakesNextInCup}
use Rattle.cup_check.proofs.CupReachLemmas.{head_of_side}
use Rattle.cup_check.proofs.report.CupReport.finish_line.Goals as goal

pub returns-in-Some : goal.returns-in-Some
returns-in-Some c =
    let judged = c.args.self.now in
    let Takes : Next CupDue → Type 0 =
    λ next. TakesNextInCup judged next c.args.at c.joint_finish.result in
    let same : same_claim c.in-Some.claim c.args.side.claim ≡ true = cc in
    subst Takes
    (sym (head_of_side judged.basis c.args.side.claim c.args.side.club c.args.line.now
    c.in-Some.claim (sym c.claim_of.ensures ∙ c.in-Some.is) same)) c.joint_finish.ensures

pub returns-in_default : goal.returns-in_default
returns-in_default c = grind (arith, common_steps)
