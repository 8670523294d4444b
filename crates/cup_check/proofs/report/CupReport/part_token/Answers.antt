-- A proof line is what may come.
use Rattle.std.proofs.Common.{refl, subst}
use Rattle.cup_grammar.specs.declared.token.CupToken.{CupToken}
use Rattle.cup_grammar.specs.CupDues.{after_cup_part, one_part}
use Rattle.cup_check.specs.inside.CupGoes.{IsNextInCup}
use Rattle.cup_check.proofs.CupCallLemmas.{taken_goes}
use Rattle.cup_check.proofs.report.CupReport.part_token.Goals as goal

pub returns-in-Proof : goal.returns-in-Proof
returns-in-Proof c = λ from is.
    let judged = c.args.self.now in
    let claim = c.args.side.claim in
    let club = c.args.side.club in
    let shown = c.in-Proof.line in
    let at = c.args.at in
    let Is : CupToken → Type 0 = λ it. IsNextInCup judged from at it in
    taken_goes judged from at shown (subst Is c.in-Proof.is is)
    (one_part claim club) (after_cup_part judged.basis claim club shown) refl
    c.part_line.result c.part_line.ensures
