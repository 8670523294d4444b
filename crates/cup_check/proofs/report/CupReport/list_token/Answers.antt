-- A proof line that is the list of groups, or is not.
use Rattle.std.proofs.Common.{refl, subst}
use Rattle.club_keys.specs.inside.KeyEnds.{key_parts}
use Rattle.cup_grammar.specs.declared.token.CupToken.{CupToken}
use Rattle.cup_grammar.specs.PlacedGroups.{group_with, placed_groups}
use Rattle.cup_grammar.specs.CupDues.{after_groups_in, groups_line}
use Rattle.cup_check.specs.inside.CupGoes.{IsNextInCup}
use Rattle.cup_check.proofs.CupCallLemmas.{taken_goes}
use Rattle.cup_check.proofs.report.CupReport.list_token.Goals as goal

pub returns-in-Proof : goal.returns-in-Proof
returns-in-Proof c = λ from is.
    let judged = c.args.self.now in
    let claim = c.args.side.claim in
    let club = c.args.side.club in
    let key = key_parts c.args.key in
    let line = c.in-Proof.line in
    let N : CupToken → Type 0 = IsNextInCup judged from c.args.at in
    taken_goes judged from c.args.at line (subst N c.in-Proof.is is)
    (groups_line claim club key) (after_groups_in judged.basis claim club key
    (group_with (placed_groups judged.basis) club) line) refl c.list_line.result
    c.list_line.ensures
