-- Behind its key the list of groups is due.
use Rattle.std.proofs.Common.{◌∙◌, ap, refl}
use Rattle.club_keys.specs.inside.KeyEnds.{key_parts}
use Rattle.cup_grammar.specs.CupDues.{groups_line, key_line}
use Rattle.cup_check.specs.inside.CupSideCalls.{after_key_if}
use Rattle.cup_check.proofs.CupCallLemmas.{goes_behind}
use Rattle.cup_check.proofs.report.CupReport.key_line.Goals as goal

pub returns-in-Some : goal.returns-in-Some
returns-in-Some c = λ from is.
    let claim = c.args.side.claim in
    let club = c.args.side.club in
    goes_behind c.args.self.now from c.args.at c.args.token.now is
    (key_line claim club) (groups_line claim club (key_parts c.in-Some.key)) refl
    (c.key_in.ensures c.args.self.now.basis claim club ∙ ap (after_key_if claim club) c.in-Some.is)
    c.groups_line.result c.groups_line.ensures
