use Rattle.std.proofs.Common.{ap, ◌∙◌}
use Rattle.reason_core.specs.declared.piece.Piece.{Piece}
use Rattle.reason_core.specs.inside.Dones.{done_of}
use Rattle.branch_rules.proofs.FoundLemmas.{work_is_done}
use Rattle.branch_rules.proofs.piece_work.work_with.Goals as goal

pub returns : goal.returns
returns c =
    work_is_done c.args.sheet.now c.args.piece.now c.in_ok-finding.finding c.of.result
    (c.of.ensures
    ∙ ap (λ (piece : Piece). done_of piece c.in_ok-finding.finding) c.in_ok-copy.ensures)
    c.in_ok-finding.ensures
