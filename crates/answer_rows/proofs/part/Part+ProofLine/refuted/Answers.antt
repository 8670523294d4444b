use Rattle.answer_rows.proofs.PartLemmas.{refuted_part}
use Rattle.answer_rows.proofs.part.Part+ProofLine.refuted.Goals as goal

pub returns-clause-part : goal.returns-clause-part
returns-clause-part c =
    refuted_part c.args.sheet.now c.args.season.now c.args.question.now c.args.tree.now
    c.in_ok-lines.lines c.requires c.in_ok-lines.ensures
