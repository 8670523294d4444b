use Rattle.std.proofs.Common.{ap, ◌∙◌, map}
use Rattle.cert_text.specs.TreeLines.{marked_line, with_spent_head}
use Rattle.answer_rows.proofs.part.Part+ProofLine.spent.Goals as goal

pub returns-clause-lines : goal.returns-clause-lines
returns-clause-lines c =
    c.in_ok-lines.ensures
    ∙ ap (λ nodes. with_spent_head c.args.question.now.claim (map marked_line nodes))
    (c.as_slice.ensures.value ∙ c.in_ok-nodes.ensures)
