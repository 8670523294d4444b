use Rattle.std.proofs.Common.{◌∙◌, ◌∷◌, [], ap₂}
use Rattle.std.proofs.lemmas.Result.{IfOk-weaker}
use Rattle.cert_text.specs.Rows.{text_of_row}
use Rattle.run_ends.proofs.rows.usage_row.Goals as goal

pub returns : goal.returns
returns c =
    IfOk-weaker c.write_row.result _ _
    (λ row is. is ∙ ap₂ (λ first second. text_of_row (first ∷ second ∷ []))
    c.in_ok-text_field.ensures c.in_ok-text_field-2.ensures)
    c.write_row.ensures.text
