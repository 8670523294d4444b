use Rattle.std.proofs.Common.{Some, ap, sym, ◌∙◌}
use Rattle.cert_text.specs.declared.proof_line.ProofLine.TheVariants as line
use Rattle.cert_text.proofs.PlainFormLemmas.{lots_at_end}
use Rattle.cert_text.proofs.plain_form.lots_line.Goals as goal

pub returns-in-Some : goal.returns-in-Some
returns-in-Some c =
    lots_at_end c.args.text.now c.in-Some.clubs.items (rw c.in-Some.is at c.in_ok-clubs.ensures)
    ∙ ap (λ list. Some (line.Lots (record { list = list }))) (sym c.from_vec.ensures)
