use Rattle.std.proofs.Common.{arith}
use Rattle.std.proofs.lemmas.List.{length-map}
use Rattle.cert_text.proofs.RowLemmas.{reads_back}
use Rattle.cert_text.proofs.row.write_row.Goals as goal

pub returns-clause-reads_back : goal.returns-clause-reads_back
returns-clause-reads_back c =
    reads_back _ _ c.in_ok-row.ensures
    (omega (arith, length-map c.args.fields.now (λ field. field.items), c.requires.some))
