-- A row that is written reads back as its fields.
use Rattle.std.proofs.Common.{◌≡◌, ◌<◌, ℕ, List, [], ◌∷◌, length, sym, ap, ◌∙◌, arith}
use Rattle.std.proofs.lemmas.List.{append-nil}
use Rattle.csv.specs.Machine.{next_record}
use Rattle.csv.specs.Reading.{default_config}
use Rattle.csv.specs.declared.parser.State.TheVariants as st
use Rattle.csv.proofs.RoundTrip.{read-write}
use Rattle.cert_text.specs.Rows.{text_of_row, ReadsBack}

pub reads_back : (text : List ℕ) (fields : List (List ℕ)) → text ≡ text_of_row fields
    → 0 < length fields → ReadsBack text fields
reads_back text [] written some = absurd (omega arith)
reads_back text (field ∷ fields) written some =
    ap (next_record default_config st.StartRecord [] [])
    (written ∙ sym (append-nil (text_of_row (field ∷ fields))))
    ∙ read-write (field ∷ fields) []
