-- What a call that goes over one item says of it alone.
use Rattle.std.proofs.Common.{◌≡◌, ◌<◌, ◌+◌, [], ◌∷◌, Some, None, Result, Ok, Err}
use Rattle.std.proofs.Common.{sym, ap, ◌∙◌, get_or, length}
use Rattle.cert_check.specs.declared.item.PartRead.{PartRead}
use Rattle.cert_check.specs.declared.stop.CheckStopAt.{CheckStopAt}
use Rattle.cert_check.specs.declared.stop.CheckStopAt.TheVariants as halt
use Rattle.cert_check.specs.ExpectedItems.{Expected, ask_row, verdict_row}
use Rattle.cert_check.specs.Machine.{report_grammar, rows_of}
use Rattle.cert_check.specs.inside.Calls.{ReportView, ending_from, GoesOverItem}
use Rattle.cert_check.proofs.GoesLemmas.{ends_whole}
use Rattle.par_check.specs.declared.asks.Item.{Item}
use Rattle.par_check.specs.declared.item_due.ItemRow.{ItemRow}
use Rattle.cert_check.specs.inside.Pieces.{unproved_in}
use Rattle.par_check.specs.Cuts.{unproved_of}

-- what an item that was gone over says
abbrev pub ToldOf : ReportView → Item → Result PartRead CheckStopAt → Type 0
ToldOf judged item (Ok found) = None ≡ unproved_of judged.tokens judged.basis item
ToldOf judged item (Err (halt.BadLine at)) = None ≡ unproved_of judged.tokens judged.basis item
ToldOf judged item (Err (halt.NoProof at)) =
    (at < length judged.tokens) × (Some at ≡ unproved_of judged.tokens judged.basis item)
ToldOf judged item (Err halt.Short) = None ≡ unproved_of judged.tokens judged.basis item
ToldOf judged item (Err halt.OutOfMemory) = Unit {0}

-- an item that is gone over has no line that is no proof; one at which the reading stops has one
-- exactly where it stops so
pub item_told : (judged : ReportView) (item : Item) (row : ItemRow)
    (result : Result PartRead CheckStopAt)
    → get_or (rows_of judged.basis.sheet) item.question_row ask_row
    ≡ verdict_row row.line row.club
    → GoesOverItem judged item.from row.line row.club result → ToldOf judged item result
item_told judged item row (Ok found) due goes =
    let named = λ (it : Expected). unproved_in (ending_from judged item.from (it ∷ []) 0) in
    let ends = ends_whole report_grammar judged found.next (0 + found.unsettled) in
    ap unproved_in (sym (goes.1 [] 0 ∙ ends)) ∙ sym (ap named due)
item_told judged item row (Err (halt.BadLine at)) due goes =
    let named = λ (it : Expected). unproved_in (ending_from judged item.from (it ∷ []) 0) in
    ap unproved_in (sym (goes.1 [] 0)) ∙ sym (ap named due)
item_told judged item row (Err (halt.NoProof at)) due goes =
    let named = λ (it : Expected). unproved_in (ending_from judged item.from (it ∷ []) 0) in
    (goes.0, ap unproved_in (sym (goes.1 [] 0)) ∙ sym (ap named due))
item_told judged item row (Err halt.Short) due goes =
    let named = λ (it : Expected). unproved_in (ending_from judged item.from (it ∷ []) 0) in
    ap unproved_in (sym (goes [] 0)) ∙ sym (ap named due)
item_told judged item row (Err halt.OutOfMemory) due goes = tt
