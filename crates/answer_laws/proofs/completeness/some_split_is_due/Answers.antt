use Rattle.answer_laws.proofs.DueLemmas.{due_test}
use Rattle.answer_laws.proofs.completeness.some_split_is_due.Goals as goal

pub returns : goal.returns
returns c = λ sheet season question zone of_sheet some several.
    let due = due_test sheet season question zone of_sheet some several in
    (due.test, due.proper, due.due)
