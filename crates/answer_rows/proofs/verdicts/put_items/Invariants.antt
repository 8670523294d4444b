use Rattle.std.proofs.Common.{◌≡◌, drop}
use Rattle.answer_rows.specs.inside.Verdicts.{text_of_items}
use Rattle.answer_rows.proofs.OutputLemmas.{IsDue}
use Rattle.answer_rows.proofs.verdicts.put_items.Given as goal

-- the items from here on are due
abbrev pub invariant-loop-verdict : goal.invariant-loop-verdict
invariant-loop-verdict g l =
    IsDue (text_of_items g.L.LineText.text l.proofs l.sheet l.verdicts)
    (text_of_items g.L.LineText.text l.proofs l.sheet (drop l.verdict-index l.verdicts))
    (g.K.Sink.holds l.fn.sink) (g.K.Sink.holds l.sink)
    × (g.K.Sink.faults l.sink ≡ g.K.Sink.faults l.fn.sink)
