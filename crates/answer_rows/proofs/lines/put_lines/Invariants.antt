use Rattle.std.proofs.Common.{◌≡◌, drop}
use Rattle.answer_rows.specs.Rows.{text_of_lines}
use Rattle.answer_rows.proofs.OutputLemmas.{IsDue}
use Rattle.answer_rows.proofs.lines.put_lines.Given as goal

-- the lines from here on are due
abbrev pub invariant-loop-line : goal.invariant-loop-line
invariant-loop-line g l =
    IsDue (text_of_lines g.L.LineText.text l.lines)
    (text_of_lines g.L.LineText.text (drop l.line-index l.lines))
    (g.K.Sink.holds l.fn.sink) (g.K.Sink.holds l.sink)
    × (g.K.Sink.faults l.sink ≡ g.K.Sink.faults l.fn.sink)
