use Rattle.std.proofs.Common.{◌≡◌, drop}
use Rattle.answer_rows.proofs.OutputLemmas.{IsDue}
use Rattle.answer_rows.specs.ScoreTexts.{text_of_score_items}
use Rattle.answer_rows.proofs.scores.put_items.Given as goal

-- the items from here on are due
abbrev pub invariant-loop-found : goal.invariant-loop-found
invariant-loop-found g l =
    IsDue (text_of_score_items l.sheet l.scores)
    (text_of_score_items l.sheet (drop l.found-index l.scores))
    (g.K.Sink.holds l.fn.sink) (g.K.Sink.holds l.sink)
    × (g.K.Sink.faults l.sink ≡ g.K.Sink.faults l.fn.sink)
