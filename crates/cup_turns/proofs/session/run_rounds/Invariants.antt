use Rattle.std.proofs.Common.{◌≡◌, ◌-◌, ℕ, Bool, List, Option}
use Rattle.port_core.specs.Contents.{input_limit}
use Rattle.port_core.specs.Readers.{stream_of}
use Rattle.cup_turns.specs.inside.CupRounds.{WasRead}
use Rattle.cup_turns.specs.inside.CupTurns.{CupComesOn, PathToCup}
use Rattle.cup_turns.proofs.session.run_rounds.Given as goal

-- the way and the reads led here from wherever they led before, and the counts of faults are as
-- they were
abbrev pub invariant-rounds : goal.invariant-rounds
invariant-rounds g l = record {
  read : WasRead l.run.sheet.now l.so_far;
  way : (input : Option (List ℕ)) (ended : Bool) (old : Option (List ℕ))
      → PathToCup (g.A.CupAnswers.answers l.run.answers.now) l.run.cup.now l.fn.unread input ended
      (stream_of l.fn.reader (g.S.Source.left l.fn.source)) (g.S.Source.ended l.fn.source)
      l.fn.reader.position old (g.K.Sink.holds l.fn.sink)
      → PathToCup (g.A.CupAnswers.answers l.run.answers.now) l.run.cup.now l.so_far input ended
      (stream_of l.reader (g.S.Source.left l.source)) (g.S.Source.ended l.source)
      l.reader.position old (g.K.Sink.holds l.sink);
  come : CupComesOn g.S.Source.left g.S.Source.reads l.run.cup.now l.fn.unread l.so_far
      l.fn.reader l.reader l.fn.source l.source;
  reads : g.S.Source.faults l.source ≡ g.S.Source.faults l.fn.source;
  writes : g.K.Sink.faults l.sink ≡ g.K.Sink.faults l.fn.sink;
}

-- the bytes that may still be passed
abbrev pub decreases-rounds : goal.decreases-rounds
decreases-rounds g l = input_limit - l.reader.position.bytes
