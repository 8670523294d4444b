use Rattle.std.proofs.Common.{◌≡◌, ◌-◌, ℕ, Bool, List, Option}
use Rattle.port_core.specs.Contents.{input_limit}
use Rattle.port_core.specs.Readers.{stream_of}
use Rattle.session_turns.specs.inside.Progress.{PathToPool}
use Rattle.session_turns.specs.inside.TurnReads.{ComesOn}
use Rattle.session_turns.specs.inside.Turns.{IsLive}
use Rattle.futmax_main.proofs.session.run_rounds.Given as goal

-- the pool is live and of the sheet, the way and the reads led here from wherever they led to the
-- first round, and the counts of faults are as they were
abbrev pub invariant-rounds : goal.invariant-rounds
invariant-rounds g l =
    IsLive l.setup.mode l.live × (l.sheet ≡ l.live.sheet)
    × ((input : Option (List ℕ)) (ended : Bool) (old : Option (List ℕ))
    → PathToPool l.setup.mode input ended (stream_of l.fn.reader (g.S.Source.left l.fn.source))
    (g.S.Source.ended l.fn.source) l.fn.reader.position l.fn.pool old (g.K.Sink.holds l.fn.sink)
    → PathToPool l.setup.mode input ended (stream_of l.reader (g.S.Source.left l.source))
    (g.S.Source.ended l.source) l.reader.position l.live old (g.K.Sink.holds l.sink))
    × ComesOn g.S.Source.left g.S.Source.reads l.setup.mode l.fn.pool l.live l.fn.reader l.reader
    l.fn.source l.source
    × (g.S.Source.faults l.source ≡ g.S.Source.faults l.fn.source)
    × (g.K.Sink.faults l.sink ≡ g.K.Sink.faults l.fn.sink)

-- the bytes of the input that may still be passed
abbrev pub decreases-rounds : goal.decreases-rounds
decreases-rounds g l = input_limit - l.reader.position.bytes
