use Rattle.std.proofs.Common.{◌-◌}
use Rattle.port_core.specs.Contents.{input_limit}
use Rattle.result_log.specs.inside.Rounds.{live_entry}
use Rattle.plain_rounds.specs.inside.Feeding.{HasComeOn, IsSeasonReported}
use Rattle.worker_gate.proofs.feeder.feed_open.Given as goal

-- the lines so far told the events that the front has more than before
abbrev pub invariant-entries : goal.invariant-entries
invariant-entries g l = record {
  reported : IsSeasonReported g.J.Job.sheet l.feeder.front l.feeder.season l.feeder.events;
  come : HasComeOn g.S.Source.left g.S.Source.ended g.S.Source.faults g.S.Source.reads
      (live_entry g.J.Job.sheet) l.fn.feeder.front l.feeder.front l.fn.reader l.reader l.fn.source
      l.source;
}

-- the bytes that may still be passed
abbrev pub decreases-entries : goal.decreases-entries
decreases-entries g l = input_limit - l.reader.position.bytes
