use Rattle.std.proofs.Common.{◌≡◌, ◌≤◌, ◌-◌, List}
use Rattle.league_core.specs.declared.season.Event.{Event}
use Rattle.port_core.specs.Contents.{input_limit}
use Rattle.cup_turns.specs.inside.CupRounds.{IsAfterEvents, IsReadOn, WasRead}
use Rattle.cup_turns.proofs.round.read_on.Given as goal

-- the feed is read so far, from whatever events it was read after before
abbrev pub invariant-entries : goal.invariant-entries
invariant-entries g l = record {
  read : WasRead l.sheet l.so_far;
  come : (log : List Event) → IsAfterEvents l.sheet log l.fn.so_far
      → IsReadOn g.S.Source.left g.S.Source.ended g.S.Source.faults g.S.Source.reads l.sheet log
      l.so_far l.fn.reader l.reader l.fn.source l.source;
  forth : l.fn.reader.position.bytes ≤ l.reader.position.bytes;
  counts : g.S.Source.faults l.source ≡ g.S.Source.faults l.fn.source;
}

-- the bytes that may still be passed
abbrev pub decreases-entries : goal.decreases-entries
decreases-entries g l = input_limit - l.reader.position.bytes
