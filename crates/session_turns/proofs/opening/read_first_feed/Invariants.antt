use Rattle.std.proofs.Common.{◌≡◌, ◌-◌, ℕ, Bool, false, List, Option}
use Rattle.port_core.specs.Contents.{input_limit}
use Rattle.port_core.specs.Readers.{stream_of}
use Rattle.command_words.specs.declared.command.Mode.TheVariants.{Resume}
use Rattle.session_turns.specs.Courses.{course_from, first_origin}
use Rattle.session_turns.specs.inside.TurnReads.{OpensOn}
use Rattle.session_turns.specs.inside.Turns.{IsLive, IsUnworked}
use Rattle.session_turns.proofs.opening.read_first_feed.Given as goal
use Rattle.run_ends.specs.inside.Ways.{Path}
use Rattle.session_turns.specs.Texts.{session_kind}

-- the pool is live and was not worked on, the way and the reads led here from wherever they led to
-- the first round, and the count of faults is as it was
abbrev pub invariant-rounds : goal.invariant-rounds
invariant-rounds g l = record {
  live : IsLive (Resume false) l.live;
  unworked : IsUnworked l.live;
  way : (proofs : Bool) (input : Option (List ℕ)) (ended : Bool) (old now : Option (List ℕ))
      → Path (session_kind (Resume proofs)) input ended (stream_of l.fn.reader (g.S.Source.left
      l.fn.source))
      (g.S.Source.ended l.fn.source) l.fn.reader.position
      (course_from (Resume proofs) (first_origin l.fn.pool.sheet) l.fn.pool.log) old now
      → Path (session_kind (Resume proofs)) input ended (stream_of l.reader (g.S.Source.left
      l.source))
      (g.S.Source.ended l.source) l.reader.position
      (course_from (Resume proofs) (first_origin l.live.sheet) l.live.log) old now;
  come : OpensOn g.S.Source.left g.S.Source.reads l.fn.pool l.live l.fn.reader l.reader l.fn.source
      l.source;
  counts : g.S.Source.faults l.source ≡ g.S.Source.faults l.fn.source;
}

-- the bytes of the input that may still be passed
abbrev pub decreases-rounds : goal.decreases-rounds
decreases-rounds g l = input_limit - l.reader.position.bytes
