use Rattle.std.proofs.Common.{◌≡◌, ◌≤◌, Bool, length, take}
use Rattle.flow_bound.specs.declared.tally.Pair.{Pair}
use Rattle.flow_bound.specs.inside.Fixtures.{sum_at}
use Rattle.flow_bound.specs.inside.Meetings.{AreHeld, IsTestOfSide}
use Rattle.flow_bound.specs.inside.Parts.{side_of}
use Rattle.flow_bound.proofs.meetings.hold_meetings.Given as goal

-- the numbers of the matches so far that are these
abbrev pub invariant-loop-i : goal.invariant-loop-i
invariant-loop-i l = record {
  many : l.count ≤ l.i;
  long : length l.held ≡ 600;
  in_range : AreHeld (length l.zone_box.season.scores) l.count l.held;
  sums : (test : Pair → Bool) → IsTestOfSide (side_of l.set) test
      → sum_at test l.cut l.zone_box (take l.count l.held)
      ≡ sum_at test l.cut l.zone_box (take l.i l.unplayed);
}
