use Rattle.std.proofs.Common.{◌+◌, ◌*◌, length, get_or}
use Rattle.near_bound.specs.inside.FitEnds.{AreClubsSoFar, AreAllNear}
use Rattle.near_bound.proofs.tie.Tie.fit_ends.Given as goal

-- what holds of the clubs up to the next open fixture
abbrev pub invariant-loop-number : goal.invariant-loop-number
invariant-loop-number l = record {
  walked : AreClubsSoFar l.self (get_or l.open l.number-index
      (length l.self.left.now.sheet.now.fixtures)) l.all;
  near : AreAllNear l.self (1800 + 6 * l.number-index) l.all.ends;
}
