use Rattle.std.proofs.Common.{length, get_or}
use Rattle.near_bound.specs.inside.FitEnds.{AreRivalsSoFar}
use Rattle.near_bound.proofs.tie.Tie.apart_from.Given as goal

-- what holds of the rivals up to the next open fixture
abbrev pub invariant-loop-number : goal.invariant-loop-number
invariant-loop-number l =
    AreRivalsSoFar l.self l.club (get_or l.open l.number-index
    (length l.self.left.now.sheet.now.fixtures)) l.apart
