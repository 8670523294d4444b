use Rattle.std.proofs.Common.{◌+◌, ◌≤◌, length}
use Rattle.league_core.specs.game.ClubSets.{clubs_in}
use Rattle.flow_bound.specs.inside.Parts.{KeepsExcess, side_of}
use Rattle.flow_bound.specs.inside.Fixtures.{pairs_in}
use Rattle.flow_bound.proofs.peel.peel.Given as goal

-- what was dropped so far is no loss, and each round dropped a club
abbrev pub invariant-loop-round : goal.invariant-loop-round
invariant-loop-round l = record {
  keeps : KeepsExcess l.alone (pairs_in l.cut l.zone_box) (side_of l.fn.marked) (side_of l.rest);
  few : length (clubs_in l.rest) + l._round ≤ 32;
}
