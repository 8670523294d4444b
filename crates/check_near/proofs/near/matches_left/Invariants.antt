use Rattle.std.proofs.Common.{◌≡◌, length}
use Rattle.check_near.specs.inside.MatchesOver.{AreMatchesOf}
use Rattle.check_near.proofs.near.matches_left.Given as goal

-- the fixtures passed are in the table
abbrev pub invariant-loop-place : goal.invariant-loop-place
invariant-loop-place l = record {
  long : length l.matches ≡ 600;
  each : AreMatchesOf l.matches l.domains l.place;
}
