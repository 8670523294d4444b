use Rattle.std.proofs.Common.{◌≡◌, ℕ, ◌<◌, ◌≤◌, length, slice_index}
use Rattle.league_core.specs.game.ClubSets.{clubs_below}
use Rattle.flow_bound.proofs.places.places_of.Given as goal

-- the clubs so far have their places, and so many of the set are among them
abbrev pub invariant-loop-club : goal.invariant-loop-club
invariant-loop-club l = record {
  long : length l.places ≡ 32;
  count : l.count ≡ length (clubs_below l.club l.set.bits);
  few : l.count ≤ l.club;
  done : (other : ℕ) → other < l.club
      → slice_index l.places other ≡ length (clubs_below other l.set.bits);
}
