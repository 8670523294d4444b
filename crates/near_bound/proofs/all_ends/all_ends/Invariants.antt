use Rattle.std.proofs.Common.{◌≡◌, ◌<◌, ℕ, List, length}
use Rattle.league_core.specs.declared.zone.Literal.{Literal}
use Rattle.near_laws.specs.Fits.{range_in}
use Rattle.near_bound.specs.inside.Points.{range_of_ends, ends_listed, AreEndsOfClub}
use Rattle.near_bound.specs.inside.ZonesLeft.{StandsFor}
use Rattle.near_bound.proofs.all_ends.all_ends.Given as goal

-- the clubs passed have their points
abbrev pub invariant-loop-club : goal.invariant-loop-club
invariant-loop-club l = record {
  long : length l.ends ≡ 32;
  near : (x : ℕ) → x < l.club → AreEndsOfClub (ends_listed l.ends x);
  is : (zone : List Literal) → StandsFor l.left zone → (x : ℕ) → x < l.club
      → range_of_ends (ends_listed l.ends x) ≡ range_in l.left.sheet.now l.left.season.now zone x;
}
