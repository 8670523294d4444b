use Rattle.std.proofs.Common.{◌≡◌, ◌*◌, ◌∷◌, [], ℕ, List, pos, drop, length}
use Rattle.league_core.specs.declared.zone.Literal.{Literal}
use Rattle.league_core.specs.search.Options.{options_in}
use Rattle.league_core.specs.search.PointRanges.{added, range_from, points_together}
use Rattle.near_bound.specs.inside.Points.{range_of_ends, ends_listed, AreEndsWithin}
use Rattle.near_bound.specs.inside.ZonesLeft.{StandsFor}
use Rattle.near_bound.proofs.all_ends.all_won.Given as goal

-- each club's points so far, and those of the matches to come, make the whole
abbrev pub invariant-loop-i : goal.invariant-loop-i
invariant-loop-i l = record {
  long : length l.won ≡ 32;
  near : (club : ℕ) → AreEndsWithin (pos (3 * l.i)) (ends_listed l.won club);
  sums : (zone : List Literal) → StandsFor l.left zone → (club : ℕ)
      → added (range_of_ends (ends_listed l.won club))
      (range_from (points_together (club ∷ [])) (drop l.i l.left.sheet.now.fixtures)
      (drop l.i (options_in l.left.sheet.now l.left.season.now zone)))
      ≡ range_from (points_together (club ∷ [])) l.left.sheet.now.fixtures
      (options_in l.left.sheet.now l.left.season.now zone);
}
