-- Walks over the matches of a group: the records of its clubs in one walk, and their sums over all
-- matches, one measure after the other.
use Rattle.std.specs.Prelude.{ℕ, ℤ, pos, neg_ℤ, Bool, ◌||◌, if◌then◌else◌, List, [], ◌∷◌}
use Rattle.league_core.specs.declared.sheet.Sheet.{Sheet}
use Rattle.league_core.specs.declared.sheet.Fixture.{Fixture}
use Rattle.league_core.specs.declared.season.Score.{Score}
use Rattle.league_core.specs.game.Sums.{Worth, has_club, worth_to, worth_among, match_points}
use Rattle.league_core.specs.game.Sums.{goal_difference, goals}
use Rattle.league_core.specs.game.Ahead.{rank_of}
use Rattle.league_core.specs.search.PointRanges.{Range, one_value}
use Rattle.league_core.specs.search.SureOrder.{range_over}
use Rattle.check_bounds.specs.inside.Terms.{worth_by}
use Rattle.check_bounds.specs.declared.records.Records.{Records}
use Rattle.check_bounds.specs.declared.term.Measure.{Measure}
use Rattle.check_bounds.specs.declared.int_range.IntRange.{IntRange}
use Rattle.check_bounds.specs.inside.IntRanges.{range_at, IsRangeWithin}
use Rattle.check_bounds.specs.inside.Tables.{IsTableOf, TableTakes, worth_if}

-- no sum of a table is far from 0
abbrev pub IsTableNear : List IntRange → Type 0
IsTableNear table = (club : ℕ) → IsRangeWithin 500000 (range_at table club)

-- what a match is worth to a club, if an end of it is of a group
abbrev pub worth_near : List ℕ → Worth → ℕ → Fixture → Score → ℤ
worth_near group worth club match score =
    if has_club group match.home || has_club group match.away
    then worth_to worth club match score else pos 0

-- none is far from 0
pub record AreRecordsNear (records : Records) : Type 0 where
  pub points : IsTableNear records.points
  pub difference : IsTableNear records.difference
  pub goals : IsTableNear records.goals

-- each takes a match if it counts
pub record AddsRecord (counts : Bool) (match : Fixture) (corners : List Score)
    (old new : Records) : Type 0 where
  pub points : TableTakes (worth_if counts match_points match) corners old.points new.points
  pub difference : TableTakes (worth_if counts goal_difference match) corners old.difference
      new.difference
  pub goals : TableTakes (worth_if counts goals match) corners old.goals new.goals

-- the records of all clubs in a group
pub record AreRecordsOf (group : List ℕ) (fixtures : List Fixture) (corners : List (List Score))
    (records : Records) : Type 0 where
  pub points : IsTableOf (worth_among group match_points) fixtures corners records.points
  pub difference : IsTableOf (worth_among group goal_difference) fixtures corners records.difference
  pub goals : IsTableOf (worth_among group goals) fixtures corners records.goals

-- the ranges of a club's sums over all matches by these measures, and its fixed rank last
abbrev pub sum_ranges : Sheet → List (List Score) → List Measure → ℕ → List Range
sum_ranges sheet corners [] club = one_value (neg_ℤ (pos (rank_of sheet club))) ∷ []
sum_ranges sheet corners (kind ∷ kinds) club =
    range_over (worth_by kind) sheet corners club ∷ sum_ranges sheet corners kinds club
