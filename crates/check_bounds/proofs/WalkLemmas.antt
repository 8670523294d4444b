-- Several tables in one walk: none yet, one match more, and all of them.
use Rattle.std.proofs.Common.{◌≡◌, ℕ, ◌+◌, ◌<◌, ◌≤◌, Bool, ◌&&◌, List, [], length}
use Rattle.std.proofs.Common.{get_or, replicate}
use Rattle.league_core.specs.declared.sheet.Fixture.{Fixture}
use Rattle.league_core.specs.declared.season.Score.{Score}
use Rattle.league_core.specs.game.Sums.{has_club, worth_among, match_points, goal_difference, goals}
use Rattle.check_bounds.specs.declared.records.Records.{Records}
use Rattle.check_bounds.specs.inside.IntRanges.{no_range}
use Rattle.check_bounds.specs.inside.Tables.{worth_if}
use Rattle.check_bounds.specs.inside.Walks.{AreRecordsNear, AddsRecord, AreRecordsOf}
use Rattle.check_bounds.proofs.TableLemmas.{IsTableSoFar, table_none, table_all, adds_more}
use Rattle.check_bounds.proofs.TableLemmas.{so_far_near}

-- tables without a match
abbrev pub no_records : Records
no_records = record {
  points = replicate 32 no_range;
  difference = replicate 32 no_range;
  goals = replicate 32 no_range;
}

-- each table so far
pub record AreRecordsSoFar (group : List ℕ) (fixtures : List Fixture) (corners : List (List Score))
    (count : ℕ) (records : Records) : Type 0 where
  pub points : IsTableSoFar (worth_among group match_points) fixtures corners count records.points
  pub difference : IsTableSoFar (worth_among group goal_difference) fixtures corners count
      records.difference
  pub goals : IsTableSoFar (worth_among group goals) fixtures corners count records.goals

pub records_none : (group : List ℕ) (fixtures : List Fixture) (corners : List (List Score))
    → AreRecordsSoFar group fixtures corners 0 no_records
records_none group fixtures corners = record {
  points = table_none (worth_among group match_points) fixtures corners;
  difference = table_none (worth_among group goal_difference) fixtures corners;
  goals = table_none (worth_among group goals) fixtures corners;
}

pub records_near : (group : List ℕ) (fixtures : List Fixture) (corners : List (List Score))
    (count : ℕ) (records : Records) → count < 600
    → AreRecordsSoFar group fixtures corners count records → AreRecordsNear records
records_near group fixtures corners count records few so_far = record {
  points = so_far_near (worth_among group match_points) fixtures corners count records.points few
      so_far.points;
  difference = so_far_near (worth_among group goal_difference) fixtures corners count
      records.difference few so_far.difference;
  goals = so_far_near (worth_among group goals) fixtures corners count records.goals few
      so_far.goals;
}

-- one match more
pub records_more : (group : List ℕ) (fixtures : List Fixture) (corners : List (List Score))
    (count : ℕ) (old new : Records) (d : Fixture) (counts : Bool) (own : List Score)
    → count < length fixtures → count < length corners → own ≡ get_or corners count []
    → counts ≡ (has_club group (get_or fixtures count d).home
    && has_club group (get_or fixtures count d).away)
    → AreRecordsSoFar group fixtures corners count old
    → AddsRecord counts (get_or fixtures count d) own old new
    → AreRecordsSoFar group fixtures corners (count + 1) new
records_more group fixtures corners count old new d counts own inside there own_is is so_far adds =
    record {
      points = adds_more (worth_among group match_points) match_points fixtures corners count
          old.points new.points d counts own inside there own_is
          (λ club i. worth_if (is i) match_points (get_or fixtures count d) club)
          so_far.points adds.points;
      difference = adds_more (worth_among group goal_difference) goal_difference fixtures corners
          count old.difference new.difference d counts own inside there own_is
          (λ club i. worth_if (is i) goal_difference (get_or fixtures count d) club)
          so_far.difference adds.difference;
      goals = adds_more (worth_among group goals) goals fixtures corners count
          old.goals new.goals d counts own inside there own_is
          (λ club i. worth_if (is i) goals (get_or fixtures count d) club)
          so_far.goals adds.goals;
    }

-- all of them
pub records_all : (group : List ℕ) (fixtures : List Fixture) (corners : List (List Score))
    (count : ℕ) (records : Records) → length fixtures ≤ count
    → AreRecordsSoFar group fixtures corners count records
    → AreRecordsOf group fixtures corners records
records_all group fixtures corners count records all so_far = record {
  points = table_all (worth_among group match_points) fixtures corners count records.points all
      so_far.points;
  difference = table_all (worth_among group goal_difference) fixtures corners count
      records.difference all so_far.difference;
  goals = table_all (worth_among group goals) fixtures corners count records.goals all
      so_far.goals;
}
