-- The table of a group of clubs: a row for each of its clubs.
use Rattle.std.specs.Prelude.{ℕ, List}
use Rattle.league_core.specs.declared.sheet.Sheet.{Sheet}
use Rattle.league_core.specs.game.Results.{Results}
use Rattle.league_core.specs.game.Sums.{sum_among, match_points, goal_difference, goals}
use Rattle.tie_criteria.specs.declared.triple.Triple.{Triple}
use Rattle.tie_criteria.specs.declared.mini_table.Row.{Row}

-- the club's head-to-head record in the group, part by part
abbrev pub triple_in : Sheet → Results → List ℕ → ℕ → Triple
triple_in sheet season group club = record {
  points = sum_among group match_points sheet season club;
  difference = sum_among group goal_difference sheet season club;
  scored = sum_among group goals sheet season club;
}

-- the club and its record in the group
abbrev pub row_of : Sheet → Results → List ℕ → ℕ → Row
row_of sheet season group club = record { club = club; triple = triple_in sheet season group club }
