-- The feed of a cup. It is read over one sheet that lists the clubs and the fixtures of all groups,
-- by their numbers in the cup; what has been played of a group is its part of the whole.
use Rattle.std.specs.Prelude.{ℕ, ◌+◌, List, [], ◌∷◌, ◌++◌, length, map, take, drop}
use Rattle.league_core.specs.declared.sheet.Sheet.{Sheet}
use Rattle.league_core.specs.declared.sheet.Fixture.{Fixture}
use Rattle.league_core.specs.declared.sheet.Order.TheVariants.{HeadFirst}
use Rattle.league_core.specs.declared.season.Event.{Event}
use Rattle.league_core.specs.game.Results.{Results}
use Rattle.league_core.specs.game.Seasons.{season_after}
use Rattle.cup_sheet.specs.declared.cup.Cup.{Cup}
use Rattle.cup_sheet.specs.Cups.{clubs_of_groups}

-- a fixture of a group whose first club has this number in the cup, by the numbers in the cup
abbrev pub fixture_in_cup : ℕ → Fixture → Fixture
fixture_in_cup first fixture =
    record { home = first + fixture.home; away = first + fixture.away }

-- the fixtures of the groups, group by group: so they are numbered in the cup, from 0 on
abbrev pub fixtures_from : ℕ → List Sheet → List Fixture
fixtures_from first [] = []
fixtures_from first (group ∷ groups) =
    map (fixture_in_cup first) group.fixtures ++ fixtures_from (first + length group.clubs) groups

-- the goal limit of the groups, which is that of the first
abbrev pub goal_limit_of : List Sheet → ℕ
goal_limit_of [] = 0
goal_limit_of (group ∷ groups) = group.goal_limit

-- their budget, in the same way
abbrev pub budget_of_groups : List Sheet → ℕ
budget_of_groups [] = 0
budget_of_groups (group ∷ groups) = group.budget

-- one sheet with all clubs and fixtures of the cup, for the feed alone: there is no table of it
abbrev pub joint_sheet : Cup → Sheet
joint_sheet cup = record {
  name = cup.name;
  clubs = clubs_of_groups cup.groups;
  fixtures = fixtures_from 0 cup.groups;
  lines = [];
  goal_limit = goal_limit_of cup.groups;
  budget = budget_of_groups cup.groups;
  order = HeadFirst;
}

-- what has been played of all groups, cut into that of each group
abbrev pub results_by_group : List Sheet → Results → List Results
results_by_group [] results = []
results_by_group (group ∷ groups) results =
    record {
      scores = take (length group.fixtures) results.scores;
      deductions = take (length group.clubs) results.deductions;
    }
    ∷ results_by_group groups (record {
      scores = drop (length group.fixtures) results.scores;
      deductions = drop (length group.clubs) results.deductions;
    })

-- the season of each group after these events of the cup, from the first one on
abbrev pub seasons_after : Cup → List Event → List Results
seasons_after cup events = results_by_group cup.groups (season_after (joint_sheet cup) events)
