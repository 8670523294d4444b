-- A cup: groups, each of which plays for itself, and how many of their runners-up qualify. What the
-- rules of the input allow a cup to be, and how its clubs are numbered through all groups.
use Rattle.std.specs.Prelude.{◌≡◌, ◌≤◌, ◌<◌, ℕ, ◌+◌, IsTrue, List, [], ◌∷◌, length, All}
use Rattle.std.specs.List.{flat_map}
use Rattle.league_core.specs.declared.sheet.Sheet.{Sheet}
use Rattle.league_core.specs.declared.sheet.Club.{Club}
use Rattle.league_core.specs.declared.sheet.Order.TheVariants.{HeadFirst}
use Rattle.league_core.specs.game.Results.{Results}
use Rattle.league_core.specs.game.Seasons.{IsSeasonOf}
use Rattle.league_core.specs.game.Sheets.{IsWithinLimits, is_name, are_different, same_name}
use Rattle.cup_sheet.specs.declared.cup.Cup.{Cup}
use Rattle.cup_sheet.specs.CupLimits.{least_groups, most_groups, least_group_clubs}
use Rattle.cup_sheet.specs.CupLimits.{most_group_clubs, most_group_fixtures}

-- the clubs of all groups, group by group: so they are numbered in the cup, from 0 on
abbrev pub clubs_of_groups : List Sheet → List Club
clubs_of_groups groups = flat_map (λ (group : Sheet). group.clubs) groups

-- how many clubs the groups have together
abbrev pub clubs_together : List Sheet → ℕ
clubs_together [] = 0
clubs_together (group ∷ groups) = length group.clubs + clubs_together groups

-- a group: a sheet that may be played, of 3 to 6 clubs and at most 60 fixtures, with this goal
-- limit and this budget, in which the head-to-head record comes first
pub record IsGroup (goal_limit budget : ℕ) (group : Sheet) : Type 0 where
  pub limits : IsWithinLimits group
  pub least_clubs : least_group_clubs ≤ length group.clubs
  pub most_clubs : length group.clubs ≤ most_group_clubs
  pub most_fixtures : length group.fixtures ≤ most_group_fixtures
  pub same_goal_limit : group.goal_limit ≡ goal_limit
  pub same_budget : group.budget ≡ budget
  pub head_first : group.order ≡ HeadFirst

-- all of these are groups, with one goal limit and one budget
abbrev pub AreGroups : List Sheet → Type 0
AreGroups groups = (goal_limit : ℕ) × (budget : ℕ) × All (IsGroup goal_limit budget) groups

-- a cup that may be played: 2 to 12 groups, no two clubs of one name, and a quota that leaves at
-- least one of the runners-up inside and one outside
pub record IsCup (cup : Cup) : Type 0 where
  pub name : IsTrue (is_name cup.name)
  pub least_groups : least_groups ≤ length cup.groups
  pub most_groups : length cup.groups ≤ most_groups
  pub groups : AreGroups cup.groups
  pub different_names : IsTrue (are_different same_name (clubs_of_groups cup.groups))
  pub least_quota : 1 ≤ cup.quota
  pub most_quota : cup.quota < length cup.groups

-- one season for each of the groups
abbrev pub AreSeasonsOf : List Sheet → List Results → Type 0
AreSeasonsOf [] [] = Unit {0}
AreSeasonsOf [] (season ∷ seasons) = ⊥
AreSeasonsOf (group ∷ groups) [] = ⊥
AreSeasonsOf (group ∷ groups) (season ∷ seasons) =
    IsSeasonOf group season × AreSeasonsOf groups seasons
