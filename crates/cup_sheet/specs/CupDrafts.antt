-- What holds of a cup while its records come.
use Rattle.std.specs.Prelude.{◌≡◌, ◌≤◌, ◌<◌, ℕ, IsTrue, [], length, Option, None, Some, IfSome, All}
use Rattle.league_core.specs.declared.sheet.Sheet.{Sheet}
use Rattle.league_core.specs.declared.sheet.Order.TheVariants.{HeadFirst}
use Rattle.league_core.specs.game.Limits.{most_goal_limit, most_budget}
use Rattle.league_core.specs.game.Sheets.{is_name, are_different, same_name}
use Rattle.fixture_sheet.specs.inside.Drafts.{IsDraft}
use Rattle.cup_sheet.specs.declared.cup.CupHead.{CupHead}
use Rattle.cup_sheet.specs.declared.cup.CupDraft.{CupDraft}
use Rattle.cup_sheet.specs.CupLimits.{most_groups, least_group_clubs, most_group_clubs}
use Rattle.cup_sheet.specs.CupLimits.{most_group_fixtures}
use Rattle.cup_sheet.specs.Cups.{clubs_of_groups}
use Rattle.cup_sheet.specs.CupRecords.{groups_so_far}

-- what the first record said is within the limits
pub record IsHead (head : CupHead) : Type 0 where
  pub name : IsTrue (is_name head.name)
  pub least_goal_limit : 1 ≤ head.goal_limit
  pub most_goal_limit : head.goal_limit ≤ most_goal_limit
  pub least_budget : 1 ≤ head.budget
  pub most_budget : head.budget ≤ most_budget

-- a group so far, within the limits but for the clubs that may still be missing
pub record IsGroupSoFar (head : CupHead) (group : Sheet) : Type 0 where
  pub sheet : IsDraft group
  pub most_clubs : length group.clubs ≤ most_group_clubs
  pub most_fixtures : length group.fixtures ≤ most_group_fixtures
  pub no_lines : group.lines ≡ []
  pub same_goal_limit : group.goal_limit ≡ head.goal_limit
  pub same_budget : group.budget ≡ head.budget
  pub head_first : group.order ≡ HeadFirst

-- a group that another may follow: it has three clubs at least
pub record IsGroupEnded (head : CupHead) (group : Sheet) : Type 0 where
  pub so_far : IsGroupSoFar head group
  pub least_clubs : least_group_clubs ≤ length group.clubs

-- the group begun last, if one was begun
abbrev pub IsLastGroup : CupHead → Option Sheet → Type 0
IsLastGroup head None = Unit {0}
IsLastGroup head (Some group) = IsGroupSoFar head group

-- a cup that is read so far
pub record IsCupDraft (draft : CupDraft) : Type 0 where
  pub head : IsHead draft.head
  pub ended : All (IsGroupEnded draft.head) draft.groups
  pub last : IsLastGroup draft.head draft.group
  pub many : length (groups_so_far draft) ≤ most_groups
  pub different : IsTrue (are_different same_name (clubs_of_groups (groups_so_far draft)))

-- a club of the group begun last, by its number there
abbrev pub IsLastClub : CupDraft → ℕ → Type 0
IsLastClub draft club = IfSome draft.group (λ (group : Sheet). club < length group.clubs)
