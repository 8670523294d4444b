-- What is known of a club's place and key and of other groups, as the cup's answer says it: a side
-- that is refuted, or one that is not settled. Each statement is the contract of a function of
-- src/laws.rt that does nothing.
use Rattle.std.specs.Prelude.{◌≤◌, ℕ, ℤ, List, length, take, All}
use Rattle.league_core.specs.declared.sheet.Sheet.{Sheet}
use Rattle.league_core.specs.declared.question.Claim.{Claim}
use Rattle.league_core.specs.game.Results.{Results}
use Rattle.depth_search.specs.declared.kind.CaseNode.{CaseNode}
use Rattle.cup_sheet.specs.declared.cup.Cup.{Cup}
use Rattle.cup_sheet.specs.declared.question.GroupReason.{GroupReason}
use Rattle.cup_sheet.specs.CupAnswers.{AreRising, IsCupRefuted, HasCupSpent, listed_groups}
use Rattle.cup_sheet.specs.CupLimits.{direct_places}
use Rattle.cup_sheet.specs.Cups.{IsCup}
use Rattle.cup_sheet.specs.KeyBounds.{IsTurningKey, nearer_kind}
use Rattle.group_search.specs.inside.GroupTasks.{IsGroupRefutedBy}
use Rattle.cup_groups.specs.declared.seat.ClubSeat.{ClubSeat}
use Rattle.runners_up.specs.declared.survey.EmptyGroup.{EmptyGroup}
use Rattle.runners_up.specs.declared.survey.OpenGroup.{OpenGroup}
use Rattle.cup_groups.specs.inside.ClubSeats.{IsSeatOf}
use Rattle.runners_up.specs.inside.GroupSurveys.{IsEmptyGroup, IsOpenGroup, group_numbers}
use Rattle.runners_up.specs.inside.SidesByPlace.{IsOwnGroup, asked_of_place}

-- the question about the club's place is refuted, and that about a key farther in; and of the other
-- groups as many as are needed have no candidate on the far side
pub record IsSideRefuted (cup : Cup) (seasons : List Results) (claim : Claim) (seat : ClubSeat)
    (key : List ℤ) (place nearer : List (CaseNode GroupReason)) (listed : List EmptyGroup)
    : Type 0 where
  pub sheet : Sheet
  pub season : Results
  pub own : IsOwnGroup cup seasons seat sheet season
  pub by_place : IsGroupRefutedBy sheet season (asked_of_place claim seat.own) sheet.budget place
  pub by_key : IsGroupRefutedBy sheet season
      (record { kind = nearer_kind claim; club = seat.own; key = key }) sheet.budget nearer
  pub enough : listed_groups cup claim ≤ length listed
  pub rising : AreRising 0 (group_numbers listed)
  pub empty : All (IsEmptyGroup cup seasons claim key seat.group) listed

-- then the side is refuted, with the first of these groups, so many as are listed
abbrev pub RefutedSidesAreRefuted : Type 0
RefutedSidesAreRefuted =
    (cup : Cup) (seasons : List Results) (claim : Claim) (club : ℕ) (seat : ClubSeat)
    (key : List ℤ) (place nearer : List (CaseNode GroupReason)) (listed : List EmptyGroup)
    → IsCup cup → IsSeatOf cup club seat
    → IsSideRefuted cup seasons claim seat key place nearer listed
    → IsCupRefuted cup seasons claim club key
    (take (listed_groups cup claim) (group_numbers listed))

-- a group of which it is not known whether it has a candidate beyond the key on which it turns
-- leaves the side unsettled
abbrev pub OpenGroupsLeaveSidesOpen : Type 0
OpenGroupsLeaveSidesOpen =
    (cup : Cup) (seasons : List Results) (claim : Claim) (club : ℕ) (seat : ClubSeat)
    (key : List ℤ) (sheet : Sheet) (season : Results) (group : OpenGroup) → IsCup cup
    → IsSeatOf cup club seat → IsOwnGroup cup seasons seat sheet season
    → IsTurningKey direct_places sheet season claim seat.own key
    → IsOpenGroup cup seasons claim key seat.group group → HasCupSpent cup seasons claim club
