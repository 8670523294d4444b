-- A side of a club by its place alone.
use Rattle.std.specs.Prelude.{◌≡◌, ℕ, List, [], slice_get, Some}
use Rattle.league_core.specs.declared.sheet.Sheet.{Sheet}
use Rattle.league_core.specs.declared.question.Claim.{Claim}
use Rattle.league_core.specs.game.Results.{Results}
use Rattle.tree_arena.specs.declared.example.Example.{Example}
use Rattle.cup_sheet.specs.declared.cup.Cup.{Cup}
use Rattle.cup_sheet.specs.CupAnswers.{IsCupExample}
use Rattle.cup_sheet.specs.CupLimits.{direct_places}
use Rattle.cup_sheet.specs.GroupQuestions.{GroupQuestion, IsGroupExample}
use Rattle.cup_sheet.specs.KeyBounds.{place_kind}
use Rattle.group_search.specs.inside.GroupTasks.{IsGroupRefutedBy, IsGroupSpentOn}
use Rattle.cup_groups.specs.inside.KindQuestions.{group_question_of}
use Rattle.runners_up.specs.declared.joint.JointFinish.{JointFinish}
use Rattle.runners_up.specs.declared.place.SideByPlace.{SideByPlace}
use Rattle.runners_up.specs.declared.place.SideByPlace.TheVariants.{Shown, Refuted, Spent}
use Rattle.cup_groups.specs.declared.seat.ClubSeat.{ClubSeat}
use Rattle.cup_groups.specs.inside.ClubSeats.{IsSeatOf}
use Rattle.runners_up.specs.inside.JointEnds.{group_finishes}

-- what is asked: whether the club can end at a direct place, or below the candidate
abbrev pub asked_of_place : Claim → ℕ → GroupQuestion
asked_of_place claim own = record { kind = place_kind claim; club = own; key = [] }

-- the club's group, with its season
pub record IsOwnGroup (cup : Cup) (seasons : List Results) (seat : ClubSeat) (sheet : Sheet)
    (season : Results) : Type 0 where
  pub there : slice_get cup.groups seat.group ≡ Some sheet
  pub season_there : slice_get seasons seat.group ≡ Some season

-- an end of the club's group at which its place shows the side
abbrev pub IsPlaceEnd : Cup → List Results → ClubSeat → Claim → Example → Type 0
IsPlaceEnd cup seasons seat claim end =
    (sheet : Sheet) × (season : Results) × IsOwnGroup cup seasons seat sheet season
    × IsGroupExample direct_places sheet season (asked_of_place claim seat.own) end.finish end.lots

-- an example of the side for the club that plays there
abbrev pub IsPlaceShown : Cup → List Results → ClubSeat → Claim → JointFinish → Type 0
IsPlaceShown cup seasons seat claim joint =
    (club : ℕ) → IsSeatOf cup club seat
    → IsCupExample cup seasons claim club (group_finishes joint.ends) joint.lots

-- a joint finish, a refutation, or a tree on which the budget was spent
abbrev pub IsSideByPlace : Cup → List Results → ClubSeat → Claim → SideByPlace → Type 0
IsSideByPlace cup seasons seat claim (Shown joint) = IsPlaceShown cup seasons seat claim joint
IsSideByPlace cup seasons seat claim (Refuted nodes) =
    (sheet : Sheet) × (season : Results) × IsOwnGroup cup seasons seat sheet season
    × IsGroupRefutedBy sheet season (asked_of_place claim seat.own) sheet.budget nodes.items
IsSideByPlace cup seasons seat claim (Spent spent) =
    (sheet : Sheet) × (season : Results) × IsOwnGroup cup seasons seat sheet season
    × (group_question_of spent.question ≡ asked_of_place claim seat.own)
    × IsGroupSpentOn sheet season (asked_of_place claim seat.own) sheet.budget spent.nodes.items
