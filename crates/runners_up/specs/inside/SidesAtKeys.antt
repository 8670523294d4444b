-- A side of a club at one key.
use Rattle.std.specs.Prelude.{◌≡◌, ◌≤◌, ℕ, ◌+◌, ℤ, List, length, All, slice_get, Some}
use Rattle.league_core.specs.declared.sheet.Sheet.{Sheet}
use Rattle.league_core.specs.declared.question.Claim.{Claim}
use Rattle.league_core.specs.game.Results.{Results}
use Rattle.league_core.specs.game.Ranking.{place_of}
use Rattle.league_core.specs.search.Keys.{key_of}
use Rattle.tree_arena.specs.declared.example.Example.{Example}
use Rattle.cup_sheet.specs.declared.cup.Cup.{Cup}
use Rattle.cup_sheet.specs.CupAnswers.{AreRising, IsCupExample, listed_groups}
use Rattle.cup_sheet.specs.CupLimits.{direct_places}
use Rattle.cup_groups.specs.declared.seat.ClubSeat.{ClubSeat}
use Rattle.runners_up.specs.declared.side.SideAtKey.{SideAtKey}
use Rattle.runners_up.specs.declared.side.SideAtKey.TheVariants.{Shown, Refuted, Spent}
use Rattle.cup_groups.specs.inside.ClubSeats.{IsSeatOf}
use Rattle.runners_up.specs.inside.GroupSurveys.{IsEmptyGroup, IsOpenGroup, group_numbers}
use Rattle.runners_up.specs.inside.JointEnds.{IsGroupEnd, group_finishes}

-- an end of the club's group at which the club is the candidate, with just this key
pub record IsOwnEnd (cup : Cup) (seasons : List Results) (seat : ClubSeat) (key : List ℤ)
    (end : Example) : Type 0 where
  pub sheet : Sheet
  pub season : Results
  pub there : slice_get cup.groups seat.group ≡ Some sheet
  pub season_there : slice_get seasons seat.group ≡ Some season
  pub is_end : IsGroupEnd sheet season end
  pub candidate : place_of sheet end.finish end.lots seat.own ≡ direct_places + 1
  pub with_key : key_of sheet end.finish seat.own ≡ key

-- a joint finish that is an example of the side; as many other groups without a candidate on the
-- far side as refute it; or a group with a question on which the budget was spent
abbrev pub IsSideAtKey : Cup → List Results → ClubSeat → Claim → List ℤ → SideAtKey → Type 0
IsSideAtKey cup seasons seat claim key (Shown joint) =
    (club : ℕ) → IsSeatOf cup club seat
    → IsCupExample cup seasons claim club (group_finishes joint.ends) joint.lots
IsSideAtKey cup seasons seat claim key (Refuted groups) =
    (listed_groups cup claim ≤ length groups.items)
    × AreRising 0 (group_numbers groups.items)
    × All (IsEmptyGroup cup seasons claim key seat.group) groups.items
IsSideAtKey cup seasons seat claim key (Spent group) =
    IsOpenGroup cup seasons claim key seat.group group
