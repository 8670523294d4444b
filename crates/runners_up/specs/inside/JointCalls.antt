-- A joint finish that is made from ends of the groups.
use Rattle.std.specs.Prelude.{◌≡◌, ℕ, List, slice_get, Some}
use Rattle.league_core.specs.declared.sheet.Sheet.{Sheet}
use Rattle.league_core.specs.declared.question.Claim.{Claim}
use Rattle.league_core.specs.game.Results.{Results}
use Rattle.tree_arena.specs.declared.example.Example.{Example}
use Rattle.cup_sheet.specs.declared.cup.Cup.{Cup}
use Rattle.cup_sheet.specs.CupAnswers.{IsCupExample}
use Rattle.runners_up.specs.declared.joint.JointFinish.{JointFinish}
use Rattle.cup_groups.specs.declared.seat.ClubSeat.{ClubSeat}
use Rattle.cup_groups.specs.inside.ClubSeats.{seat_block, IsSeatOf}
use Rattle.runners_up.specs.inside.JointEnds.{AreGroupEnds, group_finishes, joint_lots}
use Rattle.runners_up.specs.inside.JointEnds.{IsSideShown}

-- the groups end so, and the club's are drawn before all others, or after them; and it is an
-- example of what the ends show of the club
pub record IsJointEnd (cup : Cup) (ends : List Example) (seat : ClubSeat) (claim : Claim)
    (joint : JointFinish) : Type 0 where
  pub same_ends : joint.ends ≡ ends
  pub drawn : joint.lots ≡ joint_lots claim (seat_block seat) ends
  pub shows : (seasons : List Results) (club : ℕ) (sheet : Sheet) (end : Example)
      → AreGroupEnds cup.groups seasons ends → IsSeatOf cup club seat
      → slice_get cup.groups seat.group ≡ Some sheet → slice_get ends seat.group ≡ Some end
      → IsSideShown cup ends claim seat.group seat.own sheet end
      → IsCupExample cup seasons claim club (group_finishes joint.ends) joint.lots
