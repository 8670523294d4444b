-- What a side of a club of a cup comes to: a joint finish, refutations, or a tree on which the
-- budget was spent; each with the nodes that are written for it.
use Rattle.std.specs.Prelude.{ℕ, List}
use Rattle.league_core.specs.declared.question.Claim.{Claim}
use Rattle.league_core.specs.game.Results.{Results}
use Rattle.club_keys.specs.declared.club_key.ClubKey.{ClubKey}
use Rattle.cup_sheet.specs.declared.cup.Cup.{Cup}
use Rattle.cup_sheet.specs.CupAnswers.{IsCupExample}
use Rattle.cup_groups.specs.declared.seat.ClubSeat.{ClubSeat}
use Rattle.runners_up.specs.declared.side.SideAtKey.{SideAtKey}
use Rattle.runners_up.specs.declared.side.SideAtKey.TheVariants as at_key
use Rattle.cup_groups.specs.inside.ClubSeats.{IsSeatOf}
use Rattle.runners_up.specs.inside.GroupsAsked.{GroupNodes}
use Rattle.runners_up.specs.inside.JointEnds.{group_finishes}
use Rattle.runners_up.specs.declared.finding.ClubFinding.{ClubFinding}
use Rattle.runners_up.specs.declared.finding.ClubFinding.TheVariants.{Possible, Lost, Unsettled}
use Rattle.runners_up.specs.declared.finding.OpenSide.{OpenSide}
use Rattle.runners_up.specs.declared.finding.OpenSide.TheVariants as part
use Rattle.runners_up.specs.inside.ClubFindings.{IsSideRefutedBy, IsSideSpentBy}
use Rattle.cup_sides.specs.declared.cup_side.CupSide.{CupSide}
use Rattle.cup_sides.specs.declared.cup_side.CupSide.TheVariants.{Shown, Refuted, Spent}

-- one of the three
abbrev pub IsCupSide : Cup → List Results → Claim → ℕ → CupSide → Type 0
IsCupSide cup seasons claim club (Shown joint) =
    IsCupExample cup seasons claim club (group_finishes joint.ends) joint.lots
IsCupSide cup seasons claim club (Refuted found) = IsSideRefutedBy cup seasons claim club found
IsCupSide cup seasons claim club (Spent group) = IsSideSpentBy cup seasons claim club group

-- that of the club that plays there
abbrev pub IsSideOfSeat : Cup → List Results → Claim → ClubSeat → CupSide → Type 0
IsSideOfSeat cup seasons claim seat side =
    (club : ℕ) → IsSeatOf cup club seat → IsCupSide cup seasons claim club side

-- the side at the turning key, with the trees about the club itself
abbrev pub whole_side : SideAtKey → ClubKey → GroupNodes → GroupNodes → CupSide
whole_side (at_key.Shown joint) key place nearer = Shown joint
whole_side (at_key.Refuted listed) key place nearer =
    Refuted (record { key = key; place = place; nearer = nearer; listed = listed })
whole_side (at_key.Spent group) key place nearer = Spent group

-- what both sides come to, if that the club misses is not refuted
abbrev pub finding_with : CupSide → OpenSide → ClubFinding
finding_with (Refuted found) outside = Lost found
finding_with (Shown joint) (part.Shown other) = Possible joint other
finding_with (Shown joint) (part.Spent group) = Unsettled (part.Shown joint) (part.Spent group)
finding_with (Spent group) outside = Unsettled (part.Spent group) outside
