-- Where a club of a cup plays, as the code keeps it.
use Rattle.std.specs.Prelude.{◌≡◌, ◌<◌, ℕ, ◌+◌, List, length, slice_get, Some}
use Rattle.league_core.specs.declared.sheet.Sheet.{Sheet}
use Rattle.cup_sheet.specs.declared.cup.Cup.{Cup}
use Rattle.cup_sheet.specs.JointFinishes.{ClubBlock}
use Rattle.cup_groups.specs.declared.seat.ClubSeat.{ClubSeat}
use Rattle.cup_groups.specs.GroupStarts.{clubs_before}

-- the clubs of its group among those of the cup
abbrev pub seat_block : ClubSeat → ClubBlock
seat_block seat = record { first = seat.first; count = seat.count }

-- a club of one of the groups plays there
pub record IsSeatIn (groups : List Sheet) (seat : ClubSeat) : Type 0 where
  pub sheet : Sheet
  pub there : slice_get groups seat.group ≡ Some sheet
  pub first : seat.first ≡ clubs_before groups seat.group
  pub count : seat.count ≡ length sheet.clubs
  pub inside : seat.own < seat.count

-- it is this club of the cup
pub record IsSeatOf (cup : Cup) (club : ℕ) (seat : ClubSeat) : Type 0 where
  pub seat_in : IsSeatIn cup.groups seat
  pub number : club ≡ seat.first + seat.own
