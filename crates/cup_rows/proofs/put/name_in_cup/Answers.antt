use Rattle.std.proofs.Common.{◌∙◌}
use Rattle.cup_rows.proofs.SeatLemmas.{name_of_seat}
use Rattle.cup_rows.proofs.put.name_in_cup.Goals as goal

pub returns : goal.returns
returns c =
    let seated = rw c.unwrap-seat.ensures at c.seat_of.ensures.found in
    let is = rw c.as_slice.ensures at c.index-as_slice-seat.is in
    c.club_name.ensures
    ∙ name_of_seat c.args.cup.now c.args.club c.unwrap-seat.result c.index-as_slice-seat.result
    seated is
