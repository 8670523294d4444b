use Rattle.cup_sides.proofs.CupSideLemmas.{place_spent}
use Rattle.cup_sides.proofs.side.side_of.Goals as goal

pub returns-in-Shown : goal.returns-in-Shown
returns-in-Shown c =
    let seated = rw c.unwrap-seat.ensures at c.seat_of.ensures.found in
    let known = rw c.in-Shown.is at c.in_ok-joint.ensures in
    known c.args.club seated

pub returns-in-Spent : goal.returns-in-Spent
returns-in-Spent c =
    let seated = rw c.unwrap-seat.ensures at c.seat_of.ensures.found in
    let known = rw c.in-Spent.is at c.in_ok-joint.ensures in
    place_spent c.args.cup.now c.args.seasons.now c.args.claim c.args.club c.unwrap-seat.result
    known.0 known.1 seated known.2 c.in-Spent.spent known.3 known.4
