use Rattle.std.proofs.Common.{arith}
use Rattle.runners_up.proofs.SideByPlaceLemmas.{place_end_set, place_end_within, place_shown}
use Rattle.runners_up.proofs.place.joint_by_place.Goals as goal

pub index_mut-requires : goal.index_mut-requires
index_mut-requires c =
    let within = place_end_within c.args.cup.now c.args.seasons.now c.args.seat.now
    c.in_ok-ends.ends.items c.requires.seat c.in_ok-ends.ensures in
    omega (arith, within)

pub joint_finish-requires-clause-ends : goal.joint_finish-requires-clause-ends
joint_finish-requires-clause-ends c = (
  c.args.seasons.now,
  place_end_set c.args.cup.now c.args.seasons.now c.args.seat.now c.args.claim c.args.own
      c.in_ok-ends.ends.items c.requires.own c.in_ok-ends.ensures,
)

pub returns : goal.returns
returns c =
    place_shown c.args.cup.now c.args.seasons.now c.args.seat.now c.args.claim c.args.own
    c.in_ok-ends.ends.items c.in_ok-joint.joint c.requires.seat c.requires.own c.in_ok-ends.ensures
    c.in_ok-joint.ensures
