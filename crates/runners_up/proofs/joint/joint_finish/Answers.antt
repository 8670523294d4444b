use Rattle.std.proofs.Common.{◌≡◌, ◌∙◌, List, length, ap, arith}
use Rattle.tree_arena.specs.declared.example.Example.{Example}
use Rattle.cup_groups.specs.inside.ClubSeats.{seat_block}
use Rattle.runners_up.specs.inside.JointEnds.{lots_from, joint_lots}
use Rattle.runners_up.proofs.JointCodeLemmas.{few_lots_in_all, joint_drawn, joint_shows}
use Rattle.runners_up.proofs.joint.joint_finish.Goals as goal

pub joint_order-requires : goal.joint_order-requires
joint_order-requires c =
    omega (
      arith,
      ap (λ (all : List Example). length (lots_from 0 all)) c.as_slice.ensures.value,
      few_lots_in_all c.args.cup.now c.requires.ends.0 c.args.ends.items c.requires.cup
          c.requires.ends.1,
    )

pub unwrap-lots-requires : goal.unwrap-lots-requires
unwrap-lots-requires c =
    c.new.ensures.named.1 (joint_drawn c.args.cup.now c.requires.ends.0 c.args.ends.items
    c.args.claim (seat_block c.args.seat.now) c.in_ok-order.order.items c.requires.ends.1
    (c.in_ok-order.ensures
    ∙ ap (joint_lots c.args.claim (seat_block c.args.seat.now)) c.as_slice.ensures.value))

pub returns : goal.returns
returns c =
    let ends = c.args.ends.items in
    let seat = c.args.seat.now in
    let lots : c.unwrap-lots.result ≡ joint_lots c.args.claim (seat_block seat) ends =
    (rw c.unwrap-lots.ensures at c.new.ensures.ok) ∙ c.in_ok-order.ensures
    ∙ ap (joint_lots c.args.claim (seat_block seat)) c.as_slice.ensures.value in
    record {
      same_ends = c.from_vec.ensures;
      drawn = lots;
      shows = λ seasons club sheet end each at there ends_there shown. joint_shows c.args.cup.now
          seasons ends c.args.claim club seat sheet end c.from_vec.result c.unwrap-lots.result
          c.requires.cup c.from_vec.ensures lots each at there ends_there shown;
    }
