use Rattle.near_box.proofs.SightLemmas.{none_is_near}
use Rattle.near_box.proofs.keep.NearKeep.look.Goals as goal

pub returns-then-are_none-2-clause-near : goal.returns-then-are_none-2-clause-near
returns-then-are_none-2-clause-near c =
    let none = c.are_none.ensures c.if-are_none.true in
    none_is_near c.args.zone_box.now c.args.question.now
    (record { behind = c.pressed_from_behind.result; ahead = c.pressed_from_ahead.result })
    none.0 none.1 (c.pressed_from_behind.ensures, c.pressed_from_ahead.ensures)
