use Rattle.std.proofs.Common.{◌∙◌, ap, refl, take, drop, ◌+◌, ◌-◌}
use Rattle.port_core.proofs.PieceLemmas.{drop-moved, take-moved, take-there}
use Rattle.port_core.proofs.bytes.move_down.Goals as goal

pub returns : goal.returns
returns c =
    let a = c.args in
    record {
      moved = ap (take (a.at + (a.to - a.from))) c.copy_within.ensures.after
          ∙ take-moved a.bytes.now a.from a.to a.at c.requires.order.0 c.requires.order.1
          c.requires.within;
      rest = ap (drop a.to) c.copy_within.ensures.after
          ∙ drop-moved a.bytes.now a.from a.to a.at c.requires.order.0 c.requires.order.1
          c.requires.within;
    }

pub returns-then-from-at : goal.returns-then-from-at
returns-then-from-at c =
    let a = c.args in
    record {
      moved = take-there a.bytes.now a.from a.to a.at c.if-from-at.true;
      rest = refl;
    }
