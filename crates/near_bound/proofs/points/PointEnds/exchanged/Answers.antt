use Rattle.std.proofs.Common.{arith}
use Rattle.std.proofs.lemmas.Int.{ints}
use Rattle.near_bound.proofs.points.PointEnds.exchanged.Goals as goal

pub returns-clause-least : goal.returns-clause-least
returns-clause-least c =
    let near = c.requires.near.0 in
    let old = c.requires.old_near in
    let new = c.requires.new_near in
    omega (
      arith,
      ints,
      near.0,
      near.1,
      old.least,
      old.in_order,
      old.most,
      new.least,
      new.in_order,
      new.most,
    )

pub returns-clause-most : goal.returns-clause-most
returns-clause-most c =
    let near = c.requires.near.1 in
    let old = c.requires.old_near in
    let new = c.requires.new_near in
    omega (
      arith,
      ints,
      near.0,
      near.1,
      old.least,
      old.in_order,
      old.most,
      new.least,
      new.in_order,
      new.most,
    )
