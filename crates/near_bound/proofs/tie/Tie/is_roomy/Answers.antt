use Rattle.std.proofs.Common.{pos, ◌-ℤ◌, to_z, of_z, w32, arith}
use Rattle.std.proofs.lemmas.Int.{ints}
use Rattle.league_core.proofs.plain.Numbers.{int_le-to}
use Rattle.near_bound.specs.inside.Points.{ends_listed}
use Rattle.near_bound.proofs.tie.Tie.is_roomy.Goals as goal

pub returns-then-ends-self : goal.returns-then-ends-self
returns-then-ends-self c = λ is.
    let tie = c.args.self.now in
    let near = c.requires.tie.near c.args.club c.requires.in_range in
    let points = c.requires.tie.points in
    let below = int_le-to (to_z w32 (of_z w32 tie.points))
    (to_z w32 (of_z w32 (to_z w32 (of_z w32 (ends_listed tie.ends c.args.club).most) -ℤ pos 3)))
    is in record {
      above = omega (
        arith,
        ints,
        c.if-ends-self.true,
        near.least,
        near.in_order,
        near.most,
        points.0,
        points.1,
      );
      below = omega (arith, ints, below, near.least, near.in_order, near.most, points.0, points.1);
    }
