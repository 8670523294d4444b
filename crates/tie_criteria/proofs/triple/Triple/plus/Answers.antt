use Rattle.std.proofs.Common.{arith}
use Rattle.std.proofs.lemmas.Int.{ints}
use Rattle.tie_criteria.proofs.triple.Triple.plus.Goals as goal

pub returns : goal.returns
returns c = λ away. record {
  points = omega (arith, ints, c.match_points.ensures.points away);
  difference = omega (arith, ints);
  scored = omega (arith, ints);
  bounded = λ bound within. record {
    least_points = omega (arith, ints);
    most_points = omega (arith, ints);
    least_difference = omega (arith, ints);
    most_difference = omega (arith, ints);
    least_scored = omega (arith, ints);
    most_scored = omega (arith, ints);
  };
}
