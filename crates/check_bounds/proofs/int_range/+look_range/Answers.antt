use Rattle.std.proofs.Common.{arith}
use Rattle.std.proofs.lemmas.Grind.{common_steps}
use Rattle.std.proofs.lemmas.Int.{ints}
use Rattle.check_bounds.proofs.IntRangeLemmas.{near_widened}
use Rattle.check_bounds.proofs.int_range.+look_range.Goals as goal

pub returns-clause-near : goal.returns-clause-near
returns-clause-near n c =
    let low = c.term_value-value.ensures.near.0 in
    let high = c.term_value-value.ensures.near.1 in
    near_widened _ c.look_range.result c.widened.result c.widened.ensures
    (omega (arith, ints, low, high)) (omega (arith, ints, low, high)) c.look_range.ensures.near

pub returns-clause-range : goal.returns-clause-range
returns-clause-range n c = grind (arith, common_steps)
