use Rattle.std.proofs.Common.{ap, ◌∙◌, arith, length}
use Rattle.pool_save.specs.SavedReadings.{filled_places}
use Rattle.pool_save.proofs.HeldLemmas.{filled_places-more}
use Rattle.pool_save.proofs.so_far.SavedSoFar.fill.Goals as goal

pub loop-self-preserved : goal.loop-self-preserved
loop-self-preserved c = λ asked same.
    let below = c.loop-self-test.true in
    let count = c.len.ensures in
    ap (filled_places asked) c.in_ok-push.ensures.items
    ∙ filled_places-more asked c.loop-self.self-inside.trees.items (omega (
      arith,
      below,
      count,
      same,
    ))
    ∙ c.loop-self.invariant asked same
