use Rattle.std.proofs.Common.{◌∙◌, ◌+◌, arith}
use Rattle.par_check.proofs.OutlineLemmas.{none_left, outline_begins, outline_whole}
use Rattle.par_check.proofs.outline.outline.Goals as goal

pub loop-at-init : goal.loop-at-init
loop-at-init c = (
  omega arith,
  outline_begins c.args.report.now c.args.row c.args.from c.in_ok-left.left.items
      c.in_ok-left.ensures,
)

pub returns-in_default : goal.returns-in_default
returns-in_default c =
    let popped = c.in_default.ensures in (
      c.loop-at.invariant.0,
      omega (arith, c.loop-at-test.true, c.len-at-end.ensures),
      λ before. c.loop-at.invariant.1 before
          ∙ outline_whole c.args.report.now c.args.row c.loop-at.at c.loop-at.left.items
          (before + c.loop-at.unsettled)
          (none_left c.loop-at.left.items (popped.items ∙ popped.rest)),
    )
