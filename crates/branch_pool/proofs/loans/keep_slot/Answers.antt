use Rattle.std.proofs.Common.{◌∙◌, arith}
use Rattle.branch_pool.proofs.WorkLemmas.{slot_after, slot_there}
use Rattle.branch_pool.proofs.loans.keep_slot.Goals as goal

pub returns-then-number-len : goal.returns-then-number-len
returns-then-number-len c =
    c.push.ensures.items
    ∙ slot_after c.args.loans.now.items c.args.number c.requires.free (omega arith)

pub returns-else-number-len : goal.returns-else-number-len
returns-else-number-len c =
    slot_there c.args.loans.now.items c.args.number c.requires.free (omega arith)
