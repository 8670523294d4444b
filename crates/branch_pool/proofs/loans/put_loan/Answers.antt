use Rattle.std.proofs.Common.{◌∙◌, arith}
use Rattle.branch_pool.proofs.SlotLemmas.{with_loan_push, with_loan_set}
use Rattle.branch_pool.proofs.loans.put_loan.Goals as goal

pub returns-then-number-len : goal.returns-then-number-len
returns-then-number-len c =
    c.replace-was.ensures.items
    ∙ with_loan_set c.args.loans.now.items c.args.number c.args.loan (omega arith)

pub returns-else-number-len : goal.returns-else-number-len
returns-else-number-len c =
    c.push.ensures.items
    ∙ with_loan_push c.args.loans.now.items c.args.number c.args.loan (omega arith)
