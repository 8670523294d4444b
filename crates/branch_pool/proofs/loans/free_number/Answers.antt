use Rattle.std.proofs.Common.{None, sym, ◌∙◌, arith}
use Rattle.std.specs.Prelude.{is_none}
use Rattle.std.proofs.lemmas.Grind.{common_steps}
use Rattle.std.proofs.lemmas.List.Sums.{position_or_len_is}
use Rattle.branch_pool.proofs.SlotLemmas.{free_number_is}
use Rattle.branch_pool.proofs.loans.free_number.Goals as goal

pub returns-then-is_none : goal.returns-then-is_none
returns-then-is_none c =
    sym (free_number_is c.args.loans.now
    ∙ position_or_len_is is_none c.args.loans.now c.loop-number.number None (omega arith)
    c.loop-number.invariant (λ h. grind (arith, common_steps)))

pub returns : goal.returns
returns c =
    sym (free_number_is c.args.loans.now
    ∙ position_or_len_is is_none c.args.loans.now _ None (omega arith)
    (λ k h. c.loop-number.invariant k (omega arith)) (λ h. absurd (omega (arith, h))))
