use Rattle.std.proofs.Common.{◌≡◌, ℕ, ◌<◌, false, get_or, None}
use Rattle.std.specs.Prelude.{is_none}
use Rattle.branch_pool.proofs.loans.free_number.Given as goal

-- something is out under each number so far
abbrev pub invariant-loop-number : goal.invariant-loop-number
invariant-loop-number l = (k : ℕ) → k < l.number → is_none (get_or l.loans k None) ≡ false
