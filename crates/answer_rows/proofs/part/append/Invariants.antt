use Rattle.std.proofs.Common.{◌≡◌, ◌++◌}
use Rattle.answer_rows.proofs.part.append.Given as goal

-- the lines so far come after the first ones
abbrev pub invariant-loop-line : goal.invariant-loop-line
invariant-loop-line g l = l.lines.items ≡ l.fn.lines.items ++ l.yielded
