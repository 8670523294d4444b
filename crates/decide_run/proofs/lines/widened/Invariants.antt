use Rattle.std.proofs.Common.{◌≡◌, map}
use Rattle.wide_lines.specs.declared.wide_line.WideLine.TheVariants.{Plain}
use Rattle.decide_run.proofs.lines.widened.Given as goal

-- the lines so far
abbrev pub invariant-loop-line : goal.invariant-loop-line
invariant-loop-line l = l.all.items ≡ map (λ line. Plain line) l.yielded
