use Rattle.std.proofs.Common.{◌≡◌}
use Rattle.kept_lines.specs.inside.LineBlocks.{place_after}
use Rattle.kept_lines.proofs.line_block.place_after.Given as goal

abbrev pub invariant-loop : goal.invariant-loop
invariant-loop l = l.place ≡ place_after l.counter l.fn.from l.bytes
