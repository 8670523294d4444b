use Rattle.std.proofs.Common.{◌≡◌, drop}
use Rattle.line_tokens.specs.Tokens.{counted_lines}
use Rattle.line_tokens.specs.Tokens.{tokens_of}
use Rattle.cert_check.proofs.checking.check_end.Given as goal

abbrev pub invariant-loop-at : goal.invariant-loop-at
invariant-loop-at l =
    counted_lines (drop l.from (tokens_of l.lines)) ≡ counted_lines (drop l.at (tokens_of l.lines))
