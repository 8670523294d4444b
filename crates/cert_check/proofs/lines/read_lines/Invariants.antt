use Rattle.std.proofs.Common.{◌≡◌, ◌-◌}
use Rattle.port_core.specs.Contents.{input_limit}
use Rattle.port_core.specs.Readers.{TakesInput, contents_to_come}
use Rattle.cert_check.specs.inside.InputCalls.{IfRead}
use Rattle.cert_check.proofs.InputLemmas.{LinesKept}
use Rattle.cert_check.proofs.lines.read_lines.Given as goal

-- the lines so far were kept, and the count of faults stayed
abbrev pub invariant-lines : goal.invariant-lines
invariant-lines g l = record {
  kept : IfRead (contents_to_come l.fn.reader (g.S.Source.left l.fn.source)) (λ contents.
      LinesKept contents (contents_to_come l.reader (g.S.Source.left l.source)) l.lines);
  takes : TakesInput l.fn.reader l.reader (g.S.Source.left l.fn.source) (g.S.Source.left l.source);
  counts : g.S.Source.faults l.source ≡ g.S.Source.faults l.fn.source;
}

-- the bytes that may still be passed
abbrev pub decreases-lines : goal.decreases-lines
decreases-lines g l = input_limit - l.reader.position.bytes
