use Rattle.std.proofs.Common.{arith}
use Rattle.kept_lines.proofs.LineBlockLemmas.{line_written}
use Rattle.kept_lines.proofs.line_block.write_line.Goals as goal

pub returns-in-Ok-extend_from_slice-clause-ok : goal.returns-in-Ok-extend_from_slice-clause-ok
returns-in-Ok-extend_from_slice-clause-ok c =
    line_written c.args.bytes.now.items c.write_head.new.bytes.items
    c.extend_from_slice.new.self.items c.args.text.now c.args.last c.args.number c.in-Ok.long
    c.in_ok-write_head.ensures.ok c.in-Ok-extend_from_slice.ensures.items
    (omega (arith, c.in-Ok.ensures))
