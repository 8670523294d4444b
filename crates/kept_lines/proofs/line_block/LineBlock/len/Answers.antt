use Rattle.std.proofs.Common.{ap, length, arith}
use Rattle.kept_lines.proofs.LineBlockLemmas.{lines-length}
use Rattle.kept_lines.proofs.line_block.LineBlock.len.Goals as goal

pub returns : goal.returns
returns c =
    let block = c.self.inside in
    omega (arith, ap length c.self.view_is, lines-length block.bytes.items block.count)
