use Rattle.std.proofs.Common.{ap, length, arith}
use Rattle.kept_lines.proofs.LineListLemmas.{lines-counted}
use Rattle.kept_lines.proofs.line_list.LineList.len.Goals as goal

pub returns : goal.returns
returns c =
    let list = c.self.inside in
    omega (
      arith,
      ap length c.self.view_is,
      lines-counted list.full.items list.latest list.count c.self.invariant,
    )
