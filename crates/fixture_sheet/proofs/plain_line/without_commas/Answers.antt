use Rattle.std.proofs.Common.{arith}
use Rattle.fixture_sheet.proofs.PaddingLemmas.{kept-byte, kept-comma}
use Rattle.fixture_sheet.proofs.plain_line.without_commas.Goals as goal
use Rattle.fixture_sheet.proofs.plain_line.without_commas.Goals.{then-byte-ne44, else-byte-ne44}

pub loop-place-preserved : goal.loop-place-preserved
loop-place-preserved c = elim c.if-byte-ne44.branch [
  | then-byte-ne44 w ↦ record {
    inside = omega arith;
    front = kept-byte c.args.text.now c.loop-place.place c.if-byte-ne44.end (omega arith)
        w.if-byte-ne44.true w.end-is;
  }
  | else-byte-ne44 w ↦ record {
    inside = omega arith;
    front = kept-comma c.args.text.now c.loop-place.place c.if-byte-ne44.end c.loop-place.end
        (omega arith) w.if-byte-ne44.false w.end-is c.loop-place.invariant.front;
  }
]
