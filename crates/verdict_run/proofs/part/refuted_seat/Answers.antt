use Rattle.std.proofs.Common.{sym}
use Rattle.verdict_run.proofs.PartLemmas.{done_refuted}
use Rattle.verdict_run.proofs.part.refuted_seat.Goals as goal

pub refuted-requires : goal.refuted-requires
refuted-requires c =
    done_refuted c.args.sheet.now c.args.season.now c.args.seat.now c.requires
    (sym c.if-is_refuted.ensures)
