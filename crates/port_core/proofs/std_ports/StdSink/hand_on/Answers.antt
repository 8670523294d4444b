use Rattle.std.proofs.Common.{take, drop, take-append-drop}
use Rattle.std.proofs.KnownBytes.{Appends-kept}
use Rattle.port_core.proofs.std_ports.StdSink.hand_on.Goals as goal

-- the writer took a prefix of the piece, and could not flush it
pub returns-in-Err-clause-writer : goal.returns-in-Err-clause-writer
returns-in-Err-clause-writer g c =
    let piece = c.args.piece.now in
    let count = c.in-Ok.count in (
      take count piece,
      (drop count piece, take-append-drop count piece),
      Appends-kept _ _ _ (take count piece) c.in-Ok.ensures.bytes c.in-Err.ensures.bytes,
    )
