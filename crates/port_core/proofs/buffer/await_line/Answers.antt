use Rattle.std.proofs.Common.{◌<◌, length, arith, ap}
use Rattle.port_core.proofs.PieceLemmas.{IsOverlong-ended, IsOverlong-open}
use Rattle.port_core.proofs.buffer.await_line.Goals as goal

pub returns-else-place-le-LINE_LIMIT-clause-due : goal.returns-else-place-le-LINE_LIMIT-clause-due
returns-else-place-le-LINE_LIMIT-clause-due g c =
    IsOverlong-ended c.reads.buffer.held c.bytes.result.now c.in-Some.place c.bytes.ensures.value
    c.in-Some.ensures c.if-place-le-LINE_LIMIT.false

pub returns-then-seen-gt-LINE_LIMIT-clause-due : goal.returns-then-seen-gt-LINE_LIMIT-clause-due
returns-then-seen-gt-LINE_LIMIT-clause-due g c =
    let long : 1024 < length c.reads.buffer.held =
    omega (arith, ap length c.bytes-seen.ensures.value, c.if-seen-gt-LINE_LIMIT.true) in
    IsOverlong-open c.reads.buffer.held c.bytes.result.now c.bytes.ensures.value
    c.in_default.ensures long
