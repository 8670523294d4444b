use Rattle.std.proofs.Common.{subst}
use Rattle.std.proofs.lemmas.List.{take_rest}
use Rattle.port_core.specs.Lines.{HasNoLineFeed}
use Rattle.port_core.proofs.PieceLemmas.{EndsAt-later, no_line_feed-joined}
use Rattle.port_core.proofs.buffer.line_end.Goals as goal

pub returns-in-Some : goal.returns-in-Some
returns-in-Some c =
    EndsAt-later c.args.bytes.now _ c.args.seen c.in-Some.place
    (take_rest c.args.bytes.now c.args.seen) c.requires.within c.requires.unended
    c.in-Some.ensures.within c.in-Some.ensures.front c.in-Some.ensures.found

pub returns-in-None : goal.returns-in-None
returns-in-None c =
    no_line_feed-joined c.args.bytes.now c.args.seen c.requires.unended
    (subst HasNoLineFeed (take_rest c.args.bytes.now c.args.seen) c.in-None.ensures.none)
