use Rattle.std.proofs.Common.{Some}
use Rattle.port_core.proofs.PieceLemmas.{line_feed-found, line_feed-near}
use Rattle.port_core.proofs.bytes.find_line_feed.Goals as goal

pub returns-in-Some : goal.returns-in-Some
returns-in-Some c =
    let bytes = c.args.bytes.now in
    let first = line_feed-near bytes 32 c.in-Some.place c.if-bytes-ge-NEAR.true c.in-Some.ensures in
    let found = line_feed-found bytes (Some c.in-Some.place) first in
    record { none = found.0; within = found.1; front = found.2; found = found.3 }

pub returns : goal.returns
returns c =
    let found = line_feed-found c.args.bytes.now c.find_far.result c.find_far.ensures in
    record { none = found.0; within = found.1; front = found.2; found = found.3 }
