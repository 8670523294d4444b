use Rattle.std.proofs.Common.{◌≡◌, ◌≤◌, ◌-◌, length}
use Rattle.port_core.specs.Contents.{input_limit}
use Rattle.port_core.specs.Readers.{TakesInput, contents_to_come}
use Rattle.cert_check.specs.inside.InputCalls.{IsStateOf, LeadsFeed, IfRead}
use Rattle.cert_check.proofs.feed.read_feed.Given as goal

-- the lines so far led here, an entry needs a byte at least, and the count of faults stayed
abbrev pub invariant-entries : goal.invariant-entries
invariant-entries g l = record {
  leads : IfRead (contents_to_come l.fn.reader (g.S.Source.left l.fn.source)) (λ contents.
      LeadsFeed l.sheet contents (contents_to_come l.reader (g.S.Source.left l.source))
      l.feed.entries);
  state : IsStateOf l.sheet l.feed;
  few : length l.feed.entries ≤ l.reader.position.bytes;
  within : length l.feed.entries ≤ input_limit;
  takes : TakesInput l.fn.reader l.reader (g.S.Source.left l.fn.source) (g.S.Source.left l.source);
  counts : g.S.Source.faults l.source ≡ g.S.Source.faults l.fn.source;
}

-- the bytes that may still be passed
abbrev pub decreases-entries : goal.decreases-entries
decreases-entries g l = input_limit - l.reader.position.bytes
