use Rattle.std.proofs.Common.{◌≡◌, ◌-◌, ◌≤◌, []}
use Rattle.port_core.specs.Contents.{input_limit}
use Rattle.port_core.specs.Readers.{HasAnswer, TakesInput, contents_to_come}
use Rattle.port_core.specs.inside.ReaderCalls.{HasStop, PassesTo, ReadsInNeed}
use Rattle.port_core.specs.declared.line.ReadStop.{ReadStop}
use Rattle.port_core.proofs.line_reader.LineReader.next.Given as goal

-- the lines so far were passed over: what is to come is the same; an answer in hand is in hand
-- still; and if a stop was in hand, none was passed
abbrev pub invariant-lines : goal.invariant-lines
invariant-lines g l = record {
  same : contents_to_come l.fn.self (g.S.Source.left l.fn.source)
      ≡ contents_to_come l.self (g.S.Source.left l.source);
  passes : PassesTo l.fn.self l.self (g.S.Source.left l.fn.source) (g.S.Source.left l.source)
      (g.S.Source.ended l.fn.source) (g.S.Source.ended l.source) [];
  last : ReadsInNeed g.S.Source.left g.S.Source.reads l.fn.self l.self l.fn.source l.source;
  takes : TakesInput l.fn.self l.self (g.S.Source.left l.fn.source) (g.S.Source.left l.source);
  text : l.self.text ≡ l.fn.self.text;
  answer : HasAnswer l.fn.self → HasAnswer l.self;
  ready : HasAnswer l.fn.self → l.source ≡ l.fn.source;
  stopped : (stop : ReadStop) → HasStop l.fn.self stop → l.self ≡ l.fn.self;
  passed : l.fn.self.position.bytes ≤ l.self.position.bytes;
  counts : g.S.Source.faults l.source ≡ g.S.Source.faults l.fn.source;
}

-- the bytes that may still be passed
abbrev pub decreases-lines : goal.decreases-lines
decreases-lines g l = input_limit - l.self.position.bytes
