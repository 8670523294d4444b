use Rattle.std.proofs.Common.{◌≡◌, ◌-◌, ◌≤◌, false, length, take}
use Rattle.std.specs.Prelude.{◌⊎◌}
use Rattle.std.specs.Io.KnownBytes.{prepend_known}
use Rattle.port_core.specs.Lines.{HasNoLineFeed}
use Rattle.port_core.specs.inside.Buffers.{IsReady, LastFill, Takes}
use Rattle.port_core.specs.declared.buffer.TheConstants.{ROOM}
use Rattle.port_core.proofs.buffer.await_line.Given as goal

-- nothing is lost; the bytes seen so far have no LF; what was ready at first was not touched
abbrev pub invariant-reads : goal.invariant-reads
invariant-reads g l =
    let old = l.fn.buffer in
    let now = l.buffer in
    let left = g.S.Source.left in
    record {
      stream : prepend_known old.held (left l.fn.source) ≡ prepend_known now.held (left l.source);
      text : now.text ≡ old.text;
      seen : l.seen ≤ length now.held;
      unended : HasNoLineFeed (take l.seen now.held);
      counts : g.S.Source.faults l.source ≡ g.S.Source.faults l.fn.source;
      end : g.S.Source.ended l.source ≡ false → g.S.Source.ended l.fn.source ≡ false;
      last : ((l.source ≡ l.fn.source) × (now.held ≡ old.held))
          ⊎ LastFill left g.S.Source.reads l.most old.held now.held l.fn.source l.source;
      within : length old.held ≤ l.most → length now.held ≤ l.most;
      takes : Takes old.held now.held (left l.fn.source) (left l.source);
      full : l.most ≤ length old.held → (l.source ≡ l.fn.source) × (now.held ≡ old.held);
      ready : IsReady old.held → (l.source ≡ l.fn.source) × (now.held ≡ old.held);
    }

-- the room that is left
abbrev pub decreases-reads : goal.decreases-reads
decreases-reads g l = ROOM - length l.buffer.held
