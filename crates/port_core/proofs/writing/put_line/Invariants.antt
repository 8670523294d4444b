use Rattle.std.proofs.Common.{◌≡◌, ◌-◌, ◌≤◌, length, take}
use Rattle.std.specs.Io.KnownBytes.{append_known}
use Rattle.port_core.proofs.writing.put_line.Given as goal

-- what was taken so far is the start of the line
abbrev pub invariant-offers : goal.invariant-offers
invariant-offers g l =
    (l.done ≤ length l.line)
    × (g.K.Sink.holds l.sink ≡ append_known (g.K.Sink.holds l.fn.sink) (take l.done l.line))
    × (g.K.Sink.faults l.sink ≡ g.K.Sink.faults l.fn.sink)

abbrev pub decreases-offers : goal.decreases-offers
decreases-offers g l = length l.line - l.done
