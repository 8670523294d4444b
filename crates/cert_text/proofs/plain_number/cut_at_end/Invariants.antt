use Rattle.std.proofs.Common.{◌≤◌, ◌<◌, ◌^◌, length}
use Rattle.cert_text.proofs.CutLemmas.{IsCutSoFar}
use Rattle.cert_text.proofs.plain_number.cut_at_end.Given as goal

-- the text is clubs that rise, whose bits these are, and the rest
abbrev pub invariant-clubs : goal.invariant-clubs
invariant-clubs l =
    (l.least ≤ 24) × (l.bits < 2 ^ l.least) × IsCutSoFar l.text l.rest l.least l.bits

-- what is left of the text
abbrev pub decreases-clubs : goal.decreases-clubs
decreases-clubs l = length l.rest
