use Rattle.std.proofs.Common.{◌≤◌, ◌<◌, ◌^◌}
use Rattle.cert_text.proofs.SetListLemmas.{IsListedSoFar}
use Rattle.cert_text.proofs.places.set_of.Given as goal

-- what is left of the list is as said, and the bits so far are below the next club's
abbrev pub invariant-loop-club : goal.invariant-loop-club
invariant-loop-club l =
    (l.least ≤ 24) × (l.bits < 2 ^ l.least)
    × IsListedSoFar l.clubs l.club-index l.least l.bits
