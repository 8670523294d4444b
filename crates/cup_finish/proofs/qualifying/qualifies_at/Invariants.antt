use Rattle.std.proofs.Common.{◌≡◌, ◌≤◌, ◌+◌, drop}
use Rattle.cup_sheet.specs.CupLimits.{direct_places}
use Rattle.cup_sheet.specs.Cups.{clubs_together}
use Rattle.cup_sheet.specs.JointFinishes.{states_of}
use Rattle.cup_sheet.specs.Qualifying.{qualifies_at, qualifies_in}
use Rattle.cup_finish.proofs.QualifyingLemmas.{answered_from}
use Rattle.cup_finish.proofs.qualifying.qualifies_at.Given as goal

-- the club is in none of the groups so far, and their clubs are as many as the first says
abbrev pub invariant-loop-group : goal.invariant-loop-group
invariant-loop-group l =
    (qualifies_at l.cup l.finishes l.lots l.club
    ≡ answered_from (qualifies_in direct_places l.cup.quota l.lots (states_of l.cup l.finishes))
    l.club l.first l.group l.cup.groups l.finishes)
    × (l.first + clubs_together (drop l.group l.cup.groups) ≡ clubs_together l.cup.groups)
    × (l.first ≤ l.club)
