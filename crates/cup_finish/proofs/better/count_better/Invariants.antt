use Rattle.std.proofs.Common.{◌≡◌, ◌≤◌, ℕ, ◌+◌, count_by, drop}
use Rattle.cup_sheet.specs.CupLimits.{direct_places}
use Rattle.cup_sheet.specs.Cups.{clubs_together}
use Rattle.cup_sheet.specs.JointFinishes.{GroupState, states_from, states_of}
use Rattle.cup_sheet.specs.Qualifying.{has_better, other_groups}
use Rattle.cup_finish.specs.inside.Contenders.{IsContender}
use Rattle.cup_finish.proofs.better.count_better.Given as goal

-- those so far are counted, and the others are left; the clubs so far are as many as the first says
abbrev pub invariant-loop-group : goal.invariant-loop-group
invariant-loop-group l =
    ((mine : GroupState) (own : ℕ) → IsContender mine own l.contender
    → l.better
    + count_by (has_better direct_places l.lots mine own) (other_groups mine
    (states_from l.first (drop l.group l.cup.groups) (drop l.group l.finishes)))
    ≡ count_by (has_better direct_places l.lots mine own)
    (other_groups mine (states_of l.cup l.finishes)))
    × (l.first + clubs_together (drop l.group l.cup.groups) ≡ clubs_together l.cup.groups)
    × (l.better ≤ l.group)
