use Rattle.std.proofs.Common.{◌≡◌, Bool, true, length}
use Rattle.std.specs.List.{list_all}
use Rattle.league_core.specs.declared.zone.Literal.{Literal}
use Rattle.league_core.specs.declared.zone.Test.{Test}
use Rattle.league_core.specs.inside.Pending.{pending_of}
use Rattle.cert_check.specs.inside.Calls.{IsInSeasonOf}
use Rattle.cert_check.proofs.path.next_half.Given as goal

-- what is due is as before, and so is the season; what all tests of the way are, those left are
abbrev pub invariant-loop-last : goal.invariant-loop-last
invariant-loop-last l =
    (pending_of l.initial.path.zone ≡ pending_of l.path.zone)
    × IsInSeasonOf l.initial.path l.path
    × ((test : Test → Bool)
    → list_all (λ (it : Literal). test it.test) l.initial.path.zone ≡ true
    → list_all (λ (it : Literal). test it.test) l.path.zone ≡ true)

abbrev pub decreases-loop-last : goal.decreases-loop-last
decreases-loop-last l = length l.path.zone
