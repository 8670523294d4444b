use Rattle.std.proofs.Common.{◌≡◌, length}
use Rattle.near_box.proofs.ZoneMatchLemmas.{HaveFirst}
use Rattle.near_box.proofs.zone_matches.results_of.Given as goal

-- the results so far
abbrev pub invariant-loop-i : goal.invariant-loop-i
invariant-loop-i l = (length l.matches ≡ 600) × HaveFirst l.scores l.i l.matches
