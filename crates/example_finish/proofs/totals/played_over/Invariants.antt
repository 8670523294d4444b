-- The clubs of the group so far have their rows, and the others none.
use Rattle.std.proofs.Common.{ℕ}
use Rattle.league_core.specs.game.Sums.{Worth, sum_of}
use Rattle.league_core.proofs.SeenLemmas.{IsFilled}
use Rattle.score_box.specs.inside.Totals.{no_totals}
use Rattle.example_finish.proofs.ProposedTotalLemmas.{IsRowOf}
use Rattle.example_finish.proofs.totals.played_over.Given as goal

abbrev pub invariant-loop-club : goal.invariant-loop-club
invariant-loop-club l = IsFilled no_totals (IsRowOf (λ (club : ℕ) (worth : Worth).
    sum_of worth l.zone_box.sheet l.zone_box.season club)) 24 l.yielded l.table
