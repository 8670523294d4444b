use Rattle.std.proofs.Common.{ℕ, ◌<◌, [], ◌∷◌}
use Rattle.league_core.specs.game.Sums.{worth_to, worth_among}
use Rattle.score_box.specs.inside.Totals.{totals_at, pair_place}
use Rattle.score_box.proofs.TotalLemmas.{AreTotalsSoFar}
use Rattle.score_box.proofs.tables.add_all.Given as goal

-- each row so far and what is left of the matches make its whole row
abbrev pub invariant-loop-i : goal.invariant-loop-i
invariant-loop-i l =
    ((club : ℕ) → club < 24 → AreTotalsSoFar (λ worth. worth_to worth club) l.fixtures l.scores l.i
    (totals_at l.clubs club))
    × ((club rival : ℕ) → club < 24 → rival < 24
    → AreTotalsSoFar (λ worth. worth_among (club ∷ rival ∷ []) worth club) l.fixtures l.scores l.i
    (totals_at l.pairs (pair_place club rival)))
