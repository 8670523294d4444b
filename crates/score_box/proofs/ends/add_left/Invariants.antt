use Rattle.std.proofs.Common.{◌≡◌, ℕ, ◌+◌, ◌*◌, ◌≤ℤ◌, ◌+ℤ◌, ◌-ℤ◌, pos, List, [], ◌∷◌, take}
use Rattle.league_core.specs.declared.season.Score.{Score}
use Rattle.league_core.specs.search.PointRanges.{total_of}
use Rattle.score_box.specs.inside.Boxes.{AreCellsOf}
use Rattle.score_box.specs.inside.Ends.{end_at}
use Rattle.score_box.specs.inside.Points.{left_to}
use Rattle.score_box.proofs.ends.add_left.Given as goal

-- what the fixtures of the numbers so far leave, and numbers that fit
abbrev pub invariant-loop-i : goal.invariant-loop-i
invariant-loop-i l =
    ((options : List (List Score)) → AreCellsOf l.cells options → (club : ℕ)
    → (end_at l.lows club ≡ end_at l.fn.lows club
    +ℤ total_of (λ k. (left_to (club ∷ []) l.fixtures options k).least) (take l.i l.numbers))
    × (end_at l.highs club ≡ end_at l.fn.highs club
    +ℤ total_of (λ k. (left_to (club ∷ []) l.fixtures options k).greatest)
    (take l.i l.numbers)))
    × ((club : ℕ) → ((pos 0 -ℤ pos 153000) ≤ℤ end_at l.lows club)
    × (end_at l.lows club ≤ℤ pos (153000 + 3 * l.i)))
    × ((club : ℕ) → ((pos 0 -ℤ pos 153000) ≤ℤ end_at l.highs club)
    × (end_at l.highs club ≤ℤ pos (153000 + 3 * l.i)))
