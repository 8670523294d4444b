-- How many fixtures a joint finish has lines for.
use Rattle.std.specs.Prelude.{◌≡◌, ℕ, ◌+◌, List, [], ◌∷◌, length}
use Rattle.league_core.specs.game.Results.{Results}
use Rattle.tree_arena.specs.declared.example.Example.{Example}

-- how many fixtures the seasons have together
abbrev pub scores_together : List Results → ℕ
scores_together [] = 0
scores_together (season ∷ seasons) = length season.scores + scores_together seasons

-- each end has as many fixtures as its season, and there is one end for each
abbrev pub AreEndsAlike : List Results → List Example → Type 0
AreEndsAlike [] [] = Unit {0}
AreEndsAlike (season ∷ seasons) (end ∷ ends) =
    (length end.finish.scores ≡ length season.scores) × AreEndsAlike seasons ends
AreEndsAlike _ _ = ⊥
