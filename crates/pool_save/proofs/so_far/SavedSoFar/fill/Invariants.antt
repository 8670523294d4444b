use Rattle.std.proofs.Common.{◌≡◌, ◌-◌, List, length}
use Rattle.league_core.specs.declared.question.Question.{Question}
use Rattle.pool_save.specs.SavedReadings.{filled_places}
use Rattle.pool_save.proofs.so_far.SavedSoFar.fill.Given as goal

-- filling up goes on
abbrev pub invariant-loop-self : goal.invariant-loop-self
invariant-loop-self l =
    (asked : List Question) → length asked ≡ l.places
    → filled_places asked l.self-inside.trees.items ≡ filled_places asked l.fn.self.trees

abbrev pub decreases-loop-self : goal.decreases-loop-self
decreases-loop-self l = l.places - length l.self-inside.trees.items
