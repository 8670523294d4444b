-- What is kept of a question in a sound pool, and the question itself.
use Rattle.std.proofs.Common.{◌≡◌, ℕ, ◌<◌, List, get_or, length, Some, ap, sym, ◌∙◌}
use Rattle.std.specs.Prelude.{IfSome}
use Rattle.std.specs.List.{slice_get}
use Rattle.std.specs.Option.{option_map}
use Rattle.league_core.specs.search.Trees.{Tree}
use Rattle.league_core.proofs.plain.Slots.{found_at}
use Rattle.tree_reuse.specs.Asked.{IsAskedTree}
use Rattle.branch_pool.specs.declared.question_state.QuestionState.{QuestionState}
use Rattle.branch_pool.specs.inside.States.{PoolView}
use Rattle.branch_pool.specs.inside.Goodness.{IsSoundPool}
use Rattle.branch_pool.proofs.AdoptLemmas.{own_asked}

-- the tree of a question
abbrev tree_in : QuestionState → Tree
tree_in seat = seat.tree

-- a tree that is taken out of a pool may be adopted for its question
pub taken_asked : (pool : PoolView) (seats : List QuestionState) (place : ℕ) (seat : QuestionState)
    (tree : Tree) → IsSoundPool pool → seats ≡ pool.seats → place < length seats
    → seat ≡ get_or seats place seat → tree ≡ seat.tree
    → IfSome (slice_get pool.questions place) (λ question. IsAskedTree pool.sheet question tree)
taken_asked pool seats place seat tree sound same below read is =
    own_asked pool place tree sound
    (ap (λ (s : List QuestionState). option_map tree_in (slice_get s place)) (sym same)
    ∙ ap (option_map tree_in) (found_at seats place seat below read)
    ∙ ap Some (sym is))
