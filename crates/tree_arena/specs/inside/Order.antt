-- In which order the leaves of an arena that are open or lent stand in the list of its tree: those
-- of a split's yes half come before those of its no half.
use Rattle.std.specs.Prelude.{ℕ, suc, ◌==◌, List, [], ◌∷◌, ◌++◌, slice_index_or}
use Rattle.std.specs.Prelude.{if◌then◌else◌}
use Rattle.tree_arena.specs.declared.node.Kind.{Kind}
use Rattle.tree_arena.specs.declared.node.Kind.TheVariants.{Open, Lent, Refuted, Split}
use Rattle.tree_arena.specs.declared.node.Node.{Node}

-- the leaves below the node with this number that are open or lent, by those below the nodes after
-- it
abbrev pub live_over : Kind → ℕ → List (List ℕ) → List ℕ
live_over Open at behind = at ∷ []
live_over (Lent number) at behind = at ∷ []
live_over (Refuted reason fresh) at behind = []
live_over (Split test fresh half) at behind =
    slice_index_or behind half [] ++ slice_index_or behind (suc half) []

-- those below each of the nodes, of which the first has this number
abbrev pub live_from : ℕ → List Node → List (List ℕ)
live_from at [] = []
live_from at (node ∷ nodes) =
    live_over node.kind at (live_from (suc at) nodes) ∷ live_from (suc at) nodes

-- those of the whole tree
abbrev pub live_in : List Node → List ℕ
live_in nodes = slice_index_or (live_from 0 nodes) 0 []

-- the list with others in place of one number
abbrev pub replaced : ℕ → List ℕ → List ℕ → List ℕ
replaced at new [] = []
replaced at new (number ∷ numbers) =
    (if number == at then new else number ∷ []) ++ replaced at new numbers
