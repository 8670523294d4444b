-- Why a list of nodes gives no tree.
use Rattle.std.specs.Prelude.{◌≡◌, List, None}
use Rattle.league_core.specs.declared.tree.TreeNode.{TreeNode}
use Rattle.league_core.specs.search.TreeLists.{tree_of}
use Rattle.tree_arena.specs.declared.stop.TreeStop.{TreeStop}
use Rattle.tree_arena.specs.declared.stop.TreeStop.TheVariants.{NoTree, OutOfMemory}

-- the list comes back if it is that of no tree; nothing is said of running out of memory
abbrev pub WhyNoTree : List TreeNode → TreeStop → Type 0
WhyNoTree nodes (NoTree back) = (back.items ≡ nodes) × (tree_of nodes ≡ None)
WhyNoTree nodes OutOfMemory = Unit {0}
