use Rattle.std.proofs.Common.{◌≡◌, ◌∷◌, length, true}
use Rattle.std.specs.List.{list_all}
use Rattle.league_core.specs.inside.Pending.{pending_of}
use Rattle.depth_search.specs.inside.Cases.{is_made}
use Rattle.depth_search.proofs.PrefixLemmas.{AreFit, IsPrefixOfTree}
use Rattle.depth_search.proofs.search.work_through.Given as goal

-- the nodes are the prefix of a tree, as many as there were turns, and none of them is open; what
-- is asked is as at the start; and there may be looked in all zones that are due
abbrev pub invariant-loop-spent : goal.invariant-loop-spent
invariant-loop-spent g l =
    let asked = g.K.Kind.subject l.fn.kind in
    IsPrefixOfTree (g.K.Kind.refutes asked) (g.K.Kind.splits asked) l.nodes.items
    (l.path.items ∷ pending_of l.path.items)
    × (length l.nodes.items ≡ l.spent) × (list_all is_made l.nodes.items ≡ true)
    × (g.K.Kind.subject l.kind ≡ asked)
    × AreFit (g.K.Kind.fits asked) (l.path.items ∷ pending_of l.path.items)
