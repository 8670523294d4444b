-- The calls on a tree leave the way that it keeps as it was: it leads to where it led.
use Rattle.std.proofs.Common.{◌≡◌, ◌<◌, ℕ, List, [], ◌∷◌, ◌++◌, length, get_or, set, sym, subst}
use Rattle.std.specs.List.{remove}
use Rattle.league_core.specs.inside.Rooms.{RoomyListView}
use Rattle.league_core.specs.declared.zone.Literal.{Literal}
use Rattle.tree_arena.specs.declared.node.Kind.{Kind}
use Rattle.tree_arena.specs.declared.node.Kind.TheVariants.{Open}
use Rattle.tree_arena.specs.declared.node.Node.{Node}
use Rattle.tree_arena.specs.inside.Arena.{with_kind, IsLeafAt, IsLeafKind, IsRoomy}
use Rattle.tree_arena.specs.inside.LastPaths.{LeadsToNode}
use Rattle.tree_arena.proofs.ArenaLemmas.{any_node}
use Rattle.tree_arena.proofs.LastPathLemmas.{leads-set, leads-more}
use Rattle.tree_arena.proofs.RoomLemmas.{last_lent, leaf_removed, lent_kind}

-- when an open leaf is lent
pub leads_lent : (nodes done : RoomyListView Node) (leaf : ℕ) (kind : Kind)
    (literals : List Literal) (at : ℕ) → leaf < length nodes.items
    → (get_or nodes.items leaf any_node).kind ≡ Open
    → done.items ≡ set nodes.items leaf (with_kind kind (get_or nodes.items leaf any_node))
    → LeadsToNode nodes.items literals at → LeadsToNode done.items literals at
leads_lent nodes done leaf kind literals at within is written leads =
    subst (λ (ns : List Node). LeadsToNode ns literals at) (sym written)
    (leads-set nodes.items leaf kind literals at within
    (subst (λ (k : Kind). IsLeafKind k) (sym is) tt) leads)

-- when a lent leaf comes back
pub leads_back : (number : ℕ) (nodes done : RoomyListView Node) (lent less : RoomyListView ℕ)
    (list : List Node)
    (slice : List ℕ) (place leaf : ℕ) (kind : Kind) (literals : List Literal) (at : ℕ)
    → list ≡ nodes.items → slice ≡ lent.items
    → IsLeafAt number list slice place (get_or slice place 0)
    → leaf ≡ get_or lent.items place leaf → less.items ≡ remove lent.items place
    → ((default : Node) → done.items
    ≡ set nodes.items leaf (with_kind kind (get_or nodes.items leaf default)))
    → LeadsToNode nodes.items literals at → LeadsToNode done.items literals at
leads_back number nodes done lent less list slice place leaf kind literals at same same_lent there
    taken removed written leads =
    let is = leaf_removed number nodes lent less list slice place leaf same same_lent there taken
    removed in
    subst (λ (ns : List Node). LeadsToNode ns literals at) (sym (written any_node))
    (leads-set nodes.items leaf kind literals at is.in_nodes
    (subst (λ (k : Kind). IsLeafKind k) (sym (is.kind any_node)) tt) leads)

-- when two nodes more come after all others
pub leads_pushed : (nodes one two : RoomyListView Node) (first second : Node)
    (literals : List Literal)
    (at : ℕ) → one.items ≡ nodes.items ++ first ∷ [] → two.items ≡ one.items ++ second ∷ []
    → LeadsToNode nodes.items literals at → LeadsToNode two.items literals at
leads_pushed nodes one two first second literals at one_is two_is leads =
    subst (λ (ns : List Node). LeadsToNode ns literals at) (sym two_is)
    (leads-more one.items (second ∷ []) literals at
    (subst (λ (ns : List Node). LeadsToNode ns literals at) (sym one_is)
    (leads-more nodes.items (first ∷ []) literals at leads)))

-- when the last of the lent leaves is open again
pub leads_opened : (nodes done : RoomyListView Node) (live lent less : RoomyListView ℕ)
    (leaf : ℕ)
    (literals : List Literal) (at : ℕ) → IsRoomy nodes live lent
    → lent.items ≡ less.items ++ leaf ∷ []
    → ((default : Node) → done.items
    ≡ set nodes.items leaf (with_kind Open (get_or nodes.items leaf default)))
    → LeadsToNode nodes.items literals at → LeadsToNode done.items literals at
leads_opened nodes done live lent less leaf literals at roomy popped written leads =
    let last = last_lent nodes live lent less leaf roomy popped in
    subst (λ (ns : List Node). LeadsToNode ns literals at) (sym (written any_node))
    (leads-set nodes.items leaf Open literals at last.0
    (lent_kind (get_or nodes.items leaf any_node).kind last.1) leads)
