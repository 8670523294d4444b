-- The list of lent leaves: its entries are lent leaves, and it has each of them.
use Rattle.std.proofs.Common.{◌≡◌, ℕ, zero, suc, ◌+◌, ◌<◌, ◌≤◌, ◌==◌, cond, List, [], ◌∷◌, length}
use Rattle.std.proofs.Common.{get_or, refl, sym, ap, ◌∙◌, subst, arith, inl, inr}
use Rattle.std.proofs.lemmas.Bool.{cases_Bool, eqb-true, eqb-false}
use Rattle.std.proofs.lemmas.List.Sums.{sum_by-cons}
use Rattle.tree_arena.specs.declared.node.Kind.{Kind}
use Rattle.tree_arena.specs.declared.node.Kind.TheVariants.{Open, Lent, Refuted, Split}
use Rattle.tree_arena.specs.declared.node.Node.{Node}
use Rattle.tree_arena.specs.inside.Arena.{total, lent_mark, number_mark, marks, IsListed, IsLeafAt}
use Rattle.tree_arena.specs.inside.Arena.{open_mark, opens_among}
use Rattle.tree_arena.proofs.MarkLemmas.{listed_within, times_in-at, stands_at}
use Rattle.tree_arena.proofs.ArenaLemmas.{any_node, marked_at, length-marks}
use Rattle.league_core.proofs.plain.Slots.{get_or-default}

-- if the marks are more than none, one of them is
record MarkedAt (ms : List ℕ) : Type 0 where
  place : ℕ
  in_list : place < length ms
  some : 1 ≤ get_or ms place 0

some_marked : (ms : List ℕ) → 1 ≤ total ms → MarkedAt ms
some_marked [] some = absurd (omega arith)
some_marked (zero ∷ ms) some =
    let rest = some_marked ms (omega arith) in
    let before = rest.in_list in
    record { place = suc rest.place; in_list = omega arith; some = rest.some }
some_marked (suc m ∷ ms) some = record { place = 0; in_list = omega arith; some = omega arith }

-- a node with the mark of a number is lent under it
pub is_lent : (number : ℕ) (kind : Kind) → number_mark number kind ≡ 1 → kind ≡ Lent number
is_lent number Open marked = absurd (omega arith)
is_lent number (Lent other) marked = elim (cases_Bool (other == number)) [
  | inl same ↦ ap Lent (eqb-true other number same)
  | inr different ↦
      let none : number_mark number (Lent other) ≡ 0 = ap (λ b. cond b 1 0) different in
      absurd (omega arith)
]
is_lent number (Refuted reason fresh) marked = absurd (omega arith)
is_lent number (Split test fresh half) marked = absurd (omega arith)

number_is_lent : (number : ℕ) (kind : Kind) → 1 ≤ number_mark number kind → lent_mark kind ≡ 1
number_is_lent number Open marked = absurd (omega arith)
number_is_lent number (Lent other) marked = refl
number_is_lent number (Refuted reason fresh) marked = absurd (omega arith)
number_is_lent number (Split test fresh half) marked = absurd (omega arith)

-- an entry of the list of lent leaves is a node
pub entry_within : (nodes : List Node) (lents : List ℕ) (place : ℕ)
    → IsListed (marks lent_mark nodes) lents → place < length lents
    → get_or lents place 0 < length nodes
entry_within nodes lents place listed within =
    let marked = listed_within (marks lent_mark nodes) lents (get_or lents place 0) listed
    (times_in-at lents place within) in
    let in_marks = marked.0 in
    let long = length-marks lent_mark nodes in
    omega arith

-- what stands in a list of nodes, whatever is said of what stands past it
node_same : (list : List Node) (at : ℕ) (one other : Node) → at < length list
    → (get_or list at one).kind ≡ (get_or list at other).kind
node_same [] at one other inside = absurd (omega arith)
node_same (node ∷ list) zero one other inside = refl
node_same (node ∷ list) (suc at) one other inside = node_same list at one other (omega arith)

-- the entry that was looked for
pub found_at : (number : ℕ) (nodes : List Node) (lents : List ℕ) (place : ℕ) (kind : Kind)
    (default : Node) → IsListed (marks lent_mark nodes) lents → place < length lents
    → (get_or nodes (get_or lents place 0) default).kind ≡ kind → number_mark number kind ≡ 1
    → IsLeafAt number nodes lents place (get_or lents place 0)
found_at number nodes lents place kind default listed within is marked =
    let leaf = get_or lents place 0 in
    let in_nodes = entry_within nodes lents place listed within in
    record {
      in_list = within;
      entry = get_or-default lents place leaf within;
      in_nodes = in_nodes;
      kind = λ other. node_same nodes leaf other default in_nodes ∙ is
          ∙ is_lent number kind marked;
    }

-- one of the entries is lent under a number that a node is lent under
pub none_left : (number : ℕ) (nodes : List Node) (lents : List ℕ) (default : Node)
    → IsListed (marks lent_mark nodes) lents → total (marks (number_mark number) nodes) ≡ 1
    → ((place : ℕ) → place < length lents
    → number_mark number (get_or nodes (get_or lents place 0) default).kind ≡ 0) → ⊥
none_left number nodes lents default listed once none =
    let marked = some_marked (marks (number_mark number) nodes) (omega arith) in
    let at = marked.place in
    let long = length-marks (number_mark number) nodes in
    let in_marks = marked.in_list in
    let within : at < length nodes = omega arith in
    let mark = marked_at (number_mark number) nodes at default within in
    let some = marked.some in
    let lent = number_is_lent number (get_or nodes at default).kind (omega arith) in
    let is = marked_at lent_mark nodes at default within in
    let each = listed.each at in
    let stands = stands_at at lents (omega arith) in
    let fails = none stands.place stands.in_list in
    let same = ap (λ n. number_mark number (get_or nodes n default).kind) stands.is in
    omega arith

-- one entry more without a mark
pub none_from : (mark : Kind → ℕ) (nodes : List Node) (list : List ℕ) (place from : ℕ)
    (default : Node) → get_or list place 0 < length nodes → from ≡ place + 1
    → mark (get_or nodes (get_or list place 0) default).kind ≡ 0
    → ((k : ℕ) (other : Node) → from ≤ k → k < length list
    → mark (get_or nodes (get_or list k 0) other).kind ≡ 0)
    → (k : ℕ) (other : Node) → place ≤ k → k < length list
    → mark (get_or nodes (get_or list k 0) other).kind ≡ 0
none_from mark nodes list place from default inside next none rest k other later in_list =
    elim (cases_Bool (k == place)) [
      | inl same ↦
          let is : k ≡ place = eqb-true k place same in
          subst (λ (n : ℕ). mark (get_or nodes (get_or list n 0) other).kind ≡ 0) (sym is)
          (ap mark (node_same nodes (get_or list place 0) other default inside) ∙ none)
      | inr different ↦
          let apart = eqb-false k place different in
          rest k other (omega arith) in_list
    ]

-- no entry is open
pub none_among : (nodes : List Node) (list : List ℕ)
    → ((k : ℕ) → k < length list
    → open_mark (get_or nodes (get_or list k 0) any_node).kind ≡ 0)
    → opens_among nodes list ≡ 0
none_among nodes [] none = refl
none_among nodes (at ∷ list) none =
    let sum = sum_by-cons (λ n. open_mark (get_or nodes n any_node).kind) at list in
    let first = none 0 (omega arith) in
    let rest = none_among nodes list (λ k inside. none (suc k) (omega arith)) in
    omega arith
