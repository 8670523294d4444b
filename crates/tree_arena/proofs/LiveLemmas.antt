-- The leaves of an arena that are open or lent, in the order of its tree: what a write does to
-- them.
use Rattle.std.proofs.Common.{◌≡◌, ◌≢◌, ℕ, zero, suc, ◌+◌, ◌<◌, ◌≤◌, Bool, ◌==◌, cond, List, []}
use Rattle.std.proofs.Common.{◌∷◌, ◌++◌, length, map, reverse, get_or, set, refl, sym, ap, ◌∙◌}
use Rattle.std.proofs.Common.{subst, arith, append_assoc, append-nil, inl, inr}
use Rattle.std.specs.List.{insert, remove}
use Rattle.std.proofs.lemmas.Bool.{cases_Bool, eqb-true, eq-eqb}
use Rattle.std.proofs.lemmas.List.{get_or_append_left, length-map, reverse-append, reverse-reverse}
use Rattle.std.proofs.lemmas.List.Sums.{sum_by-append, sum_by-cons}
use Rattle.league_core.specs.declared.zone.Test.{Test}
use Rattle.tree_arena.specs.declared.node.Kind.{Kind}
use Rattle.tree_arena.specs.declared.node.Kind.TheVariants.{Open, Lent, Refuted, Split}
use Rattle.tree_arena.specs.declared.node.Node.{Node}
use Rattle.tree_arena.specs.inside.Arena.{AreHalvesWithin, AllWithin, IsLeafKind, IsLiveKind}
use Rattle.tree_arena.specs.inside.Arena.{times_in, with_kind, halves_under}
use Rattle.tree_arena.specs.inside.Order.{live_over, live_from, live_in, replaced}
use Rattle.tree_arena.proofs.MarkLemmas.{one_if, one_if-same, times_in-at}
use Rattle.league_core.proofs.plain.Slots.{at_end}

replaced-append : (at : ℕ) (new xs ys : List ℕ)
    → replaced at new (xs ++ ys) ≡ replaced at new xs ++ replaced at new ys
replaced-append at new [] ys = refl
replaced-append at new (x ∷ xs) ys =
    ap (λ rest. cond (x == at) new (x ∷ []) ++ rest) (replaced-append at new xs ys)
    ∙ sym (append_assoc (cond (x == at) new (x ∷ [])) (replaced at new xs) (replaced at new ys))

replaced-same : (at : ℕ) (new : List ℕ) → replaced at new (at ∷ []) ≡ new
replaced-same at new =
    ap (λ b. cond b new (at ∷ []) ++ []) (eq-eqb at at refl) ∙ append-nil new

replaced-other : (at number : ℕ) (new : List ℕ) → number ≢ at
    → replaced at new (number ∷ []) ≡ number ∷ []
replaced-other at number new apart =
    elim (cases_Bool (number == at)) as (λ _. replaced at new (number ∷ []) ≡ number ∷ []) [
      | inl same ↦ absurd (apart (eqb-true number at same))
      | inr different ↦ ap (λ b. cond b new (number ∷ []) ++ []) different
    ]

pub replaced-absent : (at : ℕ) (new list : List ℕ) → times_in at list ≡ 0
    → replaced at new list ≡ list
replaced-absent at new [] none = refl
replaced-absent at new (number ∷ list) none =
    let sum = sum_by-append (one_if at) (number ∷ []) list in
    elim (cases_Bool (number == at)) as (λ _. replaced at new (number ∷ list) ≡ number ∷ list) [
      | inl same ↦
          let once : one_if at number ≡ 1 = ap (λ b. cond b 1 0) same in
          absurd (omega arith)
      | inr different ↦
          ap (λ b. cond b new (number ∷ []) ++ replaced at new list) different
          ∙ ap (λ rest. number ∷ rest) (replaced-absent at new list (omega arith))
    ]

get_or-replaced : (at : ℕ) (new : List ℕ) (lists : List (List ℕ)) (place : ℕ)
    → get_or (map (replaced at new) lists) place [] ≡ replaced at new (get_or lists place [])
get_or-replaced at new [] place = refl
get_or-replaced at new (list ∷ lists) zero = refl
get_or-replaced at new (list ∷ lists) (suc place) = get_or-replaced at new lists place

-- below a node with another number
over_replaced : (at number : ℕ) (new : List ℕ) (kind : Kind) (behind : List (List ℕ))
    → number ≢ at → live_over kind number (map (replaced at new) behind)
    ≡ replaced at new (live_over kind number behind)
over_replaced at number new Open behind apart = sym (replaced-other at number new apart)
over_replaced at number new (Lent other) behind apart = sym (replaced-other at number new apart)
over_replaced at number new (Refuted reason fresh) behind apart = refl
over_replaced at number new (Split test fresh half) behind apart =
    ap (λ list. list ++ get_or (map (replaced at new) behind) (suc half) [])
    (get_or-replaced at new behind half)
    ∙ ap (λ list. replaced at new (get_or behind half []) ++ list)
    (get_or-replaced at new behind (suc half))
    ∙ sym (replaced-append at new (get_or behind half []) (get_or behind (suc half) []))

-- what comes after a number does not have it
replaced-behind : (at more : ℕ) (new : List ℕ) (nodes : List Node) → at < more
    → map (replaced at new) (live_from more nodes) ≡ live_from more nodes
replaced-behind at more new [] less = refl
replaced-behind at more new (node ∷ nodes) less =
    let rest = replaced-behind at (suc more) new nodes (omega arith) in
    let behind = live_from (suc more) nodes in
    ap (λ list. list ∷ map (replaced at new) behind)
    (sym (over_replaced at more new node.kind behind (λ is. omega arith))
    ∙ ap (live_over node.kind more) rest)
    ∙ ap (λ lists. live_over node.kind more behind ∷ lists) rest

leaf_over : (kind : Kind) (number : ℕ) (behind others : List (List ℕ)) → IsLeafKind kind
    → live_over kind number behind ≡ live_over kind number others
leaf_over Open number behind others leaf = refl
leaf_over (Lent other) number behind others leaf = refl
leaf_over (Refuted reason fresh) number behind others leaf = refl
leaf_over (Split test fresh half) number behind others leaf = absurd leaf

over_live : (kind : Kind) (at : ℕ) (behind : List (List ℕ)) → IsLiveKind kind
    → live_over kind at behind ≡ at ∷ []
over_live Open at behind live = refl
over_live (Lent number) at behind live = refl
over_live (Refuted reason fresh) at behind live = absurd live
over_live (Split test fresh half) at behind live = absurd live

-- a leaf that is written in place of one that is open or lent
live-set_leaf : (base at place : ℕ) (nodes : List Node) (written default : Node)
    → at < length nodes → base + at ≡ place → IsLiveKind (get_or nodes at default).kind
    → IsLeafKind written.kind → live_from base (set nodes at written)
    ≡ map (replaced place (live_over written.kind place [])) (live_from base nodes)
live-set_leaf base at place [] written default within is was_live leaf = absurd (omega arith)
live-set_leaf base zero place (node ∷ nodes) written default within is was_live leaf =
    let behind = live_from (suc base) nodes in
    subst (λ (p : ℕ). live_from base (written ∷ nodes)
    ≡ map (replaced p (live_over written.kind p [])) (live_from base (node ∷ nodes)))
    (omega arith)
    (let new = live_over written.kind base [] in
    ap (λ list. list ∷ behind)
    (leaf_over written.kind base behind [] leaf ∙ sym (replaced-same base new)
    ∙ ap (replaced base new) (sym (over_live node.kind base behind was_live)))
    ∙ ap (λ lists. replaced base new (live_over node.kind base behind) ∷ lists)
    (sym (replaced-behind base (suc base) new nodes (omega arith))))
live-set_leaf base (suc at) place (node ∷ nodes) written default within is was_live leaf =
    let new = live_over written.kind place [] in
    let behind = live_from (suc base) nodes in
    ap (λ lists. live_over node.kind base lists ∷ lists)
    (live-set_leaf (suc base) at place nodes written default (omega arith) (omega arith) was_live
    leaf)
    ∙ ap (λ list. list ∷ map (replaced place new) behind)
    (over_replaced place base new node.kind behind (λ same. omega arith))

length-live : (base : ℕ) (nodes : List Node) → length (live_from base nodes) ≡ length nodes
length-live base [] = refl
length-live base (node ∷ nodes) = ap suc (length-live (suc base) nodes)

over_within : (kind : Kind) (number : ℕ) (behind more : List (List ℕ))
    → AreHalvesWithin kind (length behind)
    → live_over kind number (behind ++ more) ≡ live_over kind number behind
over_within Open number behind more within = refl
over_within (Lent other) number behind more within = refl
over_within (Refuted reason fresh) number behind more within = refl
over_within (Split test fresh half) number behind more within =
    ap (λ list. list ++ get_or (behind ++ more) (suc half) [])
    (get_or_append_left behind more [] half (omega arith))
    ∙ ap (λ list. get_or behind half [] ++ list)
    (get_or_append_left behind more [] (suc half) within)

-- two open leaves more at the end
live-longer : (base size parent : ℕ) (nodes : List Node) → base + length nodes ≡ size
    → AllWithin nodes → live_from base (nodes ++ halves_under parent)
    ≡ live_from base nodes ++ (size ∷ []) ∷ (suc size ∷ []) ∷ []
live-longer base size parent [] is all =
    ap (λ n. (n ∷ []) ∷ (suc n ∷ []) ∷ []) (omega arith)
live-longer base size parent (node ∷ nodes) is all =
    let behind = live_from (suc base) nodes in
    let two = (size ∷ []) ∷ (suc size ∷ []) ∷ [] in
    let long = length-live (suc base) nodes in
    ap (λ lists. live_over node.kind base lists ∷ lists)
    (live-longer (suc base) size parent nodes (omega arith) all.1)
    ∙ ap (λ list. list ∷ (behind ++ two))
    (over_within node.kind base behind two
    (subst (λ (n : ℕ). AreHalvesWithin node.kind n) (sym long) all.0))

-- a split that is written in place of such a leaf, over two open leaves at the end
live_split : (base at place size half parent : ℕ) (nodes : List Node) (written default : Node)
    (test : Test) (fresh : Bool) → at < length nodes → base + at ≡ place
    → base + length nodes ≡ size → half + suc at ≡ length nodes → AllWithin nodes
    → IsLiveKind (get_or nodes at default).kind → written.kind ≡ Split test fresh half
    → live_from base (set nodes at written ++ halves_under parent)
    ≡ map (replaced place (size ∷ suc size ∷ [])) (live_from base nodes)
    ++ (size ∷ []) ∷ (suc size ∷ []) ∷ []
live_split base at place size half parent [] written default test fresh within is long far all
    was_live
    kind = absurd (omega arith)
live_split base zero place size half parent (node ∷ nodes) written default test fresh within is
    long far all was_live kind =
    let behind = live_from (suc base) nodes in
    let two = (size ∷ []) ∷ (suc size ∷ []) ∷ [] in
    let new = size ∷ suc size ∷ [] in
    let count = length-live (suc base) nodes in
    let ends = at_end behind (size ∷ []) (suc size ∷ []) [] half (omega arith) in
    subst (λ (p : ℕ). live_from base (written ∷ (nodes ++ halves_under parent))
    ≡ map (replaced p new) (live_from base (node ∷ nodes)) ++ two) (omega arith)
    (ap (λ lists. live_over written.kind base lists ∷ lists)
    (live-longer (suc base) size parent nodes (omega arith) all.1)
    ∙ ap (λ k. live_over k base (behind ++ two) ∷ (behind ++ two)) kind
    ∙ ap (λ list. (list ++ get_or (behind ++ two) (suc half) []) ∷ (behind ++ two)) ends.0
    ∙ ap (λ list. ((size ∷ []) ++ list) ∷ (behind ++ two)) ends.1
    ∙ ap (λ list. list ∷ (behind ++ two))
    (sym (replaced-same base new)
    ∙ ap (replaced base new) (sym (over_live node.kind base behind was_live)))
    ∙ ap (λ lists. replaced base new (live_over node.kind base behind) ∷ (lists ++ two))
    (sym (replaced-behind base (suc base) new nodes (omega arith))))
live_split base (suc at) place size half parent (node ∷ nodes) written default test fresh within is
    long far all was_live kind =
    let behind = live_from (suc base) nodes in
    let two = (size ∷ []) ∷ (suc size ∷ []) ∷ [] in
    let new = size ∷ suc size ∷ [] in
    let count = length-map behind (replaced place new) ∙ length-live (suc base) nodes in
    ap (λ lists. live_over node.kind base lists ∷ lists)
    (live_split (suc base) at place size half parent nodes written default test fresh (omega arith)
    (omega arith) (omega arith) (omega arith) all.1 was_live kind)
    ∙ ap (λ list. list ∷ (map (replaced place new) behind ++ two))
    (over_within node.kind base (map (replaced place new) behind) two
    (subst (λ (n : ℕ). AreHalvesWithin node.kind n) (sym count) all.0)
    ∙ over_replaced place base new node.kind behind (λ same. omega arith))

-- others in place of the number between two lists that do not have it
pub replaced_between : (at : ℕ) (new before behind : List ℕ) → times_in at before ≡ 0
    → times_in at behind ≡ 0
    → replaced at new (before ++ at ∷ behind) ≡ before ++ (new ++ behind)
replaced_between at new before behind none none_behind =
    replaced-append at new before (at ∷ behind)
    ∙ ap (λ list. list ++ replaced at new (at ∷ behind)) (replaced-absent at new before none)
    ∙ ap (λ list. before ++ list) (replaced-append at new (at ∷ []) behind)
    ∙ ap (λ list. before ++ (list ++ replaced at new behind)) (replaced-same at new)
    ∙ ap (λ list. before ++ (new ++ list)) (replaced-absent at new behind none_behind)

-- ---- the whole tree

-- with a leaf in place of one that is open or lent
pub live_leaf : (nodes : List Node) (at : ℕ) (kind : Kind) (default : Node) → at < length nodes
    → IsLiveKind (get_or nodes at default).kind → IsLeafKind kind
    → live_in (set nodes at (with_kind kind (get_or nodes at default)))
    ≡ replaced at (live_over kind at []) (live_in nodes)
live_leaf nodes at kind default within live leaf =
    ap (λ lists. get_or lists 0 [])
    (live-set_leaf 0 at at nodes (with_kind kind (get_or nodes at default)) default within
    (omega arith) live leaf)
    ∙ get_or-replaced at (live_over kind at []) (live_from 0 nodes) 0

-- with a split in its place, over two open leaves at the end
pub live_halves : (nodes : List Node) (at half : ℕ) (test : Test) (fresh : Bool) (default : Node)
    → at < length nodes → half + suc at ≡ length nodes → AllWithin nodes
    → IsLiveKind (get_or nodes at default).kind
    → live_in (set nodes at (with_kind (Split test fresh half) (get_or nodes at default))
    ++ halves_under at)
    ≡ replaced at (length nodes ∷ suc (length nodes) ∷ []) (live_in nodes)
live_halves nodes at half test fresh default within far all live =
    let size = length nodes in
    let written = with_kind (Split test fresh half) (get_or nodes at default) in
    let new = size ∷ suc size ∷ [] in
    let lists = map (replaced at new) (live_from 0 nodes) in
    let count = length-map (live_from 0 nodes) (replaced at new) ∙ length-live 0 nodes in
    ap (λ ls. get_or ls 0 [])
    (live_split 0 at at size half at nodes written default test fresh within (omega arith)
    (omega arith) far all live refl)
    ∙ get_or_append_left lists ((size ∷ []) ∷ (suc size ∷ []) ∷ []) [] 0 (omega arith)
    ∙ get_or-replaced at new (live_from 0 nodes) 0

-- ---- lists

-- a number in place of itself
pub replaced-self : (at : ℕ) (list : List ℕ) → replaced at (at ∷ []) list ≡ list
replaced-self at [] = refl
replaced-self at (number ∷ list) =
    elim (cases_Bool (number == at)) as (λ _.
    replaced at (at ∷ []) (number ∷ list) ≡ number ∷ list) [
      | inl same ↦
          ap (λ b. cond b (at ∷ []) (number ∷ []) ++ replaced at (at ∷ []) list) same
          ∙ ap (λ n. n ∷ replaced at (at ∷ []) list) (sym (eqb-true number at same))
          ∙ ap (λ rest. number ∷ rest) (replaced-self at list)
      | inr different ↦
          ap (λ b. cond b (at ∷ []) (number ∷ []) ++ replaced at (at ∷ []) list) different
          ∙ ap (λ rest. number ∷ rest) (replaced-self at list)
    ]

replaced_one : (at number : ℕ) (new : List ℕ)
    → replaced at new (number ∷ []) ≡ reverse (cond (number == at) (reverse new) (number ∷ []))
replaced_one at number new =
    append-nil (cond (number == at) new (number ∷ []))
    ∙ elim (cases_Bool (number == at)) as (λ _. cond (number == at) new (number ∷ [])
    ≡ reverse (cond (number == at) (reverse new) (number ∷ []))) [
      | inl same ↦
          ap (λ b. cond b new (number ∷ [])) same ∙ sym (reverse-reverse new)
          ∙ ap (λ b. reverse (cond b (reverse new) (number ∷ []))) (sym same)
      | inr different ↦
          ap (λ b. cond b new (number ∷ [])) different
          ∙ ap (λ b. reverse (cond b (reverse new) (number ∷ []))) (sym different)
    ]

-- the other way round
pub replaced-reverse : (at : ℕ) (new list : List ℕ)
    → replaced at new (reverse list) ≡ reverse (replaced at (reverse new) list)
replaced-reverse at new [] = refl
replaced-reverse at new (number ∷ list) =
    ap (replaced at new) (reverse-append (number ∷ []) list)
    ∙ replaced-append at new (reverse list) (number ∷ [])
    ∙ ap (λ first. first ++ replaced at new (number ∷ [])) (replaced-reverse at new list)
    ∙ ap (λ last. reverse (replaced at (reverse new) list) ++ last) (replaced_one at number new)
    ∙ sym (reverse-append (cond (number == at) (reverse new) (number ∷ []))
    (replaced at (reverse new) list))

-- a number that stands in a list once, and first, is in no other place
once_first : (at number : ℕ) (list : List ℕ) → times_in at (number ∷ list) ≡ 1 → number ≡ at
    → times_in at list ≡ 0
once_first at number list once is =
    let sum = sum_by-cons (one_if at) number list in
    let one = ap (one_if at) is ∙ one_if-same at in
    omega arith

-- one that stands later is not the first
once_later : (at number place : ℕ) (list : List ℕ) → times_in at (number ∷ list) ≡ 1
    → place < length list → get_or list place 0 ≡ at
    → (number ≢ at) × (times_in at list ≡ 1)
once_later at number place list once within is =
    let sum = sum_by-cons (one_if at) number list in
    let some = subst (λ (n : ℕ). 1 ≤ times_in n list) is (times_in-at list place within) in (
      λ same. let one = ap (one_if at) same ∙ one_if-same at in omega arith,
      omega arith,
    )

-- another number stays
replaced-past : (at number : ℕ) (new list : List ℕ) → number ≢ at
    → replaced at new (number ∷ list) ≡ number ∷ replaced at new list
replaced-past at number new list apart =
    elim (cases_Bool (number == at)) as (λ _.
    replaced at new (number ∷ list) ≡ number ∷ replaced at new list) [
      | inl same ↦ absurd (apart (eqb-true number at same))
      | inr different ↦ ap (λ b. cond b new (number ∷ []) ++ replaced at new list) different
    ]

-- a number goes off a list that has it once
pub removed_once : (list : List ℕ) (place at : ℕ) → place < length list
    → get_or list place 0 ≡ at → times_in at list ≡ 1
    → remove list place ≡ replaced at [] list
removed_once [] place at within is once = absurd (omega arith)
removed_once (number ∷ list) zero at within is once =
    sym (ap (λ b. cond b [] (number ∷ []) ++ replaced at [] list) (eq-eqb number at is)
    ∙ replaced-absent at [] list (once_first at number list once is))
removed_once (number ∷ list) (suc place) at within is once =
    let later = once_later at number place list once (omega arith) is in
    ap (λ rest. number ∷ rest) (removed_once list place at (omega arith) is later.1)
    ∙ sym (replaced-past at number [] list later.0)

-- two others come in place of a number that a list has once
pub split_once : (list : List ℕ) (place at one two : ℕ) → place < length list
    → get_or list place 0 ≡ at → times_in at list ≡ 1
    → insert (set list place one) (suc place) two ≡ replaced at (one ∷ two ∷ []) list
split_once [] place at one two within is once = absurd (omega arith)
split_once (number ∷ list) zero at one two within is once =
    sym (ap (λ b. cond b (one ∷ two ∷ []) (number ∷ []) ++ replaced at (one ∷ two ∷ []) list)
    (eq-eqb number at is)
    ∙ ap (λ rest. one ∷ two ∷ rest)
    (replaced-absent at (one ∷ two ∷ []) list (once_first at number list once is)))
split_once (number ∷ list) (suc place) at one two within is once =
    let later = once_later at number place list once (omega arith) is in
    ap (λ rest. number ∷ rest) (split_once list place at one two (omega arith) is later.1)
    ∙ sym (replaced-past at number (one ∷ two ∷ []) list later.0)
