-- The walk over a tree's nodes: each node takes it on, and at its end everything that was wanted is
-- found.
use Rattle.std.proofs.Common.{◌≡◌, ℕ, ◌+◌, ◌≤◌, ◌<◌, Bool, true, false, List, [], ◌∷◌}
use Rattle.std.proofs.Common.{◌++◌, length, take, Option, Some, None, IsTrue, refl, sym, ap, ◌∙◌}
use Rattle.std.proofs.Common.{subst, append_assoc, append-nil, arith}
use Rattle.std.proofs.lemmas.List.{take_all}
use Rattle.std.proofs.lemmas.List.Elements.{All-head, All-tail}
use Rattle.league_core.proofs.plain.Parts.{All-first, All-last}
use Rattle.league_core.specs.declared.sheet.Sheet.{Sheet}
use Rattle.league_core.specs.declared.question.Question.{Question}
use Rattle.league_core.specs.declared.zone.Test.{Test}
use Rattle.league_core.specs.declared.zone.Literal.{Literal}
use Rattle.league_core.specs.declared.tree.TreeNode.{TreeNode}
use Rattle.league_core.specs.declared.tree.TreeNode.TheVariants.{Split, Open, Lent, Refuted}
use Rattle.league_core.specs.game.Results.{Results}
use Rattle.league_core.specs.search.Zones.{is_test_of}
use Rattle.league_core.specs.search.Trees.{Tree, branch, preorder, node_count}
use Rattle.score_box.specs.inside.ZoneBoxViews.{ZoneBoxView}
use Rattle.tree_arena.specs.declared.subtrees.Look.{Look}
use Rattle.tree_arena.specs.inside.Calls.{IsNodeOf, AreTestsOf}
use Rattle.tree_arena.specs.inside.Steps.{from_next, literal_of, zone_of_part}
use Rattle.tree_arena.specs.inside.Subtrees.{subtree_at, tree_over}
use Rattle.tree_arena.proofs.ZoneLemmas.{length-zone_of_part, zone_of_part-begins}
use Rattle.tree_reuse.specs.declared.halves.Halves.{Halves}
use Rattle.tree_reuse.specs.declared.halves.Halves.TheVariants.{Both, YesAlone, NoAlone}
use Rattle.tree_reuse.specs.declared.carry.Part.{Part}
use Rattle.tree_reuse.specs.Retargets.{halves_in, retargeted_from}
use Rattle.tree_reuse.specs.inside.Carrying.{nodes_to_come, part_alone, halves_kept}
use Rattle.tree_reuse.specs.inside.Carrying.{parts_after, split_kept, nodes_kept}
use Rattle.tree_reuse.specs.inside.Carrying.{ArePartsOf, count_to_come, TakesPart, IsWalk}

-- ---- the tests of a tree

-- the first node of a tree is of the sheet, and so are the tests of its halves
pub first_of_sheet : (sheet : Sheet) (node : TreeNode) (yes_half no_half : Tree)
    → AreTestsOf sheet (tree_over node yes_half no_half) → IsNodeOf sheet node
first_of_sheet sheet Open yes_half no_half tests = tt
first_of_sheet sheet (Lent number) yes_half no_half tests = tt
first_of_sheet sheet (Refuted reason fresh) yes_half no_half tests = tt
first_of_sheet sheet (Split test fresh) yes_half no_half tests =
    All-head (IsNodeOf sheet) (Split test fresh) (preorder yes_half ++ preorder no_half) tests

halves_of_sheet : (sheet : Sheet) (test : Test) (fresh : Bool) (yes_half no_half : Tree)
    → AreTestsOf sheet (branch test fresh yes_half no_half)
    → AreTestsOf sheet yes_half × AreTestsOf sheet no_half
halves_of_sheet sheet test fresh yes_half no_half tests =
    let rest = All-tail (IsNodeOf sheet) (Split test fresh) (preorder yes_half ++ preorder no_half)
    tests in (
      All-first (IsNodeOf sheet) (preorder yes_half) (preorder no_half) rest,
      All-last (IsNodeOf sheet) (preorder yes_half) (preorder no_half) rest,
    )

-- ---- parts

-- parts that stand no deeper stand no deeper than what is deeper still
parts_of-deeper : (sheet : Sheet) (trees : List Tree) (depth more : ℕ) (parts : List Part)
    → depth ≤ more → ArePartsOf sheet trees depth parts → ArePartsOf sheet trees more parts
parts_of-deeper sheet trees depth more [] deeper are = tt
parts_of-deeper sheet trees depth more (part ∷ parts) deeper are =
    let within = are.0.no_deeper in (
      record {
        within = are.0.within;
        no_deeper = omega arith;
        literal = are.0.literal;
        tests = are.0.tests;
      },
      are.1,
    )

-- two ways that begin with the same literals are one to parts that stand no deeper
zone_of_part-same : (zone_box other : List Literal) (depth : ℕ) (literal : Option Literal)
    → take depth zone_box ≡ take depth other
    → zone_of_part zone_box depth literal ≡ zone_of_part other depth literal
zone_of_part-same zone_box other depth None same = same
zone_of_part-same zone_box other depth (Some literal) same = ap (λ zone. zone ++ literal ∷ []) same

nodes_to_come-deeper : (sheet : Sheet) (season : Results) (question : Question)
    (trees : List Tree) (zone_box other : List Literal) (depth : ℕ) (parts : List Part)
    → ((start : ℕ) → start ≤ depth → take start zone_box ≡ take start other)
    → ArePartsOf sheet trees depth parts
    → nodes_to_come sheet season question trees zone_box parts
    ≡ nodes_to_come sheet season question trees other parts
nodes_to_come-deeper sheet season question trees zone_box other depth [] same are = refl
nodes_to_come-deeper sheet season question trees zone_box other depth (part ∷ parts) same are =
    let top = are.0.no_deeper in
    ap (λ zone. preorder (retargeted_from sheet season question zone (subtree_at trees part.at))
    ++ nodes_to_come sheet season question trees zone_box parts)
    (zone_of_part-same zone_box other part.depth part.literal (same part.depth top))
    ∙ ap (λ rest. preorder (retargeted_from sheet season question
    (zone_of_part other part.depth part.literal) (subtree_at trees part.at)) ++ rest)
    (nodes_to_come-deeper sheet season question trees zone_box other part.depth parts
    (λ start less. same start (omega arith)) are.1)

-- the halves of a split that stays in part become what the split does
halves_become : (sheet : Sheet) (season : Results) (question : Question) (trees : List Tree)
    (zone : List Literal) (halves : Halves) (test : Test) (look : Look) (parts : List Part)
    → split_kept halves test
    ++ nodes_to_come sheet season question trees zone
    (halves_kept halves (length zone) test look parts)
    ≡ preorder (elim halves [
      | Both ↦ branch test false
          (retargeted_from sheet season question (zone ++ literal_of test true ∷ [])
          (subtree_at trees look.yes_half))
          (retargeted_from sheet season question (zone ++ literal_of test false ∷ [])
          (subtree_at trees look.no_half))
      | YesAlone ↦ retargeted_from sheet season question zone (subtree_at trees look.yes_half)
      | NoAlone ↦ retargeted_from sheet season question zone (subtree_at trees look.no_half)
    ]) ++ nodes_to_come sheet season question trees zone parts
halves_become sheet season question trees zone Both test look parts =
    let at = λ (zone_box : List Literal). λ (holds : Bool). λ (tree : Tree).
    preorder (retargeted_from sheet season question (zone_box ++ literal_of test holds ∷ []) tree)
    in
    let yes_half = subtree_at trees look.yes_half in
    let no_half = subtree_at trees look.no_half in
    let rest = nodes_to_come sheet season question trees zone parts in
    ap (λ zone_box. Split test false ∷ (at zone_box true yes_half ++
    (at zone_box false no_half ++ rest)))
    (take_all (length zone) zone (omega arith))
    ∙ ap (λ nodes. Split test false ∷ nodes)
    (sym (append_assoc (at zone true yes_half) (at zone false no_half) rest))
halves_become sheet season question trees zone YesAlone test look parts =
    ap (λ zone_box. preorder (retargeted_from sheet season question zone_box
    (subtree_at trees look.yes_half)) ++ nodes_to_come sheet season question trees zone parts)
    (take_all (length zone) zone (omega arith))
halves_become sheet season question trees zone NoAlone test look parts =
    ap (λ zone_box. preorder (retargeted_from sheet season question zone_box
    (subtree_at trees look.no_half)) ++ nodes_to_come sheet season question trees zone parts)
    (take_all (length zone) zone (omega arith))

-- they are no deeper than the zone
halves_are : (sheet : Sheet) (trees : List Tree) (halves : Halves) (depth : ℕ) (test : Test)
    (look : Look) (parts : List Part) → IsTrue (is_test_of sheet test)
    → look.yes_half < length trees → look.no_half < length trees
    → AreTestsOf sheet (subtree_at trees look.yes_half)
    → AreTestsOf sheet (subtree_at trees look.no_half) → ArePartsOf sheet trees depth parts
    → ArePartsOf sheet trees depth (halves_kept halves depth test look parts)
halves_are sheet trees Both depth test look parts of_sheet yes_half no_half of_yes of_no are = (
  record { within = yes_half; no_deeper = omega arith; literal = of_sheet; tests = of_yes },
  (record { within = no_half; no_deeper = omega arith; literal = of_sheet; tests = of_no }, are),
)
halves_are sheet trees YesAlone depth test look parts of_sheet yes_half no_half of_yes of_no are =
    (record { within = yes_half; no_deeper = omega arith; literal = tt; tests = of_yes }, are)
halves_are sheet trees NoAlone depth test look parts of_sheet yes_half no_half of_yes of_no are =
    (record { within = no_half; no_deeper = omega arith; literal = tt; tests = of_no }, are)

-- they have fewer nodes than the split
halves_fewer : (trees : List Tree) (halves : Halves) (depth : ℕ) (test : Test) (look : Look)
    (parts : List Part) → count_to_come trees (halves_kept halves depth test look parts)
    ≤ node_count (subtree_at trees look.yes_half) + node_count (subtree_at trees look.no_half)
    + count_to_come trees parts
halves_fewer trees Both depth test look parts = omega arith
halves_fewer trees YesAlone depth test look parts = omega arith
halves_fewer trees NoAlone depth test look parts = omega arith

-- ---- the walk

-- what the first node of a part makes of it
record IsStep (question : Question) (trees : List Tree) (zone_box : ZoneBoxView)
    (zone : List Literal) (tree : Tree) (look : Look) (parts : List Part) : Type 0 where
  next_of : ArePartsOf zone_box.sheet trees (length zone)
      (parts_after zone_box.sheet zone_box.season zone look.node look parts)
  become : nodes_kept zone_box.sheet zone_box.season question zone look.node
      ++ nodes_to_come zone_box.sheet zone_box.season question trees zone
      (parts_after zone_box.sheet zone_box.season zone look.node look parts)
      ≡ preorder (retargeted_from zone_box.sheet zone_box.season question zone tree)
      ++ nodes_to_come zone_box.sheet zone_box.season question trees zone parts
  fewer : count_to_come trees
      (parts_after zone_box.sheet zone_box.season zone look.node look parts)
      < node_count tree + count_to_come trees parts

step : (question : Question) (trees : List Tree) (zone_box : ZoneBoxView) (zone : List Literal)
    (node : TreeNode) (yes_at no_at : ℕ) (parts : List Part) → yes_at < length trees
    → no_at < length trees
    → AreTestsOf zone_box.sheet (tree_over node (subtree_at trees yes_at) (subtree_at trees no_at))
    → ArePartsOf zone_box.sheet trees (length zone) parts
    → IsStep question trees zone_box zone
    (tree_over node (subtree_at trees yes_at) (subtree_at trees no_at))
    (record { node = node; yes_half = yes_at; no_half = no_at }) parts
step question trees zone_box zone Open yes_at no_at parts yes_in no_in tests are =
    record { next_of = are; become = refl; fewer = omega arith }
step question trees zone_box zone (Lent number) yes_at no_at parts yes_in no_in tests are =
    record { next_of = are; become = refl; fewer = omega arith }
step question trees zone_box zone (Refuted reason fresh) yes_at no_at parts yes_in no_in tests are =
    record { next_of = are; become = refl; fewer = omega arith }
step question trees zone_box zone (Split test fresh) yes_at no_at parts yes_in no_in tests are =
    let look : Look = record { node = Split test fresh; yes_half = yes_at; no_half = no_at } in
    let halves = halves_in zone_box.sheet zone_box.season zone test in
    let of_halves = halves_of_sheet zone_box.sheet test fresh (subtree_at trees yes_at)
    (subtree_at trees no_at) tests in
    let of_sheet = first_of_sheet zone_box.sheet (Split test fresh) (subtree_at trees yes_at)
    (subtree_at trees no_at) tests in
    let less = halves_fewer trees halves (length zone) test look parts in
    record {
      next_of = halves_are zone_box.sheet trees halves (length zone) test look parts of_sheet
          yes_in no_in of_halves.0 of_halves.1 are;
      become = halves_become zone_box.sheet zone_box.season question trees zone halves test look
          parts;
      fewer = omega arith;
    }

-- the walk goes on after the first node of the next part, with fewer nodes to come
pub walk_on : (question : Question) (trees : List Tree) (part : Part) (old new : ZoneBoxView)
    (parts next : List Part) (found more wanted : List TreeNode)
    → IsWalk question trees old (part ∷ parts) found wanted
    → TakesPart question trees part old new parts next found more
    → IsWalk question trees new next more wanted
    × (count_to_come trees next < count_to_come trees (part ∷ parts))
walk_on question trees part old new parts next found more wanted walk taken =
    let zone = zone_of_part old.zone part.depth part.literal in
    let first = walk.parts_of.0 in
    let tests = subst (AreTestsOf old.sheet) taken.seen first.tests in
    let are = parts_of-deeper old.sheet trees part.depth (length zone) parts
    (length-zone_of_part old.zone part.depth part.literal first.no_deeper) walk.parts_of.1 in
    let made = step question trees old zone taken.look.node taken.look.yes_half taken.look.no_half
    parts taken.yes_half taken.no_half tests are in
    let less = made.fewer in
    let count = ap node_count taken.seen in
    let after = ap (count_to_come trees) taken.next_is in
    let kept = nodes_kept old.sheet old.season question zone taken.look.node in
    let to_come = nodes_to_come old.sheet old.season question trees zone
    (parts_after old.sheet old.season zone taken.look.node taken.look parts) in (
      rw (taken.box_is, taken.next_is, taken.more_is) (record {
        parts_of = made.next_of;
        become = append_assoc found kept to_come
            ∙ ap (λ nodes. found ++ nodes) (made.become
            ∙ ap (λ tree. preorder (retargeted_from old.sheet old.season question zone tree)
            ++ nodes_to_come old.sheet old.season question trees zone parts) (sym taken.seen)
            ∙ ap (λ rest. preorder (retargeted_from old.sheet old.season question zone
            (subtree_at trees part.at)) ++ rest)
            (nodes_to_come-deeper old.sheet old.season question trees zone old.zone part.depth
            parts (λ start less. zone_of_part-begins old.zone part.depth start part.literal less
            first.no_deeper) walk.parts_of.1))
            ∙ walk.become;
      }),
      omega arith,
    )

-- it begins with the whole tree, at the root
pub walk_starts : (question : Question) (trees : List Tree) (zone_box : ZoneBoxView) (tree : Tree)
    → zone_box.zone ≡ [] → 0 < length trees → subtree_at trees 0 ≡ tree
    → AreTestsOf zone_box.sheet tree
    → IsWalk question trees zone_box (part_alone 0 0 ∷ []) []
    (preorder (retargeted_from zone_box.sheet zone_box.season question [] tree))
walk_starts question trees zone_box tree root some is tests = record {
  parts_of = (
    record {
      within = some;
      no_deeper = omega arith;
      literal = tt;
      tests = rw is tests;
    },
    tt,
  );
  become = append-nil (preorder (retargeted_from zone_box.sheet zone_box.season question
      (take 0 zone_box.zone) (subtree_at trees 0)))
      ∙ ap (λ one. preorder (retargeted_from zone_box.sheet zone_box.season question [] one)) is;
}

-- the part that comes next is the first of them
pub walk_first : (question : Question) (trees : List Tree) (zone_box : ZoneBoxView)
    (next : Option Part) (parts : List Part) (part : Part) (found wanted : List TreeNode)
    → IsWalk question trees zone_box (from_next next parts) found wanted → next ≡ Some part
    → IsWalk question trees zone_box (part ∷ parts) found wanted
walk_first question trees zone_box next parts part found wanted walk is =
    subst (λ (one : Option Part). IsWalk question trees zone_box (from_next one parts) found
    wanted) is walk
