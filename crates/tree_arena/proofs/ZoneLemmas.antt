-- The walk that lists the zones of a tree's leaves.
use Rattle.std.proofs.Common.{◌≡◌, ℕ, suc, ◌≤◌, Bool, true, false, List, [], ◌∷◌, ◌++◌}
use Rattle.std.proofs.Common.{length, take, reverse, Option, Some, None, refl, sym, ap, ◌∙◌, subst}
use Rattle.std.proofs.Common.{append_assoc, append-nil, arith, length-append}
use Rattle.std.proofs.lemmas.Option.{none-some, same_Some}
use Rattle.std.proofs.lemmas.List.{take-append-le, take-take, length-take-le, take_all}
use Rattle.std.proofs.lemmas.List.{reverse-append, length-reverse}
use Rattle.league_core.specs.declared.zone.Test.{Test}
use Rattle.league_core.specs.declared.zone.Literal.{Literal}
use Rattle.league_core.specs.declared.tree.TreeNode.{TreeNode}
use Rattle.league_core.specs.declared.tree.TreeNode.TheVariants.{Split, Open, Lent, Refuted}
use Rattle.league_core.specs.search.Trees.{Tree, open_leaf, lent_leaf, refuted_leaf, branch}
use Rattle.league_core.specs.search.Trees.{zones_from}
use Rattle.league_core.specs.search.TreeLists.{with_node, trees_of}
use Rattle.tree_arena.specs.declared.zones.Step.{Step}
use Rattle.tree_arena.specs.inside.Steps.{literal_of, zone_of_part, zones_to_come, AreInDepth}
use Rattle.tree_arena.specs.inside.Steps.{steps_after, zones_at, ListsZones}
use Rattle.tree_arena.proofs.BuildLemmas.{left_some}

-- parts that stand no deeper stand no deeper than what is deeper still
steps-deeper : (depth more : ℕ) (steps : List Step) → depth ≤ more → AreInDepth depth steps
    → AreInDepth more steps
steps-deeper depth more [] deeper are = tt
steps-deeper depth more (step ∷ steps) deeper are =
    let within = are.0 in (omega arith, are.1)

-- two ways that begin with the same literals are one to parts that stand no deeper
zone_of_part-same : (zone_box other : List Literal) (depth : ℕ) (literal : Option Literal)
    → take depth zone_box ≡ take depth other
    → zone_of_part zone_box depth literal ≡ zone_of_part other depth literal
zone_of_part-same zone_box other depth None same = same
zone_of_part-same zone_box other depth (Some literal) same = ap (λ zone. zone ++ literal ∷ []) same

zones-deeper : (zone_box other : List Literal) (depth : ℕ) (steps : List Step) (trees : List Tree)
    → ((start : ℕ) → start ≤ depth → take start zone_box ≡ take start other)
    → AreInDepth depth steps
    → zones_to_come zone_box steps trees ≡ zones_to_come other steps trees
zones-deeper zone_box other depth [] trees same are = refl
zones-deeper zone_box other depth (step ∷ steps) [] same are = refl
zones-deeper zone_box other depth (step ∷ steps) (tree ∷ trees) same are =
    ap (λ zone. zones_from zone tree ++ zones_to_come zone_box steps trees)
    (zone_of_part-same zone_box other step.depth step.literal (same step.depth are.0))
    ∙ ap (λ rest. zones_from (zone_of_part other step.depth step.literal) tree ++ rest)
    (zones-deeper zone_box other step.depth steps trees
    (λ less le. same less (let top = are.0 in omega arith)) are.1)

-- the zone of a part is at least as long as the way that it keeps, and begins like it
pub length-zone_of_part : (zone_box : List Literal) (depth : ℕ) (literal : Option Literal)
    → depth ≤ length zone_box → depth ≤ length (zone_of_part zone_box depth literal)
length-zone_of_part zone_box depth None within = omega (arith, length-take-le depth zone_box within)
length-zone_of_part zone_box depth (Some literal) within =
    omega (
      arith,
      length-append (take depth zone_box) (literal ∷ []),
      length-take-le depth zone_box
          within,
    )

pub zone_of_part-begins : (zone_box : List Literal) (depth start : ℕ) (literal : Option Literal)
    → start ≤ depth → depth ≤ length zone_box
    → take start (zone_of_part zone_box depth literal) ≡ take start zone_box
zone_of_part-begins zone_box depth start None less within = take-take start depth zone_box less
zone_of_part-begins zone_box depth start (Some literal) less within =
    take-append-le start (take depth zone_box) (literal ∷ [])
    (let long = length-take-le depth zone_box within in omega arith)
    ∙ take-take start depth zone_box less

-- a leaf takes the walk on
leaf_on : (zone_box : List Literal) (step : Step) (leaf : Tree) (steps : List Step)
    (left : List TreeNode) (trees : List Tree) (found wanted : List (List Literal))
    → trees_of left ≡ Some trees → length steps ≡ length trees
    → AreInDepth (length zone_box) (step ∷ steps)
    → zones_from (zone_of_part zone_box step.depth step.literal) leaf
    ≡ zone_of_part zone_box step.depth step.literal ∷ []
    → found ++ zones_to_come zone_box (step ∷ steps) (leaf ∷ trees) ≡ wanted
    → ListsZones (zone_of_part zone_box step.depth step.literal) left steps
    (found ++ zone_of_part zone_box step.depth step.literal ∷ []) wanted
leaf_on zone_box step leaf steps left trees found wanted read many are is all =
    let zone = zone_of_part zone_box step.depth step.literal in
    record {
      trees = trees;
      read = read;
      many = many;
      steps_of = steps-deeper step.depth (length zone) steps
          (length-zone_of_part zone_box step.depth step.literal are.0) are.1;
      become = append_assoc found (zone ∷ []) (zones_to_come zone steps trees)
          ∙ ap (λ rest. found ++ ((zone ∷ []) ++ rest))
          (zones-deeper zone zone_box step.depth steps trees
          (λ start less. zone_of_part-begins zone_box step.depth start step.literal less are.0)
          are.1)
          ∙ ap (λ zones. found ++ (zones ++ zones_to_come zone_box steps trees)) (sym is)
          ∙ all;
    }

-- a split takes the walk on
split_on : (zone_box : List Literal) (step : Step) (test : Test) (fresh : Bool)
    (yes_half no_half : Tree)
    (steps : List Step) (left : List TreeNode) (trees : List Tree)
    (found wanted : List (List Literal))
    → trees_of left ≡ Some (yes_half ∷ no_half ∷ trees) → length steps ≡ length trees
    → AreInDepth (length zone_box) (step ∷ steps)
    → found ++ zones_to_come zone_box (step ∷ steps) (branch test fresh yes_half no_half ∷ trees)
    ≡ wanted
    → ListsZones (zone_of_part zone_box step.depth step.literal) left
    (steps_after (Split test fresh) (length (zone_of_part zone_box step.depth step.literal)) steps)
    (found ++ []) wanted
split_on zone_box step test fresh yes_half no_half steps left trees found wanted read many are all =
    let zone = zone_of_part zone_box step.depth step.literal in
    let yes_zones = zones_from (zone ++ literal_of test true ∷ []) yes_half in
    let no_zones = zones_from (zone ++ literal_of test false ∷ []) no_half in
    let rest = zones_to_come zone steps trees in
    record {
      trees = yes_half ∷ no_half ∷ trees;
      read = read;
      many = ap (λ n. suc (suc n)) many;
      steps_of = (
        omega arith,
        (
          omega arith,
          steps-deeper step.depth (length zone) steps
              (length-zone_of_part zone_box step.depth step.literal are.0) are.1,
        ),
      );
      become = ap (λ list. list ++ zones_to_come zone
          (steps_after (Split test fresh) (length zone) steps) (yes_half ∷ no_half ∷ trees))
          (append-nil found)
          ∙ ap (λ z. found ++ (zones_from (z ++ literal_of test true ∷ []) yes_half
          ++ (zones_from (z ++ literal_of test false ∷ []) no_half ++ rest)))
          (take_all (length zone) zone (omega arith))
          ∙ ap (λ list. found ++ list) (sym (append_assoc yes_zones no_zones rest))
          ∙ ap (λ list. found ++ ((yes_zones ++ no_zones) ++ list))
          (zones-deeper zone zone_box step.depth steps trees
          (λ start less. zone_of_part-begins zone_box step.depth start step.literal less are.0)
          are.1)
          ∙ all;
    }

-- whatever the node is
node_on : (zone_box : List Literal) (step : Step) (steps : List Step) (node : TreeNode)
    (left : List TreeNode) (found wanted : List (List Literal)) (read : Option (List Tree))
    (trees : List Tree) → trees_of left ≡ read → with_node node read ≡ Some trees
    → length (step ∷ steps) ≡ length trees → AreInDepth (length zone_box) (step ∷ steps)
    → found ++ zones_to_come zone_box (step ∷ steps) trees ≡ wanted
    → ListsZones (zone_of_part zone_box step.depth step.literal) left
    (steps_after node (length (zone_of_part zone_box step.depth step.literal)) steps)
    (found ++ zones_at node (zone_of_part zone_box step.depth step.literal)) wanted
node_on zone_box step steps node left found wanted None trees behind is many are all =
    absurd (none-some trees is)
node_on zone_box step steps Open left found wanted (Some more) trees behind is many are all =
    let same = same_Some (open_leaf ∷ more) trees is in
    let size = ap length same in
    leaf_on zone_box step open_leaf steps left more found wanted behind (omega arith) are refl
    (ap (λ ts. found ++ zones_to_come zone_box (step ∷ steps) ts) same ∙ all)
node_on zone_box step steps (Lent number) left found wanted (Some more) trees behind is many are
    all =
    let same = same_Some (lent_leaf number ∷ more) trees is in
    let size = ap length same in
    leaf_on zone_box step (lent_leaf number) steps left more found wanted behind (omega arith) are
    refl
    (ap (λ ts. found ++ zones_to_come zone_box (step ∷ steps) ts) same ∙ all)
node_on zone_box step steps (Refuted reason fresh) left found wanted (Some more) trees behind is
    many are
    all =
    let same = same_Some (refuted_leaf reason fresh ∷ more) trees is in
    let size = ap length same in
    leaf_on zone_box step (refuted_leaf reason fresh) steps left more found wanted behind
    (omega arith)
    are
    refl (ap (λ ts. found ++ zones_to_come zone_box (step ∷ steps) ts) same ∙ all)
node_on zone_box step steps (Split test fresh) left found wanted (Some []) trees behind is many are
    all =
    absurd (none-some trees is)
node_on zone_box step steps (Split test fresh) left found wanted (Some (one ∷ [])) trees behind is
    many
    are all = absurd (none-some trees is)
node_on zone_box step steps (Split test fresh) left found wanted (Some (yes_half ∷ no_half ∷ more))
    trees
    behind is many are all =
    let same = same_Some (branch test fresh yes_half no_half ∷ more) trees is in
    let size = ap length same in
    split_on zone_box step test fresh yes_half no_half steps left more found wanted behind
    (omega arith)
    are (ap (λ ts. found ++ zones_to_come zone_box (step ∷ steps) ts) same ∙ all)

-- the part on top of the stack is the next one
pub zones_top : (zone_box : List Literal) (left : List TreeNode) (stack rest : List Step)
    (step : Step)
    (found wanted : List (List Literal)) → ListsZones zone_box left (reverse stack) found wanted
    → stack ≡ rest ++ step ∷ [] → ListsZones zone_box left (step ∷ reverse rest) found wanted
zones_top zone_box left stack rest step found wanted lists popped =
    subst (λ (steps : List Step). ListsZones zone_box left steps found wanted)
    (ap reverse popped ∙ reverse-append rest (step ∷ [])) lists

pub zones_on : (zone_box after : List Literal) (list left : List TreeNode) (node : TreeNode)
    (stack rest next : List Step) (step : Step) (found more wanted : List (List Literal))
    → ListsZones zone_box list (reverse stack) found wanted → list ≡ node ∷ left
    → stack ≡ rest ++ step ∷ [] → after ≡ zone_of_part zone_box step.depth step.literal
    → reverse next ≡ steps_after node (length after) (reverse rest)
    → more ≡ found ++ zones_at node after
    → ListsZones after left (reverse next) more wanted
zones_on zone_box after list left node stack rest next step found more wanted lists list_is popped
    after_is next_is more_is =
    let top = zones_top zone_box list stack rest step found wanted lists popped in
    let zone = zone_of_part zone_box step.depth step.literal in
    rw (
      next_is ∙ ap (λ z. steps_after node (length z) (reverse rest)) after_is,
      more_is ∙ ap (λ z. found ++ zones_at node z) after_is,
      after_is,
    ) (node_on zone_box step (reverse rest) node left found wanted (trees_of left) top.trees refl
    (ap trees_of (sym list_is) ∙ top.read) top.many top.steps_of top.become)

-- a node has a part
pub zones_some : (zone_box : List Literal) (list left : List TreeNode) (node : TreeNode)
    (stack : List Step) (found wanted : List (List Literal))
    → ListsZones zone_box list (reverse stack) found wanted → list ≡ node ∷ left → 1 ≤ length stack
zones_some zone_box list left node stack found wanted lists list_is =
    let some = left_some node (trees_of left) lists.trees
    (ap trees_of (sym list_is) ∙ lists.read) in
    let many = lists.many in
    let turned = length-reverse stack in
    omega arith
