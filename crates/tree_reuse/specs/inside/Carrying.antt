-- How a tree is carried over: the nodes that may stay are gone through from the root on, with the
-- parts that are still to come on a stack.
use Rattle.std.specs.Prelude.{◌≡◌, ℕ, ◌+◌, ◌≤◌, ◌<◌, Bool, true, false, IsTrue, List, [], ◌∷◌, ◌++◌}
use Rattle.std.specs.Prelude.{length, Option, Some, None}
use Rattle.league_core.specs.declared.sheet.Sheet.{Sheet}
use Rattle.league_core.specs.declared.question.Question.{Question}
use Rattle.league_core.specs.declared.zone.Test.{Test}
use Rattle.league_core.specs.declared.zone.Literal.{Literal}
use Rattle.league_core.specs.declared.tree.TreeNode.{TreeNode}
use Rattle.league_core.specs.declared.tree.TreeNode.TheVariants.{Split, Open, Lent, Refuted}
use Rattle.league_core.specs.game.Results.{Results}
use Rattle.league_core.specs.search.Zones.{is_test_of}
use Rattle.league_core.specs.search.Reasons.{has_reason}
use Rattle.league_core.specs.search.Trees.{Tree, preorder, node_count}
use Rattle.score_box.specs.inside.ZoneBoxViews.{ZoneBoxView}
use Rattle.tree_arena.specs.declared.subtrees.Look.{Look}
use Rattle.tree_arena.specs.inside.Calls.{AreTestsOf}
use Rattle.tree_arena.specs.inside.Steps.{literal_of, zone_of_part}
use Rattle.tree_arena.specs.inside.Subtrees.{subtree_at, seen_by}
use Rattle.tree_reuse.specs.declared.halves.Halves.{Halves}
use Rattle.tree_reuse.specs.declared.halves.Halves.TheVariants.{Both, YesAlone, NoAlone}
use Rattle.tree_reuse.specs.declared.carry.Part.{Part}
use Rattle.tree_reuse.specs.Retargets.{halves_in, leaf_kept, retargeted_from}

-- the nodes that the parts become, whose trees stand among these
abbrev pub nodes_to_come : Sheet → Results → Question → List Tree → List Literal → List Part
    → List TreeNode
nodes_to_come sheet season question trees zone_box [] = []
nodes_to_come sheet season question trees zone_box (part ∷ parts) =
    preorder (retargeted_from sheet season question
    (zone_of_part zone_box part.depth part.literal) (subtree_at trees part.at))
    ++ nodes_to_come sheet season question trees zone_box parts

-- the half of a split of which both halves stay
abbrev pub half_part : ℕ → ℕ → Test → Bool → Part
half_part at depth test holds =
    record { at = at; depth = depth; literal = Some (literal_of test holds) }

-- a part in the zone of so many literals
abbrev pub part_alone : ℕ → ℕ → Part
part_alone at depth = record { at = at; depth = depth; literal = None }

-- the halves of a split that is left, by what stays of it, the yes half first
abbrev pub halves_kept : Halves → ℕ → Test → Look → List Part → List Part
halves_kept Both depth test look parts =
    half_part look.yes_half depth test true ∷ half_part look.no_half depth test false ∷ parts
halves_kept YesAlone depth test look parts = part_alone look.yes_half depth ∷ parts
halves_kept NoAlone depth test look parts = part_alone look.no_half depth ∷ parts

-- the parts that are to come after this node, at which this is the look
abbrev pub parts_after : Sheet → Results → List Literal → TreeNode → Look → List Part → List Part
parts_after sheet season zone Open look parts = parts
parts_after sheet season zone (Lent number) look parts = parts
parts_after sheet season zone (Refuted reason fresh) look parts = parts
parts_after sheet season zone (Split test fresh) look parts =
    halves_kept (halves_in sheet season zone test) (length zone) test look parts

-- a split of which both halves stay is a node, and is not new
abbrev pub split_kept : Halves → Test → List TreeNode
split_kept Both test = Split test false ∷ []
split_kept YesAlone test = []
split_kept NoAlone test = []

-- the node, if any, that a node becomes
abbrev pub nodes_kept : Sheet → Results → Question → List Literal → TreeNode → List TreeNode
nodes_kept sheet season question zone Open = Open ∷ []
nodes_kept sheet season question zone (Lent number) = Open ∷ []
nodes_kept sheet season question zone (Refuted reason fresh) =
    preorder (leaf_kept (has_reason sheet season question zone reason) reason)
nodes_kept sheet season question zone (Split test fresh) =
    split_kept (halves_in sheet season zone test) test

-- a literal, if there is one, tests one of the sheet's fixtures or clubs
abbrev pub IsLiteralOf : Sheet → Option Literal → Type 0
IsLiteralOf sheet None = Unit {0}
IsLiteralOf sheet (Some literal) = IsTrue (is_test_of sheet literal.test)

-- a part stands no deeper than this, and its tests are of the sheet
pub record IsPartBelow (sheet : Sheet) (trees : List Tree) (depth : ℕ) (part : Part) : Type 0 where
  pub within : part.at < length trees
  pub no_deeper : part.depth ≤ depth
  pub literal : IsLiteralOf sheet part.literal
  pub tests : AreTestsOf sheet (subtree_at trees part.at)

-- no part stands deeper than the one before it
abbrev pub ArePartsOf : Sheet → List Tree → ℕ → List Part → Type 0
ArePartsOf sheet trees depth [] = Unit {0}
ArePartsOf sheet trees depth (part ∷ parts) =
    IsPartBelow sheet trees depth part × ArePartsOf sheet trees part.depth parts

-- how many nodes the trees of the parts have
abbrev pub count_to_come : List Tree → List Part → ℕ
count_to_come trees [] = 0
count_to_come trees (part ∷ parts) =
    node_count (subtree_at trees part.at) + count_to_come trees parts

-- the first node of a part was taken
pub record TakesPart (question : Question) (trees : List Tree) (part : Part)
    (old new : ZoneBoxView) (parts next : List Part) (found more : List TreeNode) : Type 0 where
  pub look : Look
  pub seen : subtree_at trees part.at ≡ seen_by trees look
  pub yes_half : look.yes_half < length trees
  pub no_half : look.no_half < length trees
  pub box_is : new ≡ record old { zone = zone_of_part old.zone part.depth part.literal }
  pub next_is : next ≡ parts_after old.sheet old.season
      (zone_of_part old.zone part.depth part.literal) look.node look parts
  pub more_is : more ≡ found ++ nodes_kept old.sheet old.season question
      (zone_of_part old.zone part.depth part.literal) look.node

-- how far the walk over a tree's nodes has come: what was found with what the parts to come become
-- is the list that is wanted
pub record IsWalk (question : Question) (trees : List Tree) (zone_box : ZoneBoxView)
    (parts : List Part) (found wanted : List TreeNode) : Type 0 where
  pub parts_of : ArePartsOf zone_box.sheet trees (length zone_box.zone) parts
  pub become : found ++ nodes_to_come zone_box.sheet zone_box.season question trees zone_box.zone
      parts ≡ wanted
