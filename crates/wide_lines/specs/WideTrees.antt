-- Wide trees of zones: trees whose leaves are open, or refuted by wide reasons.
use Rattle.std.specs.Prelude.{ℕ, ◌+◌, Bool, true, false, ◌&&◌, ◌||◌, ◌==◌, IsTrue, List, [], ◌∷◌}
use Rattle.std.specs.Prelude.{◌++◌, if◌then◌else◌}
use Rattle.league_core.specs.declared.sheet.Sheet.{Sheet}
use Rattle.league_core.specs.declared.question.Question.{Question}
use Rattle.league_core.specs.declared.zone.Test.{Test}
use Rattle.league_core.specs.declared.zone.Literal.{Literal}
use Rattle.league_core.specs.declared.tree.TreeNode.{TreeNode}
use Rattle.league_core.specs.declared.tree.TreeNode.TheVariants as node
use Rattle.league_core.specs.game.Results.{Results}
use Rattle.league_core.specs.search.Zones.{with_test}
use Rattle.league_core.specs.search.Trees.{Tree}
use Rattle.league_core.specs.search.Trees as plain
use Rattle.wide_lines.specs.declared.wide_reason.WideReason.{WideReason}
use Rattle.wide_lines.specs.declared.wide_reason.WideReason.TheVariants.{Plain}
use Rattle.wide_lines.specs.declared.wide_node.WideNode.{WideNode}
use Rattle.wide_lines.specs.declared.wide_node.WideNode.TheVariants.{Split, Open, Refuted}
use Rattle.wide_lines.specs.WideReasons.{has_wide_reason}

-- a tree: a leaf that is open, or refuted by a reason; or a branch by a test, with the half where
-- it is true first. Refuted leaves and branches may be marked new
pub data WideTree : Type 0 where
  open_leaf : WideTree
  refuted_leaf : WideReason → Bool → WideTree
  branch : Test → Bool → WideTree → WideTree → WideTree

-- a node of a tree without near leaves as one of a wide tree. A lent leaf is an open one
abbrev pub wide_node : TreeNode → WideNode
wide_node (node.Split test fresh) = Split test fresh
wide_node node.Open = Open
wide_node (node.Lent number) = Open
wide_node (node.Refuted reason fresh) = Refuted (Plain reason) fresh

-- a tree without near leaves as a wide tree.
abbrev pub wide_tree : Tree → WideTree
wide_tree plain.open_leaf = open_leaf
wide_tree (plain.lent_leaf number) = open_leaf
wide_tree (plain.refuted_leaf reason fresh) = refuted_leaf (Plain reason) fresh
wide_tree (plain.branch test fresh yes_half no_half) =
    branch test fresh (wide_tree yes_half) (wide_tree no_half)

-- the nodes of a tree from its root on, the half where a test is true first
abbrev pub wide_preorder : WideTree → List WideNode
wide_preorder open_leaf = Open ∷ []
wide_preorder (refuted_leaf reason fresh) = Refuted reason fresh ∷ []
wide_preorder (branch test fresh yes_half no_half) =
    Split test fresh ∷ (wide_preorder yes_half ++ wide_preorder no_half)

-- a fact of each node of a tree and of the zone in which it stands
abbrev pub WideNodesMeet : (List Literal → WideNode → Type 0) → List Literal → WideTree → Type 0
WideNodesMeet Fact zone open_leaf = Fact zone Open
WideNodesMeet Fact zone (refuted_leaf reason fresh) = Fact zone (Refuted reason fresh)
WideNodesMeet Fact zone (branch test fresh yes_half no_half) =
    Fact zone (Split test fresh)
    × WideNodesMeet Fact (with_test zone test true) yes_half
    × WideNodesMeet Fact (with_test zone test false) no_half

-- how many nodes are marked new
abbrev pub wide_new_count : WideTree → ℕ
wide_new_count open_leaf = 0
wide_new_count (refuted_leaf reason fresh) = if fresh then 1 else 0
wide_new_count (branch test fresh yes_half no_half) =
    (if fresh then 1 else 0) + wide_new_count yes_half + wide_new_count no_half

-- some leaf is open
abbrev pub has_wide_open : WideTree → Bool
has_wide_open open_leaf = true
has_wide_open (refuted_leaf reason fresh) = false
has_wide_open (branch test fresh yes_half no_half) = has_wide_open yes_half || has_wide_open no_half

-- each leaf is refuted
abbrev pub is_wide_refuted : WideTree → Bool
is_wide_refuted open_leaf = false
is_wide_refuted (refuted_leaf reason fresh) = true
is_wide_refuted (branch test fresh yes_half no_half) = is_wide_refuted yes_half && is_wide_refuted
    no_half

-- the budget is used up and a leaf is still open
abbrev pub is_wide_spent : ℕ → WideTree → Bool
is_wide_spent budget tree = (wide_new_count tree == budget) && has_wide_open tree

-- of a refuted leaf, that its reason holds in its zone; of any other node, nothing
abbrev pub IsWideReasonTrue : Sheet → Results → Question → List Literal → WideNode → Type 0
IsWideReasonTrue sheet season question zone (Split test fresh) = Unit {0}
IsWideReasonTrue sheet season question zone Open = Unit {0}
IsWideReasonTrue sheet season question zone (Refuted reason fresh) =
    IsTrue (has_wide_reason sheet season question zone reason)

-- each refuted leaf has a reason that holds in its zone, whatever the other leaves are
abbrev pub AreWideReasonsTrue : Sheet → Results → Question → List Literal → WideTree → Type 0
AreWideReasonsTrue sheet season question zone tree =
    WideNodesMeet (IsWideReasonTrue sheet season question) zone tree
