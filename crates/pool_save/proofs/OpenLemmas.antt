-- Open leaves: how many there are when a leaf comes back, and what is known of one that was lent.
use Rattle.std.proofs.Common.{◌≡◌, ℕ, ◌+◌, ◌*◌, Bool, true, false, ◌==◌, cond, List, [], ◌∷◌}
use Rattle.std.proofs.Common.{refl, arith}
use Rattle.std.specs.List.{All}
use Rattle.std.proofs.lemmas.List.Elements.{All-nil, All-cons, All-append}
use Rattle.league_core.specs.declared.zone.Literal.{Literal}
use Rattle.league_core.specs.declared.tree.TreeNode.{TreeNode}
use Rattle.league_core.specs.declared.tree.TreeNode.TheVariants.{Open}
use Rattle.league_core.specs.search.Zones.{with_test}
use Rattle.league_core.specs.search.Trees.{Tree, open_leaf, lent_leaf, refuted_leaf, branch}
use Rattle.league_core.specs.search.Trees.{NodesMeet, has_open}
use Rattle.league_core.specs.inside.Lending.{times_lent, lent_zones, put}
use Rattle.tree_arena.specs.OpenCounts.{open_count}

-- the open leaves of a new tree come in for each leaf that it replaces
pub open_count-put : (number : ℕ) (new tree : Tree)
    → open_count (put number new tree)
    ≡ open_count tree + times_lent number tree * open_count new
open_count-put number new open_leaf = omega arith
open_count-put number new (lent_leaf other) = at_leaf (other == number)
  where
    at_leaf : (b : Bool) → open_count (cond b new (lent_leaf other))
        ≡ 0 + cond b 1 0 * open_count new
    at_leaf true = omega arith
    at_leaf false = omega arith
open_count-put number new (refuted_leaf reason fresh) = omega arith
open_count-put number new (branch test fresh yes_half no_half) =
    let first = open_count-put number new yes_half in
    let second = open_count-put number new no_half in
    summed (open_count (put number new yes_half)) (open_count (put number new no_half))
    (open_count yes_half) (open_count no_half) (times_lent number yes_half)
    (times_lent number no_half) (open_count new) first second
  where
    summed : (a b c d m n x : ℕ) → a ≡ c + m * x → b ≡ d + n * x
        → a + b ≡ c + d + (m + n) * x
    summed a b c d m n x first second = rw (first, second) (ring c d m n x)
      where
        ring : (c d m n x : ℕ) → c + m * x + (d + n * x) ≡ c + d + (m + n) * x
        ring c d m n x = grind arith

-- a tree without an open leaf has none to count
pub open_count-none : (tree : Tree) → open_count tree ≡ 0 → has_open tree ≡ false
open_count-none open_leaf none = absurd (omega arith)
open_count-none (lent_leaf number) none = refl
open_count-none (refuted_leaf reason fresh) none = refl
open_count-none (branch test fresh yes_half no_half) none =
    rw (
      open_count-none yes_half (omega (arith, none)),
      open_count-none no_half (omega (arith, none)),
    ) refl

-- what is a fact of the open leaf that was lent under a number
pub NodesMeet-opened : (Fact : List Literal → TreeNode → Type 0) (number : ℕ) (tree : Tree)
    (zone : List Literal) → NodesMeet Fact zone (put number open_leaf tree)
    → All (λ z. Fact z Open) (lent_zones number zone tree)
NodesMeet-opened Fact number open_leaf zone facts = All-nil (λ z. Fact z Open)
NodesMeet-opened Fact number (lent_leaf other) zone facts = at_leaf (other == number) facts
  where
    at_leaf : (b : Bool) → NodesMeet Fact zone (cond b open_leaf (lent_leaf other))
        → All (λ z. Fact z Open) (cond b (zone ∷ []) [])
    at_leaf true fact = All-cons (λ z. Fact z Open) zone [] fact (All-nil (λ z. Fact z Open))
    at_leaf false fact = All-nil (λ z. Fact z Open)
NodesMeet-opened Fact number (refuted_leaf reason fresh) zone facts = All-nil (λ z. Fact z Open)
NodesMeet-opened Fact number (branch test fresh yes_half no_half) zone facts =
    All-append (λ z. Fact z Open) (lent_zones number (with_test zone test true) yes_half)
    (lent_zones number (with_test zone test false) no_half)
    (NodesMeet-opened Fact number yes_half (with_test zone test true) facts.1)
    (NodesMeet-opened Fact number no_half (with_test zone test false) facts.2)
