-- Trees of all questions are such as a pool may adopt.
use Rattle.std.proofs.Common.{◌≡◌, ℕ, zero, suc, List, [], ◌∷◌, length, Option, Some, refl, ap}
use Rattle.std.proofs.Common.{subst, arith, sym}
use Rattle.std.specs.Prelude.{IfSome}
use Rattle.std.specs.List.{slice_get}
use Rattle.std.proofs.lemmas.Option.{none-some, same_Some}
use Rattle.league_core.specs.declared.question.Question.{Question}
use Rattle.league_core.specs.search.Trees.{Tree}
use Rattle.tree_reuse.specs.Asked.{IsAskedTree}
use Rattle.branch_pool.specs.inside.States.{PoolView, out_count}
use Rattle.branch_pool.specs.inside.Adoptions.{MayAdoptAll}
use Rattle.pool_save.specs.SavedTexts.{AreTreesOf, AreAskedTrees}

-- there are as many of them as questions
length-trees_of : (IsFor : Question → Tree → Type 0) (asked : List Question)
    (trees : List (Option Tree)) → AreTreesOf IsFor asked trees → length trees ≡ length asked
length-trees_of IsFor [] [] all = refl
length-trees_of IsFor [] (tree ∷ trees) all = absurd all
length-trees_of IsFor (question ∷ asked) [] all = absurd all
length-trees_of IsFor (question ∷ asked) (tree ∷ trees) all =
    ap suc (length-trees_of IsFor asked trees all.1)

-- each is one for the question at its place
tree_there : (IsFor : Question → Tree → Type 0) (asked : List Question)
    (trees : List (Option Tree)) (place : ℕ) (tree : Tree) → AreTreesOf IsFor asked trees
    → slice_get trees place ≡ Some (Some tree)
    → IfSome (slice_get asked place) (λ question. IsFor question tree)
tree_there IsFor [] [] place tree all is = tt
tree_there IsFor [] (other ∷ trees) place tree all is = absurd all
tree_there IsFor (question ∷ asked) [] place tree all is = absurd all
tree_there IsFor (question ∷ asked) (other ∷ trees) zero tree all is =
    subst (λ (one : Option Tree). IfSome one (IsFor question)) (same_Some other (Some tree) is)
    all.0
tree_there IsFor (question ∷ asked) (other ∷ trees) (suc place) tree all is =
    tree_there IsFor asked trees place tree all.1 is

-- so a pool may adopt them, if nothing is out
pub may_adopt_all : (pool : PoolView) (trees : List (Option Tree)) → out_count pool.loans ≡ 0
    → AreAskedTrees pool.sheet pool.questions trees → MayAdoptAll pool trees
may_adopt_all pool trees home all = record {
  home = home;
  few = let long = length-trees_of (IsAskedTree pool.sheet) pool.questions trees all in
      omega (arith, long);
  asked = λ place tree is.
      tree_there (IsAskedTree pool.sheet) pool.questions trees place tree all is;
}
