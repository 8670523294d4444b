-- Trees that are one open leaf stay over a change of the season; another one is made.
use Rattle.std.proofs.Common.{◌≡◌, Some, None, refl, sym}
use Rattle.std.proofs.lemmas.Option.{none-some, same_Some}
use Rattle.league_core.specs.declared.sheet.Sheet.{Sheet}
use Rattle.league_core.specs.declared.question.Question.{Question}
use Rattle.league_core.specs.game.Results.{Results}
use Rattle.league_core.specs.search.Trees.{Tree, open_leaf, lent_leaf, refuted_leaf, branch}
use Rattle.tree_reuse.specs.Retargets.{retargeted}
use Rattle.tree_reuse.proofs.RetargetLemmas.{open_leaf_stays}
use Rattle.branch_pool.specs.inside.QuestionStates.{tree_left}

-- nothing is made of it
pub none_left : (sheet : Sheet) (season : Results) (question : Question) (tree : Tree)
    → tree ≡ open_leaf → None ≡ tree_left sheet season question tree
none_left sheet season question tree is = rw is refl

-- of another tree what the season leaves is made
pub some_left : (sheet : Sheet) (season : Results) (question : Question) (tree : Tree)
    → (tree ≡ open_leaf → ⊥)
    → Some (retargeted sheet season question tree) ≡ tree_left sheet season question tree
some_left sheet season question open_leaf other = absurd (other refl)
some_left sheet season question (lent_leaf number) other = refl
some_left sheet season question (refuted_leaf reason fresh) other = refl
some_left sheet season question (branch test fresh yes_half no_half) other = refl

-- what was made is what the season leaves
pub is_left : (sheet : Sheet) (season : Results) (question : Question) (tree left : Tree)
    → tree_left sheet season question tree ≡ Some left
    → left ≡ retargeted sheet season question tree
is_left sheet season question open_leaf left made = absurd (none-some left made)
is_left sheet season question (lent_leaf number) left made = sym (same_Some _ left made)
is_left sheet season question (refuted_leaf reason fresh) left made =
    sym (same_Some _ left made)
is_left sheet season question (branch test fresh yes_half no_half) left made =
    sym (same_Some _ left made)

-- where nothing was made the season leaves the tree
pub stays : (sheet : Sheet) (season : Results) (question : Question) (tree : Tree)
    → tree_left sheet season question tree ≡ None
    → retargeted sheet season question tree ≡ tree
stays sheet season question open_leaf made =
    open_leaf_stays sheet season question open_leaf refl
stays sheet season question (lent_leaf number) made = absurd (none-some _ (sym made))
stays sheet season question (refuted_leaf reason fresh) made =
    absurd (none-some _ (sym made))
stays sheet season question (branch test fresh yes_half no_half) made =
    absurd (none-some _ (sym made))
