-- The bytes of items, and the trees that they are read as: those that were written, but without the
-- bits past the width of a set, which name no club.
use Rattle.std.proofs.Common.{◌≡◌, inl, inr, ℕ, Bool, true, ◌&&◌, List, [], ◌∷◌}
use Rattle.std.proofs.Common.{◌++◌, map, Option, Some, refl, sym, ap, ap₂}
use Rattle.std.proofs.Common.{◌∙◌}
use Rattle.std.specs.Prelude.{All, is_some}
use Rattle.std.specs.List.{flat_map, list_all}
use Rattle.std.proofs.lemmas.List.Concat.{flat_map-append}
use Rattle.std.proofs.lemmas.List.Elements.{All-head, All-tail}
use Rattle.league_core.specs.declared.sheet.Sheet.{Sheet}
use Rattle.league_core.specs.declared.question.Question.{Question}
use Rattle.league_core.specs.declared.zone.Literal.{Literal}
use Rattle.league_core.specs.declared.tree.TreeNode.{TreeNode}
use Rattle.league_core.specs.declared.tree.TreeNode.TheVariants.{Split, Open, Lent, Refuted}
use Rattle.league_core.specs.game.Results.{Results}
use Rattle.league_core.specs.game.Questions.{IsQuestionOf}
use Rattle.league_core.specs.game.Sheets.{IsWithinLimits}
use Rattle.league_core.specs.search.Trees.{Tree, open_leaf, lent_leaf, refuted_leaf, branch}
use Rattle.cert_text.specs.declared.proof_line.ProofLine.{ProofLine}
use Rattle.cert_text.specs.Rows.{text_of_row}
use Rattle.cert_text.specs.ExampleLines.{text_of_proof_lines}
use Rattle.cert_text.specs.Lines.{text_of_proof_line}
use Rattle.cert_text.specs.TreeLines.{marked_lines}
use Rattle.line_tokens.specs.declared.token.Token.TheVariants.{Proof}
use Rattle.report_lines.specs.inside.WrittenReports.{written}
use Rattle.report_lines.proofs.BodyLemmas.{HaveBodies}
use Rattle.report_lines.proofs.KeptLemmas.{kept_node, kept_tree, marked_lines-kept}
use Rattle.report_lines.proofs.KeptLemmas.{texts-kept}
use Rattle.report_lines.proofs.KeptTreeLemmas.{nodes-kept, refutation-kept, spent-kept}
use Rattle.answer_rows.specs.NewTrees.{is_all_new}
use Rattle.answer_rows.specs.Parts.{IsMadeOf}
use Rattle.pool_save.specs.SavedTexts.{IsSavedNode, AreTreesOf}
use Rattle.pool_save.specs.SavedTexts.{saved_fields}
use Rattle.pool_save.specs.SavedTexts.{saved_item_of, saved_items_of}
use Rattle.pool_save.specs.SavedItems.{IsItemSaved, IsWorthSaving}
use Rattle.pool_save.specs.SavedItems.{saved_item_text}
use Rattle.pool_save.specs.inside.SavedBytes.{IsTreeOfItem}
use Rattle.pool_save.proofs.ItemBodyLemmas.{have-append, reason_for-kept}
use Rattle.pool_save.proofs.ItemBodyLemmas.{saved_row_body, tree_bodies}

-- ---- trees without the bits past the width of their sets

new_kept : (tree : Tree) → is_all_new (kept_tree tree) ≡ is_all_new tree
new_kept open_leaf = refl
new_kept (lent_leaf number) = refl
new_kept (refuted_leaf reason fresh) = refl
new_kept (branch test fresh yes_half no_half) =
    ap₂ (λ (yes no : Bool). fresh && yes && no) (new_kept yes_half) (new_kept no_half)

-- they are worth saving
worth_kept : (sheet : Sheet) (season : Results) (question : Question) (tree : Tree)
    → IsWorthSaving sheet season question tree
    → IsWorthSaving sheet season question (kept_tree tree)
worth_kept sheet season question tree (inl refutes) =
    inl (refutation-kept sheet season question tree refutes)
worth_kept sheet season question tree (inr (inl spent)) =
    inr (inl (
      spent-kept sheet season question sheet.budget tree spent.0,
      new_kept tree ∙ spent.1,
    ))
worth_kept sheet season question tree (inr (inr example)) = inr (inr example)

-- and may be saved
node_kept : (sheet : Sheet) (question : Question) (zone : List Literal) (node : TreeNode)
    → IsSavedNode sheet question zone node → IsSavedNode sheet question zone (kept_node node)
node_kept sheet question zone (Split test fresh) is = is
node_kept sheet question zone Open is = is
node_kept sheet question zone (Lent number) is = is
node_kept sheet question zone (Refuted reason fresh) is =
    (is.0, reason_for-kept sheet question reason ∙ is.1)

-- ---- bytes

-- the bytes of proof lines
written-proofs : (lines : List ProofLine)
    → flat_map written (map Proof lines) ≡ text_of_proof_lines lines
written-proofs [] = refl
written-proofs (line ∷ lines) =
    ap (λ bytes. (text_of_proof_line line ++ 10 ∷ []) ++ bytes) (written-proofs lines)

-- the bytes of an item are those of its tree without such bits
item_bytes : (sheet : Sheet) (question : Question) (tree : Tree)
    → saved_item_text sheet question tree
    ≡ flat_map written (saved_item_of sheet question (Some (kept_tree tree)))
item_bytes sheet question tree =
    ap (λ bytes. text_of_row (saved_fields sheet question) ++ bytes)
    (sym (texts-kept (marked_lines tree)) ∙ ap text_of_proof_lines (marked_lines-kept tree)
    ∙ sym (written-proofs (marked_lines (kept_tree tree))))

-- ---- items

-- the trees of some items, their bytes, and that each line of them is read
pub record HasTrees (sheet : Sheet) (season : Results) (asked : List Question) (items : List ℕ)
    : Type 0 where
  pub trees : List (Option Tree)
  pub each : AreTreesOf (IsTreeOfItem sheet season) asked trees
  pub all : list_all is_some trees ≡ true
  pub bytes : items ≡ flat_map written (saved_items_of sheet asked trees)
  pub bodies : HaveBodies (saved_items_of sheet asked trees)

pub trees_of_items : (sheet : Sheet) (season : Results) (asked : List Question) (items : List ℕ)
    → IsWithinLimits sheet → All (IsQuestionOf sheet) asked
    → IsMadeOf (IsItemSaved sheet season) asked items → HasTrees sheet season asked items
trees_of_items sheet season [] items limits about made =
    record { trees = []; each = tt; all = refl; bytes = made; bodies = tt }
trees_of_items sheet season (question ∷ asked) items limits about made =
    let item = made.3 in
    let tree = item.tree in
    let kept = kept_tree tree in
    let later = trees_of_items sheet season asked made.1 limits
    (All-tail (IsQuestionOf sheet) question asked about) made.4 in
    let first = saved_item_of sheet question (Some kept) in
    let others = saved_items_of sheet asked later.trees in
    record {
      trees = Some kept ∷ later.trees;
      each = (
        (
          nodes-kept (IsSavedNode sheet question) (node_kept sheet question) [] tree item.may_be,
          worth_kept sheet season question tree item.worth,
        ),
        later.each,
      );
      all = later.all;
      bytes = made.2 ∙ ap₂ (λ (front back : List ℕ). front ++ back)
          (item.lines ∙ item_bytes sheet question tree) later.bytes
          ∙ sym (flat_map-append written first others);
      bodies = (
        saved_row_body sheet question limits
            (All-head (IsQuestionOf sheet) question asked about),
        have-append (map Proof (marked_lines kept)) others
            (tree_bodies sheet question limits.most_clubs tree [] item.may_be) later.bodies,
      );
    }
