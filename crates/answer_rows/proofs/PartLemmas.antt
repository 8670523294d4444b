-- What stands for one question in an answer, and the lines of two of them.
use Rattle.std.proofs.Common.{◌≡◌, ℕ, ◌<◌, Bool, true, List, [], ◌∷◌, length, Vec, Global, IsTrue}
use Rattle.std.proofs.Common.{refl, ap, ◌∙◌, Result, Ok, Err}
use Rattle.std.specs.Prelude.{All, IfOk}
use Rattle.std.specs.List.{list_all}
use Rattle.std.proofs.lemmas.Bool.{and_from, and_parts}
use Rattle.std.proofs.lemmas.List.Folds.{list_all-append}
use Rattle.std.proofs.lemmas.List.Elements.{All-nil, All-cons}
use Rattle.league_core.specs.declared.sheet.Sheet.{Sheet}
use Rattle.league_core.specs.declared.question.Question.{Question}
use Rattle.league_core.specs.game.Results.{Results, are_results}
use Rattle.league_core.specs.game.Seasons.{IsLeague}
use Rattle.league_core.specs.game.Questions.{IsExample}
use Rattle.league_core.specs.game.Verdicts.{HasNoExample}
use Rattle.league_core.specs.search.Trees.{Tree}
use Rattle.reason_laws.proofs.RefutationLemmas.{refutation_shows, refuted_from}
use Rattle.cert_text.specs.declared.proof_line.ProofLine.{ProofLine}
use Rattle.cert_text.specs.Ranges.{is_in_range}
use Rattle.cert_text.specs.TreeLines.{IsRefutationTree, IsFairSpentTree, plain_lines, marked_lines}
use Rattle.cert_text.specs.TreeLines.{with_tree_head, with_spent_head}
use Rattle.cert_text.specs.ExampleLines.{example_lines}
use Rattle.cert_text.proofs.TreeRangeLemmas.{plain_lines_in_range, marked_lines_in_range}
use Rattle.cert_text.proofs.ExampleRangeLemmas.{example_in_range}
use Rattle.answer_rows.specs.declared.word.Word.{Word}
use Rattle.answer_rows.specs.declared.word.Word.TheVariants.{Clinched, Lost, Possible, Unsettled}
use Rattle.answer_rows.specs.declared.part.Part.{Part}
use Rattle.answer_rows.specs.declared.part.PartKind.TheVariants.{Won, Refuted, Spent}
use Rattle.answer_rows.specs.NewTrees.{is_all_new}
use Rattle.answer_rows.specs.inside.AnswerParts.{IsAnswerPart, proof_by}

-- ---- one question

-- an example as a part
pub won_part : (sheet : Sheet) (season : Results) (question : Question) (finish : Results)
    (lots : List ℕ) (lines : Vec ProofLine Global) → IsLeague sheet season
    → are_results season ≡ true → IsExample sheet season question finish lots
    → lines.items ≡ example_lines question.claim season finish lots
    → IsAnswerPart sheet season question (record { kind = Won; lines = lines })
won_part sheet season question finish lots lines league results example are = record {
  shows = (finish, lots, example, are);
  in_range = ap (list_all is_in_range) are
      ∙ example_in_range sheet season question finish lots league results example;
}

-- a refutation as a part
pub refuted_part : (sheet : Sheet) (season : Results) (question : Question) (tree : Tree)
    (lines : Vec ProofLine Global) → IsRefutationTree sheet season question tree
    → lines.items ≡ with_tree_head question.claim (plain_lines tree)
    → IsAnswerPart sheet season question (record { kind = Refuted; lines = lines })
refuted_part sheet season question tree lines shown are = record {
  shows = (plain_lines tree, (tree, shown, refl), are);
  in_range = ap (list_all is_in_range) are
      ∙ plain_lines_in_range sheet season question tree shown.tests shown.reasons;
}

-- a tree on which the budget was spent as a part
pub spent_part : {E : Type 0} (sheet : Sheet) (season : Results) (question : Question) (tree : Tree)
    (result : Result (Part ProofLine) E) → IsFairSpentTree sheet season question sheet.budget tree
    → is_all_new tree ≡ true → IfOk result (λ part. part.kind ≡ Spent)
    → IfOk result
    (λ part. part.lines.items ≡ with_spent_head question.claim (marked_lines tree))
    → IfOk result (IsAnswerPart sheet season question)
spent_part {E} sheet season question tree (Ok part) shown new kind are = record {
  shows = rw kind (tree, shown, new, are);
  in_range = ap (list_all is_in_range) are
      ∙ marked_lines_in_range sheet season question tree shown.tree_spent.tests
      shown.tree_spent.reasons;
}
spent_part {E} sheet season question tree (Err stop) shown new kind are = tt

-- a question with a refutation has no example
pub refutation_is_true : (sheet : Sheet) (season : Results) (question : Question) (tree : Tree)
    → question.club < length sheet.clubs → IsRefutationTree sheet season question tree
    → HasNoExample sheet season question
refutation_is_true sheet season question tree club_in shown =
    refutation_shows sheet season question tree club_in
    (refuted_from sheet season question tree [] shown.refuted shown.reasons)

-- ---- lines of two questions

module _ {L : Type 0} (passes : L → Bool) where
  -- lines that pass a test, whichever they are
  pub passing_by : (word : Word) (first second : List L) → list_all passes first ≡ true
      → list_all passes second ≡ true → list_all passes (proof_by word first second) ≡ true
  passing_by Clinched first second one two = two
  passing_by Lost first second one two = one
  passing_by Possible first second one two =
      list_all-append passes first second
      ∙ and_from (list_all passes first) (list_all passes second) one two
  passing_by Unsettled first second one two =
      list_all-append passes first second
      ∙ and_from (list_all passes first) (list_all passes second) one two

  -- lines of which each passes it
  pub all_passing : (lines : List L) → list_all passes lines ≡ true
      → All (λ line. IsTrue (passes line)) lines
  all_passing [] all = All-nil (λ line. passes line ≡ true)
  all_passing (line ∷ lines) all =
      let parts = and_parts (passes line) (list_all passes lines) all in
      All-cons (λ l. passes l ≡ true) line lines parts.0 (all_passing lines parts.1)

-- so it is with the ranges of their forms
pub range_by : (word : Word) (first second : List ProofLine) → list_all is_in_range first ≡ true
    → list_all is_in_range second ≡ true → list_all is_in_range (proof_by word first second) ≡ true
range_by word first second one two = passing_by is_in_range word first second one two

pub all_lines : (lines : List ProofLine) → list_all is_in_range lines ≡ true
    → All (λ line. IsTrue (is_in_range line)) lines
all_lines lines all = all_passing is_in_range lines all
