-- What shows an item of an answer, with near leaves or without, shows its word in a report.
use Rattle.std.proofs.Common.{◌≡◌, ℕ, Bool, true, false, List, [], ◌∷◌, ◌++◌, map, refl, sym, ap}
use Rattle.std.proofs.Common.{◌∙◌, inl, inr}
use Rattle.std.specs.Prelude.{◌⊎◌, ◌||◌}
use Rattle.std.specs.List.{list_all}
use Rattle.std.proofs.lemmas.Bool.{and_from, and_parts, false≢true}
use Rattle.std.proofs.lemmas.List.{map-append}
use Rattle.std.proofs.lemmas.List.Folds.{list_all-append}
use Rattle.league_core.specs.declared.question.Claim.TheVariants.{Inside, Outside}
use Rattle.league_core.specs.declared.question.Question.{Question}
use Rattle.league_core.specs.game.Questions.{full_question}
use Rattle.cert_text.specs.declared.proof_line.ProofLine.{ProofLine}
use Rattle.cert_text.specs.TreeLines.{marked_lines}
use Rattle.wide_lines.specs.declared.wide_reason.WideReason.{WideReason}
use Rattle.wide_lines.specs.declared.wide_reason.WideReason.TheVariants as reason
use Rattle.wide_lines.specs.declared.wide_node.WideNode.{WideNode}
use Rattle.wide_lines.specs.declared.wide_node.WideNode.TheVariants.{Split, Refuted}
use Rattle.wide_lines.specs.declared.wide_line.WideLine.{WideLine}
use Rattle.wide_lines.specs.declared.wide_line.WideLine.TheVariants.{Plain, Near, NewNear}
use Rattle.wide_lines.specs.WideTrees.{WideTree, open_leaf, refuted_leaf, branch, wide_preorder}
use Rattle.wide_lines.specs.WideTreeLines.{plain_wide_line, marked_wide_line}
use Rattle.wide_lines.specs.WideTreeLines.{with_wide_tree_head, with_wide_spent_head}
use Rattle.wide_lines.proofs.WideTreeLemmas.{refutation_is_wide, spent_is_wide}
use Rattle.cert_check.specs.declared.expected.ReportKind.{ReportKind}
use Rattle.cert_check.specs.declared.expected.ReportKind.TheVariants as kind
use Rattle.cert_check.specs.ExpectedItems.{Basis, may_have}
use Rattle.cert_check.specs.inside.Answers.{ShowsWord, ShowsSpentHeaded, ShowsExampleOf}
use Rattle.cert_check.specs.inside.Answers.{ShowsRefutedHeaded, may_have_leaves}
use Rattle.answer_rows.specs.declared.word.Word.{Word}
use Rattle.answer_rows.specs.declared.word.Word.TheVariants.{Clinched, Lost, Possible, Unsettled}
use Rattle.answer_rows.specs.Items.{IsItemShown, RefutesIfAsked, ShowsPart}
use Rattle.decide_run.specs.Decisions.{IsDecidedItem, RefutesWideIfAsked, ShowsWidePart}
use Rattle.report_laws.specs.inside.AcceptedAnswers.{row_word}

-- proof lines as wide lines
abbrev pub as_wide : List ProofLine → List WideLine
as_wide lines = map (λ shown. Plain shown) lines

-- ---- what may stand

-- the line is that of no near leaf
abbrev is_proof_line : WideLine → Bool
is_proof_line (Plain shown) = true
is_proof_line (Near rival) = false
is_proof_line (NewNear rival) = false

all_proof_lines : (lines : List ProofLine) → list_all is_proof_line (as_wide lines) ≡ true
all_proof_lines [] = refl
all_proof_lines (shown ∷ lines) = all_proof_lines lines

plain_leaf : (kind : ReportKind) (why : WideReason) (fresh : Bool)
    → is_proof_line (plain_wide_line (Refuted why fresh)) ≡ true → may_have kind why ≡ true
plain_leaf kind (reason.Plain why) fresh is = refl
plain_leaf kind (reason.Near rival) fresh is = absurd (false≢true is)

marked_leaf : (kind : ReportKind) (why : WideReason) (fresh : Bool)
    → is_proof_line (marked_wide_line (Refuted why fresh)) ≡ true → may_have kind why ≡ true
marked_leaf kind (reason.Plain why) fresh is = refl
marked_leaf kind (reason.Near rival) true is = absurd (false≢true is)
marked_leaf kind (reason.Near rival) false is = absurd (false≢true is)

-- a tree with such lines alone may stand in any report
plain_may : (kind : ReportKind) (shown : WideNode → WideLine)
    → ((why : WideReason) (fresh : Bool) → is_proof_line (shown (Refuted why fresh)) ≡ true
    → may_have kind why ≡ true)
    → (tree : WideTree) → list_all is_proof_line (map shown (wide_preorder tree)) ≡ true
    → may_have_leaves kind tree ≡ true
plain_may kind shown leaf open_leaf all = refl
plain_may kind shown leaf (refuted_leaf why fresh) all =
    leaf why fresh (and_parts (is_proof_line (shown (Refuted why fresh))) true all).0
plain_may kind shown leaf (branch test fresh yes_half no_half) all =
    let yes = wide_preorder yes_half in
    let no = wide_preorder no_half in
    let below = and_parts (is_proof_line (shown (Split test fresh)))
    (list_all is_proof_line (map shown (yes ++ no))) all in
    let halves = and_parts (list_all is_proof_line (map shown yes))
    (list_all is_proof_line (map shown no))
    (sym (list_all-append is_proof_line (map shown yes) (map shown no))
    ∙ sym (ap (list_all is_proof_line) (map-append shown yes no)) ∙ below.1) in
    and_from (may_have_leaves kind yes_half) (may_have_leaves kind no_half)
    (plain_may kind shown leaf yes_half halves.0) (plain_may kind shown leaf no_half halves.1)

-- any tree may stand in a wide one
wide_may : (tree : WideTree) → may_have_leaves kind.Wide tree ≡ true
wide_may open_leaf = refl
wide_may (refuted_leaf (reason.Plain why) fresh) = refl
wide_may (refuted_leaf (reason.Near rival) fresh) = refl
wide_may (branch test fresh yes_half no_half) =
    and_from (may_have_leaves kind.Wide yes_half) (may_have_leaves kind.Wide no_half)
    (wide_may yes_half) (wide_may no_half)

-- ---- what shows a question

-- what stands for a question of an item: a tree on which its budget was spent, or an example
abbrev ShowsHeaded : Basis → Question → Bool → List WideLine → Type 0
ShowsHeaded basis question true lines = ShowsSpentHeaded basis question lines
ShowsHeaded basis question false lines = ShowsExampleOf basis question lines

-- of the two parts of an unsettled club one at least is a tree
either_spent : (basis : Basis) (number club : ℕ) (is_inside is_outside : Bool)
    (inside outside : List WideLine) → (is_inside || is_outside) ≡ true
    → ShowsHeaded basis (full_question club number Inside) is_inside inside
    → ShowsHeaded basis (full_question club number Outside) is_outside outside
    → (ShowsExampleOf basis (full_question club number Inside) inside
    × ShowsSpentHeaded basis (full_question club number Outside) outside)
    ⊎ (ShowsSpentHeaded basis (full_question club number Inside) inside
    × (ShowsExampleOf basis (full_question club number Outside) outside
    ⊎ ShowsSpentHeaded basis (full_question club number Outside) outside))
either_spent basis number club true true inside outside some one other = inr (one, inr other)
either_spent basis number club true false inside outside some one other = inr (one, inl other)
either_spent basis number club false true inside outside some one other = inl (one, other)
either_spent basis number club false false inside outside some one other = absurd cc

-- ---- without near leaves

module _ (basis : Basis) where
  -- a refutation
  refuted_headed : (question : Question) (lines : List ProofLine)
      → RefutesIfAsked true basis.sheet basis.season question lines
      → ShowsRefutedHeaded basis question (as_wide lines)
  refuted_headed question lines shows =
      let wide = refutation_is_wide basis.sheet basis.season question shows.0 shows.1 in (
        wide.0,
        wide.1,
        plain_may basis.kind plain_wide_line (plain_leaf basis.kind) wide.0
            (sym (ap (list_all is_proof_line) wide.2) ∙ all_proof_lines shows.0),
        ap as_wide shows.2 ∙ ap (with_wide_tree_head question.claim) wide.2,
      )

  -- a tree on which the budget was spent in the present epoch is one on which it was spent
  part_headed : (question : Question) (is_spent : Bool) (lines : List ProofLine)
      → ShowsPart basis.sheet basis.season question is_spent lines
      → ShowsHeaded basis question is_spent (as_wide lines)
  part_headed question true lines shows =
      let tree = marked_lines shows.0 in
      let wide = spent_is_wide basis.sheet basis.season question basis.sheet.budget tree
      (shows.0, shows.1.tree_spent, refl) in (
        wide.0,
        wide.1,
        plain_may basis.kind marked_wide_line (marked_leaf basis.kind) wide.0
            (sym (ap (list_all is_proof_line) wide.2) ∙ all_proof_lines tree),
        ap as_wide shows.3 ∙ ap (with_wide_spent_head question.claim) wide.2,
      )
  part_headed question false lines shows = (lines, shows, refl)

  -- both parts
  both_wide : (lines inside outside : List ProofLine) → lines ≡ inside ++ outside
      → as_wide lines ≡ as_wide inside ++ as_wide outside
  both_wide lines inside outside is =
      ap as_wide is ∙ map-append (λ it. Plain it) inside outside

  -- what shows an item of an answer shows it in a report
  pub word_shown : (number club : ℕ) (word : Word) (lines : List ProofLine)
      → IsItemShown true basis.sheet basis.season number club word lines
      → ShowsWord basis number club (row_word word) (as_wide lines)
  word_shown number club Clinched lines shown =
      refuted_headed (full_question club number Outside) lines shown.1
  word_shown number club Lost lines shown =
      refuted_headed (full_question club number Inside) lines shown.1
  word_shown number club Possible lines shown = (
    as_wide shown.0,
    as_wide shown.1,
    part_headed (full_question club number Inside) false shown.0 shown.3,
    part_headed (full_question club number Outside) false shown.1 shown.4,
    both_wide lines shown.0 shown.1 shown.2,
  )
  word_shown number club Unsettled lines shown =
      let inside = shown.3.0 in
      let outside = shown.3.1 in (
        as_wide inside,
        as_wide outside,
        either_spent basis number club shown.0 shown.1 (as_wide inside) (as_wide outside) shown.2
            (part_headed (full_question club number Inside) shown.0 inside shown.3.3)
            (part_headed (full_question club number Outside) shown.1 outside shown.3.4),
        both_wide lines inside outside shown.3.2,
      )

-- ---- with near leaves

module _ (basis : Basis) (wide : basis.kind ≡ kind.Wide) where
  wide_tree_may : (tree : WideTree) → may_have_leaves basis.kind tree ≡ true
  wide_tree_may tree = ap (λ (it : ReportKind). may_have_leaves it tree) wide ∙ wide_may tree

  -- a refutation
  refuted_near : (question : Question) (lines : List WideLine)
      → RefutesWideIfAsked true basis.sheet basis.season question lines
      → ShowsRefutedHeaded basis question lines
  refuted_near question lines shows = (
    shows.1.0,
    shows.1.1,
    wide_tree_may shows.1.0,
    shows.2 ∙ ap (with_wide_tree_head question.claim) shows.1.2,
  )

  -- a tree on which the budget was spent, or an example
  part_near : (question : Question) (is_spent : Bool) (lines : List WideLine)
      → ShowsWidePart basis.sheet basis.season question is_spent lines
      → ShowsHeaded basis question is_spent lines
  part_near question true lines shows =
      (shows.0, shows.1.tree_spent, wide_tree_may shows.0, shows.2)
  part_near question false lines shows = shows

  -- what shows an item that was decided shows it in a wide report
  pub decided_shown : (number club : ℕ) (word : Word) (lines : List WideLine)
      → IsDecidedItem true basis.sheet basis.season number club word lines
      → ShowsWord basis number club (row_word word) lines
  decided_shown number club Clinched lines shown =
      refuted_near (full_question club number Outside) lines shown.1
  decided_shown number club Lost lines shown =
      refuted_near (full_question club number Inside) lines shown.1
  decided_shown number club Possible lines shown = (
    shown.0,
    shown.1,
    part_near (full_question club number Inside) false shown.0 shown.3,
    part_near (full_question club number Outside) false shown.1 shown.4,
    shown.2,
  )
  decided_shown number club Unsettled lines shown =
      let inside = shown.3.0 in
      let outside = shown.3.1 in (
        inside,
        outside,
        either_spent basis number club shown.0 shown.1 inside outside shown.2
            (part_near (full_question club number Inside) shown.0 inside shown.3.3)
            (part_near (full_question club number Outside) shown.1 outside shown.3.4),
        shown.3.2,
      )
