-- Why a shown answer is accepted: refutations, spent trees and examples as lists of lines are parts
-- of a report that prove what they say.
use Rattle.std.proofs.Common.{◌≡◌, ℕ, ◌+◌, true, false, ◌&&◌, ◌||◌, ◌==◌, List, [], ◌∷◌}
use Rattle.std.proofs.Common.{◌++◌, length, map, refl, sym, ap, ◌∙◌, subst, inl, inr}
use Rattle.std.proofs.Common.{arith, append-nil, zero-add, cond}
use Rattle.std.specs.List.{list_all, flat_map}
use Rattle.std.proofs.lemmas.Bool.{and_parts, and_from}
use Rattle.std.proofs.lemmas.Bool.{false≢true}
use Rattle.std.proofs.lemmas.List.{map-append}
use Rattle.std.proofs.lemmas.List.Folds.{list_all-append}
use Rattle.league_core.specs.declared.question.Claim.TheVariants.{Inside, Outside}
use Rattle.league_core.specs.declared.question.Question.{Question}
use Rattle.league_core.specs.declared.zone.Test.TheVariants.{Rival}
use Rattle.league_core.specs.declared.zone.Literal.{Literal}
use Rattle.league_core.specs.game.Results.{Results}
use Rattle.league_core.specs.search.Zones.{with_test}
use Rattle.cert_text.specs.TreeLines.{is_test_for}
use Rattle.wide_lines.specs.declared.wide_reason.WideReason.{WideReason}
use Rattle.wide_lines.specs.declared.wide_reason.WideReason.TheVariants as why
use Rattle.wide_lines.specs.declared.wide_node.WideNode.{WideNode}
use Rattle.wide_lines.specs.declared.wide_line.WideLine.{WideLine}
use Rattle.wide_lines.specs.declared.wide_line.WideLine.TheVariants.{Plain}
use Rattle.wide_lines.specs.declared.wide_line.WideLine.TheVariants as wide
use Rattle.wide_lines.specs.WideReasons.{has_wide_reason}
use Rattle.wide_lines.specs.WideTrees.{WideTree, open_leaf, refuted_leaf, branch, WideNodesMeet}
use Rattle.wide_lines.specs.WideTrees.{wide_preorder, wide_new_count, has_wide_open}
use Rattle.wide_lines.specs.WideTrees.{is_wide_refuted, AreWideReasonsTrue}
use Rattle.wide_lines.specs.WideTreeLines.{are_wide_tests_for, IsWideRefutation, IsWideSpentTree}
use Rattle.wide_lines.proofs.RivalLemmas.{near_rival_fits, tests_with}
use Rattle.line_tokens.specs.declared.tree_line.TreeKind.TheVariants.{Refutation, Spent}
use Rattle.cert_check.specs.ExpectedItems.{Basis, may_have, may_refute}
use Rattle.line_tokens.specs.LineRanges.{is_path_for}
use Rattle.line_tokens.specs.LineRanges.{is_reason_for}
use Rattle.league_core.specs.game.Questions.{full_question, holds_at}
use Rattle.cert_text.specs.declared.proof_line.ProofLine.{ProofLine}
use Rattle.cert_text.specs.ExampleLines.{score_lines, lots_line}
use Rattle.line_tokens.specs.declared.token.Token.{Token}
use Rattle.line_tokens.specs.declared.token.Token.TheVariants.{Row, Proof}
use Rattle.line_tokens.specs.declared.row_word.RowWord.{RowWord}
use Rattle.line_tokens.specs.declared.row_word.RowWord.TheVariants.{Clinched, Lost, Possible}
use Rattle.line_tokens.specs.declared.row_word.RowWord.TheVariants.{Unsettled}
use Rattle.line_tokens.specs.Tokens.{counts, counted_lines, token_of_wide}
use Rattle.line_tokens.specs.RowFields.{verdict_fields, ask_fields}
use Rattle.line_tokens.specs.LineRanges.{name_of_club}
use Rattle.cert_check.specs.ExpectedItems.{Expected}
use Rattle.cert_check.specs.LineGrammars.{whole_at}
use Rattle.cert_check.specs.Machine.{with_unsettled, is_unsettled_row, ending_of, rows_of}
use Rattle.cert_check.specs.Machine.{part_of_ask}
use Rattle.cert_check.specs.inside.Grammar.{NodeFits, line_of_node, lines_of_tree}
use Rattle.cert_check.specs.inside.Grammar.{IsRefutationPart, IsSpentPart}
use Rattle.cert_check.specs.inside.Grammar.{IsExamplePart, IsAfterReport, AreParts}
use Rattle.cert_check.specs.inside.Calls.{unsettled_in}
use Rattle.cert_check.specs.inside.Answers.{ShowsRefutedHeaded, ShowsSpentHeaded, ShowsExampleOf}
use Rattle.cert_check.specs.inside.Answers.{ShowsWord, ShownItem, item_tokens, answer_tokens}
use Rattle.cert_check.specs.inside.Answers.{AreShown, unsettled_items, row_due, may_have_leaves}
use Rattle.cert_check.proofs.ExampleLemmas.{same_finish}
use Rattle.cert_check.proofs.NodeLemmas.{node_counts}
use Rattle.line_tokens.proofs.FitLemmas.{reason_fits}
use Rattle.cert_check.specs.inside.LineParts.{unsettled_with}
use Rattle.cert_check.proofs.ReportLemmas.{proved_is_accepted}

-- a wide one may stand in a report that may have such leaves
wide_fits : (basis : Basis) (question : Question) (zone : List Literal) (reason : WideReason)
    → is_path_for basis.sheet question zone ≡ true
    → has_wide_reason basis.sheet basis.season question zone reason ≡ true
    → may_have basis.kind reason ≡ true
    → may_refute basis.kind basis.sheet question reason ≡ true
wide_fits basis question zone (why.Plain reason) path holds may =
    and_from (may_have basis.kind (why.Plain reason)) (is_reason_for basis.sheet question reason)
    may (reason_fits basis.sheet basis.season question zone reason path holds)
wide_fits basis question zone (why.Near rival) path holds may =
    and_from (may_have basis.kind (why.Near rival)) (is_test_for basis.sheet question (Rival rival))
    may (near_rival_fits basis.sheet basis.season question zone rival path holds)

-- a refutation's nodes may stand in a report and prove what they say
refutation_fits : (basis : Basis) (question : Question) (tree : WideTree) (zone : List Literal)
    → is_path_for basis.sheet question zone ≡ true
    → are_wide_tests_for basis.sheet question tree ≡ true → is_wide_refuted tree ≡ true
    → AreWideReasonsTrue basis.sheet basis.season question zone tree
    → may_have_leaves basis.kind tree ≡ true
    → WideNodesMeet (NodeFits true basis Refutation question) zone tree
refutation_fits basis question open_leaf zone path tests refuted reasons may =
    absurd (false≢true refuted)
refutation_fits basis question (refuted_leaf reason fresh) zone path tests refuted reasons may =
    (wide_fits basis question zone reason path reasons may, reasons)
refutation_fits basis question (branch test fresh yes_half no_half) zone path tests refuted
    reasons may =
    let both = and_parts (is_wide_refuted yes_half) (is_wide_refuted no_half) refuted in
    let halves = and_parts (may_have_leaves basis.kind yes_half)
    (may_have_leaves basis.kind no_half) may in
    let all = and_parts (is_test_for basis.sheet question test
    && are_wide_tests_for basis.sheet question yes_half) (are_wide_tests_for basis.sheet question
    no_half)
    tests in
    let front = and_parts (is_test_for basis.sheet question test)
    (are_wide_tests_for basis.sheet question yes_half) all.0 in (
      front.0,
      refutation_fits basis question yes_half (with_test zone test true)
          (tests_with basis.sheet question zone test true path front.0) front.1 both.0 reasons.1
          halves.0,
      refutation_fits basis question no_half (with_test zone test false)
          (tests_with basis.sheet question zone test false path front.0) all.1 both.1 reasons.2
          halves.1,
    )

-- so may those of a tree on which the budget was spent
spent_fits : (basis : Basis) (question : Question) (tree : WideTree) (zone : List Literal)
    → is_path_for basis.sheet question zone ≡ true
    → are_wide_tests_for basis.sheet question tree ≡ true
    → AreWideReasonsTrue basis.sheet basis.season question zone tree
    → may_have_leaves basis.kind tree ≡ true
    → WideNodesMeet (NodeFits true basis Spent question) zone tree
spent_fits basis question open_leaf zone path tests reasons may = tt
spent_fits basis question (refuted_leaf reason fresh) zone path tests reasons may =
    (wide_fits basis question zone reason path reasons may, reasons)
spent_fits basis question (branch test fresh yes_half no_half) zone path tests reasons may =
    let halves = and_parts (may_have_leaves basis.kind yes_half)
    (may_have_leaves basis.kind no_half) may in
    let all = and_parts (is_test_for basis.sheet question test
    && are_wide_tests_for basis.sheet question yes_half) (are_wide_tests_for basis.sheet question
    no_half)
    tests in
    let front = and_parts (is_test_for basis.sheet question test)
    (are_wide_tests_for basis.sheet question yes_half) all.0 in (
      front.0,
      spent_fits basis question yes_half (with_test zone test true)
          (tests_with basis.sheet question zone test true path front.0) front.1 reasons.1 halves.0,
      spent_fits basis question no_half (with_test zone test false)
          (tests_with basis.sheet question zone test false path front.0) all.1 reasons.2 halves.1,
    )

-- the lines of a list of nodes, made in one step or in two
lines_of_nodes : (shown : WideNode → WideLine) (nodes : List WideNode)
    → map token_of_wide (map shown nodes) ≡ map (λ it. token_of_wide (shown it)) nodes
lines_of_nodes shown [] = refl
lines_of_nodes shown (it ∷ nodes) =
    ap (λ lines. token_of_wide (shown it) ∷ lines) (lines_of_nodes shown nodes)

-- a shown refutation is a proved one
refuted_part : (basis : Basis) (question : Question) (lines : List WideLine)
    → ShowsRefutedHeaded basis question lines
    → IsRefutationPart true basis question (map token_of_wide lines)
refuted_part basis question lines shown =
    let tree = shown.0 in
    let is : IsWideRefutation basis.sheet basis.season question tree = shown.1 in (
      map token_of_wide (map (line_of_node Refutation) (wide_preorder tree)),
      (
        tree ∷ [],
        (refutation_fits basis question tree [] refl is.tests is.refuted is.reasons shown.2, tt),
        refl,
        lines_of_nodes (line_of_node Refutation) (wide_preorder tree)
            ∙ sym (append-nil (lines_of_tree Refutation tree)),
      ),
      ap (map token_of_wide) shown.3,
    )

-- a shown spent tree is a proved one
spent_part : (basis : Basis) (question : Question) (lines : List WideLine)
    → ShowsSpentHeaded basis question lines
    → IsSpentPart true basis question (map token_of_wide lines)
spent_part basis question lines shown =
    let tree = shown.0 in
    let is : IsWideSpentTree basis.sheet basis.season question basis.sheet.budget tree = shown.1 in
    let both = and_parts (wide_new_count tree == basis.sheet.budget) (has_wide_open tree) is.spent
    in (
      map token_of_wide (map (line_of_node Spent) (wide_preorder tree)),
      (
        tree ∷ [],
        (spent_fits basis question tree [] refl is.tests is.reasons shown.2, tt),
        and_from (0 + wide_new_count tree == basis.sheet.budget) (false || has_wide_open tree)
            (ap (λ it. it == basis.sheet.budget) (zero-add (wide_new_count tree)) ∙ both.0) both.1,
        lines_of_nodes (line_of_node Spent) (wide_preorder tree)
            ∙ sym (append-nil (lines_of_tree Spent tree)),
      ),
      ap (map token_of_wide) shown.3,
    )

-- lines without near leaves are the same as wide lines
pub plain_tokens : (lines : List ProofLine)
    → map token_of_wide (map (λ shown. Plain shown) lines) ≡ map (λ shown. Proof shown) lines
plain_tokens [] = refl
plain_tokens (shown ∷ lines) = ap (λ it. Proof shown ∷ it) (plain_tokens lines)

-- a shown example is a proved one
example_part : (basis : Basis) (question : Question) (lines : List WideLine)
    → ShowsExampleOf basis question lines
    → IsExamplePart true basis question (map token_of_wide lines)
example_part basis question lines shown =
    let finish = shown.1.0 in
    let drawn = shown.1.1 in
    let is = shown.1.2 in
    let H : Results → Type 0 = λ it. holds_at basis.sheet question it drawn ≡ true in (
      map Proof (score_lines 0 basis.season.scores finish.scores ++ lots_line drawn ∷ []),
      (
        finish.scores,
        drawn,
        is.is_finish.scores,
        is.is_drawn,
        subst H (sym (same_finish basis.season finish is.is_finish.deductions)) is.holds,
        refl,
      ),
      ap (map token_of_wide) shown.2 ∙ plain_tokens shown.0 ∙ ap (map Proof) shown.1.3,
    )

-- what is shown after a word is proved
word_part : (basis : Basis) (number club : ℕ) (word : RowWord) (lines : List WideLine)
    → ShowsWord basis number club word lines
    → IsAfterReport true basis number club word (map token_of_wide lines)
word_part basis number club Clinched lines shown =
    refuted_part basis (full_question club number Outside) lines shown
word_part basis number club Lost lines shown =
    refuted_part basis (full_question club number Inside) lines shown
word_part basis number club Possible lines shown = (
  map token_of_wide shown.0,
  map token_of_wide shown.1,
  example_part basis (full_question club number Inside) shown.0 shown.2,
  example_part basis (full_question club number Outside) shown.1 shown.3,
  ap (map token_of_wide) shown.4 ∙ map-append token_of_wide shown.0 shown.1,
)
word_part basis number club Unsettled lines shown = (
  map token_of_wide shown.0,
  map token_of_wide shown.1,
  elim shown.2 [
    | inl two ↦ inl (
      example_part basis (full_question club number Inside) shown.0 two.0,
      spent_part basis (full_question club number Outside) shown.1 two.1,
    )
    | inr two ↦ inr (
      spent_part basis (full_question club number Inside) shown.0 two.0,
      elim two.1 [
        | inl one ↦ inl (example_part basis (full_question club number Outside) shown.1 one)
        | inr one ↦ inr (spent_part basis (full_question club number Outside) shown.1 one)
      ],
    )
  ],
  ap (map token_of_wide) shown.3 ∙ map-append token_of_wide shown.0 shown.1,
)

-- shown items are proved parts
items_parts : (basis : Basis) (items : List ShownItem) → AreShown basis items
    → AreParts true basis (map row_due items) (flat_map (item_tokens basis) items)
items_parts basis [] shown = refl
items_parts basis (item ∷ items) shown = (
  item_tokens basis item,
  flat_map (item_tokens basis) items,
  (
    item.word,
    map token_of_wide item.lines,
    word_part basis item.line item.club item.word item.lines shown.0,
    refl,
  ),
  items_parts basis items shown.1,
  refl,
)

-- proof lines have no unsettled row
unsettled-proofs : (lines : List WideLine) (unsettled : ℕ)
    → unsettled_with is_unsettled_row unsettled (map token_of_wide lines) ≡ unsettled
unsettled-proofs [] unsettled = refl
unsettled-proofs (wide.Plain shown ∷ lines) unsettled = unsettled-proofs lines unsettled
unsettled-proofs (wide.Near rival ∷ lines) unsettled = unsettled-proofs lines unsettled
unsettled-proofs (wide.NewNear rival ∷ lines) unsettled = unsettled-proofs lines unsettled

-- of lines one after another, first the ones and then the others
unsettled_with-append : (front back : List Token) (unsettled : ℕ)
    → unsettled_with is_unsettled_row unsettled (front ++ back)
    ≡ unsettled_with is_unsettled_row (unsettled_with is_unsettled_row unsettled front) back
unsettled_with-append [] back unsettled = refl
unsettled_with-append (token ∷ front) back unsettled =
    unsettled_with-append front back (with_unsettled unsettled token)

-- a row with a word
unsettled-row : (number : ℕ) (name : List ℕ) (word : RowWord) (unsettled : ℕ)
    → with_unsettled unsettled (Row (verdict_fields number name word))
    ≡ unsettled + unsettled_in word
unsettled-row number name Clinched unsettled = omega arith
unsettled-row number name Lost unsettled = omega arith
unsettled-row number name Possible unsettled = omega arith
unsettled-row number name Unsettled unsettled = refl

-- items have as many unsettled rows as unsettled words
unsettled-items : (basis : Basis) (items : List ShownItem) (unsettled : ℕ)
    → unsettled_with is_unsettled_row unsettled (flat_map (item_tokens basis) items)
    ≡ unsettled + unsettled_items items
unsettled-items basis [] unsettled = omega arith
unsettled-items basis (item ∷ items) unsettled =
    unsettled_with-append (item_tokens basis item) (flat_map (item_tokens basis) items) unsettled
    ∙ ap (λ it. unsettled_with is_unsettled_row it (flat_map (item_tokens basis) items))
    (unsettled-proofs item.lines
    (with_unsettled unsettled (Row (verdict_fields item.line (name_of_club basis.sheet item.club)
    item.word)))
    ∙ unsettled-row item.line (name_of_club basis.sheet item.club) item.word unsettled)
    ∙ unsettled-items basis items (unsettled + unsettled_in item.word) ∙ omega arith

-- proof lines count
all_count-proofs : (lines : List WideLine) → list_all counts (map token_of_wide lines) ≡ true
all_count-proofs [] = refl
all_count-proofs (shown ∷ lines) =
    and_from (counts (token_of_wide shown)) (list_all counts (map token_of_wide lines))
    (node_counts shown) (all_count-proofs lines)

-- the lines of items count
all_count-items : (basis : Basis) (items : List ShownItem)
    → list_all counts (flat_map (item_tokens basis) items) ≡ true
all_count-items basis [] = refl
all_count-items basis (item ∷ items) =
    list_all-append counts (item_tokens basis item) (flat_map (item_tokens basis) items)
    ∙ and_from (list_all counts (item_tokens basis item))
    (list_all counts (flat_map (item_tokens basis) items)) (all_count-proofs item.lines)
    (all_count-items basis items)

-- if all lines count none is left out
counted_all : (tokens : List Token) → list_all counts tokens ≡ true → counted_lines tokens ≡ tokens
counted_all [] all = refl
counted_all (token ∷ tokens) all =
    let parts = and_parts (counts token) (list_all counts tokens) all in
    ap (λ it. cond it (token ∷ counted_lines tokens) (counted_lines tokens)) parts.0
    ∙ ap (λ it. token ∷ it) (counted_all tokens parts.1)

-- a shown answer is accepted
pub answer_accepted : (basis : Basis) (items : List ShownItem) (rest : List Token) (from : ℕ)
    → map row_due items ≡ rows_of basis.sheet → AreShown basis items
    → ending_of basis (answer_tokens basis items ++ rest) (part_of_ask basis.sheet) from 0
    ≡ whole_at (from + length (answer_tokens basis items)) (unsettled_items items)
answer_accepted basis items rest from rows shown =
    let tokens = answer_tokens basis items in
    let all : list_all counts tokens ≡ true = all_count-items basis items in
    let P : List Token → Type 0 = λ it. AreParts true basis (part_of_ask basis.sheet) it in
    let part : P tokens = (
      Row (ask_fields basis.epoch) ∷ [],
      flat_map (item_tokens basis) items,
      refl,
      subst (λ (dues : List Expected). AreParts true basis dues
          (flat_map (item_tokens basis) items))
          rows
          (items_parts basis items shown),
      refl,
    ) in
    let read = proved_is_accepted basis tokens rest
    (part_of_ask basis.sheet) from 0
    (subst P (sym (counted_all tokens all)) part) in
    read.1
    ∙ ap (λ it. whole_at it (unsettled_with is_unsettled_row 0 tokens)) (read.3 all)
    ∙ ap (whole_at (from + length tokens))
    (unsettled-items basis items 0 ∙ zero-add (unsettled_items items))
