-- An answer with proofs, over the definitions of wide lines alone, and that it is accepted. A crate
-- that makes such answers has only to name its own as these.
use Rattle.std.specs.Prelude.{◌≡◌, ◌⊎◌, ℕ, ◌+◌, Bool, true, ◌&&◌, IsTrue, List, [], ◌∷◌, ◌++◌}
use Rattle.std.specs.Prelude.{length, map}
use Rattle.std.specs.List.{flat_map}
use Rattle.league_core.specs.declared.question.Claim.TheVariants.{Inside, Outside}
use Rattle.league_core.specs.declared.question.Question.{Question}
use Rattle.league_core.specs.game.Questions.{full_question}
use Rattle.cert_text.specs.declared.proof_line.ProofLine.{ProofLine}
use Rattle.cert_text.specs.ExampleLines.{IsExampleInLines}
use Rattle.wide_lines.specs.declared.wide_line.WideLine.{WideLine}
use Rattle.wide_lines.specs.declared.wide_line.WideLine.TheVariants.{Plain}
use Rattle.wide_lines.specs.WideTrees.{WideTree, open_leaf, refuted_leaf, branch}
use Rattle.wide_lines.specs.WideTreeLines.{IsWideRefutation, IsWideSpentTree, plain_wide_lines}
use Rattle.wide_lines.specs.WideTreeLines.{marked_wide_lines, with_wide_tree_head}
use Rattle.wide_lines.specs.WideTreeLines.{with_wide_spent_head}
use Rattle.line_tokens.specs.declared.token.Token.{Token}
use Rattle.line_tokens.specs.declared.token.Token.TheVariants.{Row}
use Rattle.line_tokens.specs.Tokens.{token_of_wide}
use Rattle.line_tokens.specs.declared.row_word.RowWord.{RowWord}
use Rattle.line_tokens.specs.declared.row_word.RowWord.TheVariants.{Clinched, Lost, Possible}
use Rattle.line_tokens.specs.declared.row_word.RowWord.TheVariants.{Unsettled}
use Rattle.cert_check.specs.declared.expected.ReportKind.{ReportKind}
use Rattle.cert_check.specs.ExpectedItems.{Basis, Expected, verdict_row}
use Rattle.line_tokens.specs.RowFields.{ask_fields, verdict_fields}
use Rattle.cert_check.specs.ExpectedItems.{may_have}
use Rattle.line_tokens.specs.LineRanges.{name_of_club}
use Rattle.cert_check.specs.LineGrammars.{whole_at}
use Rattle.cert_check.specs.Machine.{ending_of, rows_of, part_of_ask}
use Rattle.cert_check.specs.inside.Calls.{unsettled_in}

-- the tree has no leaf that a report of this kind may not have
abbrev pub may_have_leaves : ReportKind → WideTree → Bool
may_have_leaves kind open_leaf = true
may_have_leaves kind (refuted_leaf reason fresh) = may_have kind reason
may_have_leaves kind (branch test fresh yes_half no_half) =
    may_have_leaves kind yes_half && may_have_leaves kind no_half

-- the lines are a refutation under its head
abbrev pub ShowsRefutedHeaded : Basis → Question → List WideLine → Type 0
ShowsRefutedHeaded basis question lines =
    (tree : WideTree) × IsWideRefutation basis.sheet basis.season question tree
    × IsTrue (may_have_leaves basis.kind tree)
    × (lines ≡ with_wide_tree_head question.claim (plain_wide_lines tree))

-- the lines are a tree on which the budget was spent, under its head
abbrev pub ShowsSpentHeaded : Basis → Question → List WideLine → Type 0
ShowsSpentHeaded basis question lines =
    (tree : WideTree)
    × IsWideSpentTree basis.sheet basis.season question basis.sheet.budget tree
    × IsTrue (may_have_leaves basis.kind tree)
    × (lines ≡ with_wide_spent_head question.claim (marked_wide_lines tree))

-- the lines are an example
abbrev pub ShowsExampleOf : Basis → Question → List WideLine → Type 0
ShowsExampleOf basis question lines =
    (plain : List ProofLine) × IsExampleInLines basis.sheet basis.season question plain
    × (lines ≡ map Plain plain)

-- the lines show what a word says of a line and a club
abbrev pub ShowsWord : Basis → ℕ → ℕ → RowWord → List WideLine → Type 0
ShowsWord basis line club Clinched lines =
    ShowsRefutedHeaded basis (full_question club line Outside) lines
ShowsWord basis line club Lost lines =
    ShowsRefutedHeaded basis (full_question club line Inside) lines
ShowsWord basis line club Possible lines =
    (inside : List WideLine) × (outside : List WideLine)
    × ShowsExampleOf basis (full_question club line Inside) inside
    × ShowsExampleOf basis (full_question club line Outside) outside
    × (lines ≡ inside ++ outside)
ShowsWord basis line club Unsettled lines =
    (inside : List WideLine) × (outside : List WideLine)
    × ((ShowsExampleOf basis (full_question club line Inside) inside
    × ShowsSpentHeaded basis (full_question club line Outside) outside)
    ⊎ (ShowsSpentHeaded basis (full_question club line Inside) inside
    × (ShowsExampleOf basis (full_question club line Outside) outside
    ⊎ ShowsSpentHeaded basis (full_question club line Outside) outside)))
    × (lines ≡ inside ++ outside)

-- a word of a line and a club with the lines after it
pub record ShownItem : Type 0 where
  pub line : ℕ
  pub club : ℕ
  pub word : RowWord
  pub lines : List WideLine

-- the lines of an item: its row and what comes after it
abbrev pub item_tokens : Basis → ShownItem → List Token
item_tokens basis item =
    Row (verdict_fields item.line (name_of_club basis.sheet item.club) item.word)
    ∷ map token_of_wide item.lines

-- the lines of an answer: the row of the ask and the items
abbrev pub answer_tokens : Basis → List ShownItem → List Token
answer_tokens basis items = Row (ask_fields basis.epoch) ∷ flat_map (item_tokens basis) items

-- each item is shown
abbrev pub AreShown : Basis → List ShownItem → Type 0
AreShown basis [] = Unit {0}
AreShown basis (item ∷ items) =
    ShowsWord basis item.line item.club item.word item.lines × AreShown basis items

-- how many items are unsettled
abbrev pub unsettled_items : List ShownItem → ℕ
unsettled_items [] = 0
unsettled_items (item ∷ items) = unsettled_in item.word + unsettled_items items

-- the row that an item is about
abbrev pub row_due : ShownItem → Expected
row_due item = verdict_row item.line item.club

-- an answer with an item for each line and each club, all of them shown, is accepted as one part of
-- a report, whatever follows, with as many unsettled rows as it has
abbrev pub ShownAnswersAreAccepted : Type 0
ShownAnswersAreAccepted =
    (basis : Basis) (items : List ShownItem) (rest : List Token) (from : ℕ)
    → map row_due items ≡ rows_of basis.sheet → AreShown basis items
    → ending_of basis (answer_tokens basis items ++ rest) (part_of_ask basis.sheet) from 0
    ≡ whole_at (from + length (answer_tokens basis items)) (unsettled_items items)
