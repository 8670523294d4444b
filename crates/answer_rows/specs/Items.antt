-- What an answer says of a line and a club: a word, and the proof lines that show it. A club that
-- is neither clinched nor lost is possible if both sides are shown by an example, and unsettled if
-- the budget was spent on one of its two questions or on both.
use Rattle.std.specs.Prelude.{◌≡◌, ℕ, Bool, true, false, ◌||◌, IsTrue, List, [], ◌++◌}
use Rattle.std.specs.Prelude.{map, All, length}
use Rattle.std.specs.List.{flat_map, range_with_len}
use Rattle.league_core.specs.declared.sheet.Sheet.{Sheet}
use Rattle.league_core.specs.declared.question.Claim.TheVariants.{Inside, Outside}
use Rattle.league_core.specs.declared.question.Question.{Question}
use Rattle.league_core.specs.game.Results.{Results}
use Rattle.league_core.specs.game.Questions.{full_question}
use Rattle.league_core.specs.game.Verdicts.{IsClinched, IsLost}
use Rattle.league_core.specs.search.Trees.{Tree}
use Rattle.cert_text.specs.declared.proof_line.ProofLine.{ProofLine}
use Rattle.cert_text.specs.TreeLines.{ShowsRefuted, IsFairSpentTree, marked_lines}
use Rattle.cert_text.specs.TreeLines.{with_tree_head, with_spent_head}
use Rattle.cert_text.specs.ExampleLines.{IsExampleInLines}
use Rattle.answer_rows.specs.NewTrees.{is_all_new}
use Rattle.answer_rows.specs.declared.word.Word.{Word}
use Rattle.answer_rows.specs.declared.word.Word.TheVariants.{Clinched, Lost, Possible, Unsettled}
use Rattle.answer_rows.specs.declared.word.Verdict.{Verdict}

-- the lines show that the budget was spent on the question in the present epoch: its head, and a
-- tree on which it was spent fairly, all of it new
abbrev pub ShowsSpentNow : Sheet → Results → Question → List ProofLine → Type 0
ShowsSpentNow sheet season question lines =
    (tree : Tree) × IsFairSpentTree sheet season question sheet.budget tree
    × IsTrue (is_all_new tree)
    × (lines ≡ with_spent_head question.claim (marked_lines tree))

-- what stands for a question: if it was spent a tree that shows it, otherwise an example
abbrev pub ShowsPart : Sheet → Results → Question → Bool → List ProofLine → Type 0
ShowsPart sheet season question true lines = ShowsSpentNow sheet season question lines
ShowsPart sheet season question false lines = IsExampleInLines sheet season question lines

-- the part of `Inside` and then that of `Outside`, each spent or not, by what stands for a question
abbrev pub ShowsBothParts : {L : Type 0} → (Question → Bool → List L → Type 0) → Bool → Bool → ℕ
    → ℕ → List L → Type 0
ShowsBothParts {L} Shows is_inside_spent is_outside_spent line club lines =
    (inside : List L) × (outside : List L) × (lines ≡ inside ++ outside)
    × Shows (full_question club line Inside) is_inside_spent inside
    × Shows (full_question club line Outside) is_outside_spent outside

-- both parts, of which at least one is a tree
abbrev pub ShowsUnsettled : Sheet → Results → ℕ → ℕ → List ProofLine → Type 0
ShowsUnsettled sheet season line club lines =
    (is_inside_spent : Bool) × (is_outside_spent : Bool)
    × IsTrue (is_inside_spent || is_outside_spent)
    × ShowsBothParts (ShowsPart sheet season) is_inside_spent is_outside_spent line club lines

-- an example of `Inside` and then one of `Outside`
abbrev pub ShowsPossible : Sheet → Results → ℕ → ℕ → List ProofLine → Type 0
ShowsPossible sheet season line club lines =
    ShowsBothParts (ShowsPart sheet season) false false line club lines

-- if proofs are asked for, the lines are a refutation of the question under its head; otherwise
-- there are none
abbrev pub RefutesIfAsked : Bool → Sheet → Results → Question → List ProofLine → Type 0
RefutesIfAsked true sheet season question lines =
    (tree : List ProofLine) × ShowsRefuted sheet season question tree
    × (lines ≡ with_tree_head question.claim tree)
RefutesIfAsked false sheet season question lines = lines ≡ []

-- the item of a line and a club, with proofs or without: the word is right, and the lines after it
-- show what they have to show
abbrev pub IsItemShown : Bool → Sheet → Results → ℕ → ℕ → Word → List ProofLine → Type 0
IsItemShown proofs sheet season line club Clinched lines =
    IsClinched sheet season club line
    × RefutesIfAsked proofs sheet season (full_question club line Outside) lines
IsItemShown proofs sheet season line club Lost lines =
    IsLost sheet season club line
    × RefutesIfAsked proofs sheet season (full_question club line Inside) lines
IsItemShown proofs sheet season line club Possible lines =
    ShowsPossible sheet season line club lines
IsItemShown proofs sheet season line club Unsettled lines =
    ShowsUnsettled sheet season line club lines

-- a verdict is right, and its lines show it with proofs
abbrev pub IsShownVerdict : Sheet → Results → Verdict ProofLine → Type 0
IsShownVerdict sheet season verdict =
    IsItemShown true sheet season verdict.line verdict.club verdict.word verdict.proof.items

-- a row of an answer is about a line and a club
pub record AnswerRow : Type 0 where
  pub line : ℕ
  pub club : ℕ

-- the row of a verdict
abbrev pub answer_row : {L : Type 0} → Verdict L → AnswerRow
answer_row verdict = record { line = verdict.line; club = verdict.club }

-- the rows about a line, for so many clubs in their order
abbrev pub answer_rows_of : ℕ → ℕ → List AnswerRow
answer_rows_of clubs line = map (λ club. record { line = line; club = club }) (range_with_len 0
    clubs)

-- the rows of an answer: line by line in the sheet's order, and for each line club by club
abbrev pub answer_rows : Sheet → List AnswerRow
answer_rows sheet = flat_map (answer_rows_of (length sheet.clubs)) sheet.lines

-- one verdict for each row of an answer, each of them right and shown
pub record AreVerdictsOf (sheet : Sheet) (season : Results) (verdicts : List (Verdict ProofLine))
    : Type 0 where
  pub rows : map answer_row verdicts ≡ answer_rows sheet
  pub each : All (IsShownVerdict sheet season) verdicts
