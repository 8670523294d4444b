-- What an answer with near reasons says of a line and a club: a word, and the lines that show it.
-- Words are those of other answers, and mean the same. A club that is neither clinched nor lost is
-- possible if both sides are shown by an example, and unsettled if the budget was spent on one of
-- its two questions or on both.
use Rattle.std.specs.Prelude.{◌≡◌, ℕ, Bool, true, false, ◌||◌, IsTrue, List, [], map}
use Rattle.league_core.specs.declared.sheet.Sheet.{Sheet}
use Rattle.league_core.specs.declared.question.Claim.TheVariants.{Inside, Outside}
use Rattle.league_core.specs.declared.question.Question.{Question}
use Rattle.league_core.specs.game.Results.{Results}
use Rattle.league_core.specs.game.Questions.{full_question}
use Rattle.league_core.specs.game.Verdicts.{IsClinched, IsLost}
use Rattle.cert_text.specs.declared.proof_line.ProofLine.{ProofLine}
use Rattle.cert_text.specs.ExampleLines.{IsExampleInLines}
use Rattle.wide_lines.specs.declared.wide_line.WideLine.{WideLine}
use Rattle.wide_lines.specs.declared.wide_line.WideLine.TheVariants.{Plain}
use Rattle.wide_lines.specs.WideTrees.{WideTree}
use Rattle.wide_lines.specs.WideTreeLines.{ShowsWideRefuted, marked_wide_lines}
use Rattle.wide_lines.specs.WideTreeLines.{with_wide_spent_head}
use Rattle.wide_lines.specs.WideTreeLines.{with_wide_tree_head}
use Rattle.answer_rows.specs.declared.word.Word.{Word}
use Rattle.answer_rows.specs.declared.word.Word.TheVariants.{Clinched, Lost, Possible, Unsettled}
use Rattle.answer_rows.specs.Items.{ShowsBothParts}
use Rattle.decide_run.specs.FairTrees.{IsWideSpentFairly}

-- the lines show that the budget was spent on the question: its head, and a tree on which it was
-- spent fairly
abbrev pub ShowsWideSpentNow : Sheet → Results → Question → List WideLine → Type 0
ShowsWideSpentNow sheet season question lines =
    (tree : WideTree) × IsWideSpentFairly sheet season question sheet.budget tree
    × (lines ≡ with_wide_spent_head question.claim (marked_wide_lines tree))

-- the lines are those of an example, as in other answers
abbrev pub ShowsWideExample : Sheet → Results → Question → List WideLine → Type 0
ShowsWideExample sheet season question lines =
    (plain : List ProofLine) × IsExampleInLines sheet season question plain
    × (lines ≡ map (λ line. Plain line) plain)

-- what stands for a question: if it was spent a tree that shows it, otherwise an example
abbrev pub ShowsWidePart : Sheet → Results → Question → Bool → List WideLine → Type 0
ShowsWidePart sheet season question true lines = ShowsWideSpentNow sheet season question lines
ShowsWidePart sheet season question false lines = ShowsWideExample sheet season question lines

-- if proofs are asked for, the lines are a refutation of the question under its head; otherwise
-- there are none
abbrev pub RefutesWideIfAsked : Bool → Sheet → Results → Question → List WideLine → Type 0
RefutesWideIfAsked true sheet season question lines =
    (tree : List WideLine) × ShowsWideRefuted sheet season question tree
    × (lines ≡ with_wide_tree_head question.claim tree)
RefutesWideIfAsked false sheet season question lines = lines ≡ []

-- the item of a line and a club, with proofs or without: the word is right, and the lines after it
-- show what they have to show
abbrev pub IsDecidedItem : Bool → Sheet → Results → ℕ → ℕ → Word → List WideLine → Type 0
IsDecidedItem proofs sheet season line club Clinched lines =
    IsClinched sheet season club line
    × RefutesWideIfAsked proofs sheet season (full_question club line Outside) lines
IsDecidedItem proofs sheet season line club Lost lines =
    IsLost sheet season club line
    × RefutesWideIfAsked proofs sheet season (full_question club line Inside) lines
IsDecidedItem proofs sheet season line club Possible lines =
    ShowsBothParts (ShowsWidePart sheet season) false false line club lines
IsDecidedItem proofs sheet season line club Unsettled lines =
    (is_inside_spent : Bool) × (is_outside_spent : Bool)
    × IsTrue (is_inside_spent || is_outside_spent)
    × ShowsBothParts (ShowsWidePart sheet season) is_inside_spent is_outside_spent line club lines
