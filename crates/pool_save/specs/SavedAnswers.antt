-- What an answer does not say right after saved trees were taken up: that the budget was spent on a
-- question whose saved tree was nearly done. This is all that is said of the use of a saved text;
-- that work is spared is not.
use Rattle.std.specs.Prelude.{◌≡◌, ℕ, Bool, false, List, ◌++◌, Option, None, Some}
use Rattle.std.specs.List.{list_any, slice_get}
use Rattle.league_core.specs.declared.sheet.Sheet.{Sheet}
use Rattle.league_core.specs.declared.question.Claim.{Claim}
use Rattle.league_core.specs.declared.question.Question.{Question}
use Rattle.league_core.specs.game.Results.{Results}
use Rattle.league_core.specs.search.Trees.{Tree}
use Rattle.cert_text.specs.declared.proof_line.ProofLine.{ProofLine}
use Rattle.cert_text.specs.declared.proof_line.ProofLine.TheVariants as line
use Rattle.cert_text.specs.ExampleLines.{text_of_proof_lines}
use Rattle.line_tokens.specs.LineRanges.{same_claim}
use Rattle.answer_rows.specs.declared.word.Word.{Word}
use Rattle.answer_rows.specs.Items.{AnswerRow, IsItemShown}
use Rattle.answer_rows.specs.Parts.{club_name}
use Rattle.answer_rows.specs.Rows.{verdict_row}
use Rattle.answer_rows.specs.AskedQuestions.{questions_of}
use Rattle.pool_save.specs.NearlyDone.{IsNearlyDone}

-- the line is the head of a tree on which the budget was spent on a question with this claim
abbrev pub is_spent_head : Claim → ProofLine → Bool
is_spent_head claim (line.Tree other) = false
is_spent_head claim (line.Spent other) = same_claim other claim
is_spent_head claim (line.SpentWindow other low high) = same_claim other claim
is_spent_head claim (line.Split test) = false
is_spent_head claim (line.NewSplit test) = false
is_spent_head claim (line.Leaf reason) = false
is_spent_head claim (line.NewLeaf reason) = false
is_spent_head claim line.OpenLeaf = false
is_spent_head claim (line.Finish other) = false
is_spent_head claim (line.Score fixture score) = false
is_spent_head claim (line.Lots lots) = false

-- among these lines the budget is said to be spent on the claim
abbrev pub says_spent : Claim → List ProofLine → Bool
says_spent claim lines = list_any (is_spent_head claim) lines

-- what is shown of a line and a club, where these trees were saved for the questions about the
-- sheet: of a question whose saved tree was nearly done it is not said that the budget was spent
abbrev pub IsShownUnspent : Sheet → Results → List (Option Tree) → AnswerRow → List ProofLine
    → Type 0
IsShownUnspent sheet season trees about lines =
    (place : ℕ) (question : Question) (saved : Option Tree)
    → slice_get (questions_of sheet) place ≡ Some question → slice_get trees place ≡ Some saved
    → question.line ≡ about.line → question.club ≡ about.club
    → IsNearlyDone sheet season question saved
    → says_spent question.claim lines ≡ false

-- these lines of a line and a club may stand where trees were saved, if they were
abbrev pub MayStand : Sheet → Results → Option (List (Option Tree)) → AnswerRow → List ProofLine
    → Type 0
MayStand sheet season None about lines = Unit {0}
MayStand sheet season (Some trees) about lines = IsShownUnspent sheet season trees about lines

-- the item of a line and a club, with proofs or without: the row of a word that is right, and then
-- lines that show it, however many, and that may stand there
abbrev pub IsItemText : Bool → Sheet → Results → Option (List (Option Tree)) → AnswerRow → List ℕ
    → Type 0
IsItemText proofs sheet season saved about text =
    (word : Word) × (lines : List ProofLine)
    × IsItemShown proofs sheet season about.line about.club word lines
    × MayStand sheet season saved about lines
    × (text ≡ verdict_row about.line (club_name sheet about.club) word
    ++ text_of_proof_lines lines)
