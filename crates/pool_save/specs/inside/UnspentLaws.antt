-- What holds of answers right after saved trees were taken up. Each statement is the contract of a
-- function of src/unspent_laws.rt that does nothing.
use Rattle.std.specs.Prelude.{◌≡◌, ◌≢◌, ℕ, Bool, false, IsTrue, List, Option, Some, All, map}
use Rattle.league_core.specs.declared.sheet.Sheet.{Sheet}
use Rattle.league_core.specs.declared.question.Claim.{Claim}
use Rattle.league_core.specs.game.Results.{Results, are_results}
use Rattle.league_core.specs.game.Seasons.{IsLeague}
use Rattle.league_core.specs.search.Trees.{Tree}
use Rattle.cert_text.specs.Lines.{text_of_proof_line}
use Rattle.cert_text.specs.declared.proof_line.ProofLine.{ProofLine}
use Rattle.branch_pool.specs.inside.States.{PoolView, new_seat, out_count}
use Rattle.branch_pool.specs.inside.Goodness.{IsSoundPool}
use Rattle.answer_rows.specs.declared.word.Word.{Word}
use Rattle.answer_rows.specs.declared.word.Word.TheVariants.{Unsettled}
use Rattle.answer_rows.specs.declared.word.Verdict.{Verdict}
use Rattle.answer_rows.specs.Items.{AnswerRow, AreVerdictsOf, IsItemShown, IsShownVerdict}
use Rattle.answer_rows.specs.Items.{answer_row, answer_rows}
use Rattle.answer_rows.specs.Parts.{IsMadeOf}
use Rattle.answer_rows.specs.inside.ItemRanges.{lines_shown}
use Rattle.answer_rows.specs.inside.Verdicts.{text_of_items}
use Rattle.answer_rows.specs.AskedQuestions.{questions_of}
use Rattle.verdict_run.specs.inside.Kept.{AreOfPool}
use Rattle.verdict_run.specs.inside.Working.{AreSettled, WorksTo}
use Rattle.pool_save.specs.inside.TakingUp.{TakesUp}
use Rattle.pool_save.specs.inside.SavedPools.{AreNearlySaved, IsUnspentVerdict}
use Rattle.pool_save.specs.SavedAnswers.{IsShownUnspent, IsItemText, says_spent}

-- ---- pools

-- in a pool that took saved trees up and on which nobody worked before, each question whose tree
-- was nearly done is nearly known
abbrev pub TakenTreesAreNearlySaved : Type 0
TakenTreesAreNearlySaved =
    (old taken : PoolView) (trees : List (Option Tree)) → TakesUp old trees taken
    → old.seats ≡ map new_seat old.questions → AreNearlySaved taken trees

-- and so it is after any number of turns of work
abbrev pub WorkKeepsNearlySaved : Type 0
WorkKeepsNearlySaved =
    (old new : PoolView) (trees : List (Option Tree)) → WorksTo old new
    → AreNearlySaved old trees → AreNearlySaved new trees

-- ---- answers

-- when the work is done, no verdict says of such a question that the budget was spent
abbrev pub VerdictsAreUnspent : Type 0
VerdictsAreUnspent =
    (pool : PoolView) (trees : List (Option Tree)) (verdicts : List (Verdict ProofLine))
    → IsSoundPool pool
    → pool.questions ≡ questions_of pool.sheet → out_count pool.loans ≡ 0 → AreSettled pool
    → AreNearlySaved pool trees → AreVerdictsOf pool.sheet pool.season verdicts
    → AreOfPool pool verdicts → All (IsUnspentVerdict pool.sheet pool.season trees) verdicts

-- a word that is known is shown without a spent budget
abbrev pub KnownWordsAreUnspent : Type 0
KnownWordsAreUnspent =
    (proofs : Bool) (sheet : Sheet) (season : Results) (line club : ℕ) (word : Word)
    (lines : List ProofLine) → IsItemShown proofs sheet season line club word lines
    → word ≢ Unsettled → (claim : Claim) → says_spent claim lines ≡ false

-- so nothing is said of a spent budget in its item, whatever trees were saved
abbrev pub KnownItemsAreUnspent : Type 0
KnownItemsAreUnspent =
    (proofs : Bool) (sheet : Sheet) (season : Results) (trees : List (Option Tree))
    (about : AnswerRow) (word : Word) (lines : List ProofLine)
    → IsItemShown proofs sheet season about.line about.club word lines → word ≢ Unsettled
    → IsShownUnspent sheet season trees about lines

-- the lines that are shown of a verdict, with proofs or without, say no more than all its lines
abbrev pub ShownLinesAreUnspent : Type 0
ShownLinesAreUnspent =
    (proofs : Bool) (sheet : Sheet) (season : Results) (trees : List (Option Tree))
    (about : AnswerRow) (word : Word) (proof : List ProofLine)
    → IsShownUnspent sheet season trees about proof
    → IsShownUnspent sheet season trees about (lines_shown proofs word proof)

-- the items of such verdicts, as they are written
abbrev pub UnspentVerdictsAreItems : Type 0
UnspentVerdictsAreItems =
    (proofs : Bool) (sheet : Sheet) (season : Results) (trees : List (Option Tree))
    (verdicts : List (Verdict ProofLine)) → All (IsShownVerdict sheet season) verdicts
    → All (IsUnspentVerdict sheet season trees) verdicts
    → IsMadeOf (IsItemText proofs sheet season (Some trees)) (map answer_row verdicts)
    (text_of_items text_of_proof_line proofs sheet verdicts)

-- there are always such items: each season has an answer without a spent budget
abbrev pub EachSeasonHasUnspentItems : Type 0
EachSeasonHasUnspentItems =
    (proofs : Bool) (sheet : Sheet) (season : Results) (trees : List (Option Tree))
    → IsLeague sheet season → IsTrue (are_results season)
    → (items : List ℕ)
    × IsMadeOf (IsItemText proofs sheet season (Some trees)) (answer_rows sheet) items
