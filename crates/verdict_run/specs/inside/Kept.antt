-- How an answer shows what the pool keeps of its questions: an example that is kept is shown, a
-- tree that is refuted refutes, and the budget is said to be spent only if the pool answers so.
use Rattle.std.specs.Prelude.{◌≡◌, ◌≢◌, ℕ, ◌+◌, ◌*◌, Bool, false, IsTrue, List, ◌++◌}
use Rattle.std.specs.Prelude.{Option, Some, None}
use Rattle.std.specs.List.{slice_get}
use Rattle.league_core.specs.declared.sheet.Sheet.{Sheet}
use Rattle.league_core.specs.game.Results.{Results}
use Rattle.league_core.specs.search.Trees.{is_refuted}
use Rattle.cert_text.specs.declared.proof_line.ProofLine.{ProofLine}
use Rattle.cert_text.specs.TreeLines.{plain_lines, marked_lines, with_tree_head, with_spent_head}
use Rattle.cert_text.specs.ExampleLines.{example_lines}
use Rattle.tree_arena.specs.declared.example.Example.{Example}
use Rattle.branch_pool.specs.declared.question_state.QuestionState.{QuestionState}
use Rattle.branch_pool.specs.declared.ticket.Answer.TheVariants as answer
use Rattle.branch_pool.specs.inside.States.{PoolView}
use Rattle.branch_pool.specs.inside.Calls.{answer_of}
use Rattle.answer_rows.specs.declared.word.Word.{Word}
use Rattle.answer_rows.specs.declared.word.Word.TheVariants.{Clinched, Lost, Possible, Unsettled}
use Rattle.answer_rows.specs.declared.word.Verdict.{Verdict}
use Rattle.answer_rows.specs.declared.part.Part.{Part}
use Rattle.answer_rows.specs.declared.part.PartKind.TheVariants.{Refuted}
use Rattle.answer_rows.specs.NewTrees.{is_all_new}
use Rattle.answer_rows.specs.Items.{ShowsPart}

-- ---- one question

-- the refutation that the pool keeps of a question, under its head
abbrev pub lines_of_refuted : QuestionState → List ProofLine
lines_of_refuted seat = with_tree_head seat.question.claim (plain_lines seat.tree)

-- the tree that the pool keeps of a question on which its budget was spent, under its head
abbrev pub lines_of_spent : QuestionState → List ProofLine
lines_of_spent seat = with_spent_head seat.question.claim (marked_lines seat.tree)

-- the lines stand for a question that is not refuted: those of the example that is kept of it; if
-- none is, the pool answers that its budget was spent, and the lines are those of its tree if all
-- of that is of the present epoch, and else what came of work on the question once more from its
-- root, such a tree or an example
abbrev pub TellsExample : Sheet → Results → QuestionState → Option Example → List ProofLine → Type 0
TellsExample sheet season seat (Some example) lines =
    lines ≡ example_lines seat.question.claim season example.finish example.lots
TellsExample sheet season seat None lines =
    (answer_of sheet seat ≡ answer.Spent)
    × (IsTrue (is_all_new seat.tree) → lines ≡ lines_of_spent seat)
    × (is_spent : Bool) × ShowsPart sheet season seat.question is_spent lines

-- so they do by what is kept of it
abbrev pub TellsSeat : Sheet → Results → QuestionState → List ProofLine → Type 0
TellsSeat sheet season seat lines = TellsExample sheet season seat seat.example lines

-- a part of an answer comes from what is kept of its question: from the refuted tree if the pool
-- answers by that, and else, unless a refutation was found since, from the example or a spent
-- budget
pub record IsOfSeat (sheet : Sheet) (season : Results) (seat : QuestionState)
    (part : Part ProofLine) : Type 0
  where
    pub refuted : answer_of sheet seat ≡ answer.Refuted
        → (part.kind ≡ Refuted) × (part.lines.items ≡ lines_of_refuted seat)
    pub others : part.kind ≢ Refuted → TellsSeat sheet season seat part.lines.items

-- the part of the question at a place comes from what is kept there
abbrev pub IsOfPlace : PoolView → ℕ → Part ProofLine → Type 0
IsOfPlace pool place part =
    (seat : QuestionState) → slice_get pool.seats place ≡ Some seat
    → IsOfSeat pool.sheet pool.season seat part

-- what is found of a question that may be refuted: its refutation, or nothing if it is not
abbrev pub IsFoundIfRefuted : QuestionState → Option (Part ProofLine) → Type 0
IsFoundIfRefuted seat None = is_refuted seat.tree ≡ false
IsFoundIfRefuted seat (Some part) = part.lines.items ≡ lines_of_refuted seat

-- what is found of the question at a place
abbrev pub IsFoundAt : PoolView → ℕ → Option (Part ProofLine) → Type 0
IsFoundAt pool place found =
    (seat : QuestionState) → slice_get pool.seats place ≡ Some seat → IsFoundIfRefuted seat found

-- ---- verdicts

-- if the pool answers that the question at a place is refuted, this is the word, and the lines are
-- the refutation that it keeps
abbrev pub TellsRefuted : PoolView → ℕ → Word → Verdict ProofLine → Type 0
TellsRefuted pool place word verdict =
    (seat : QuestionState) → slice_get pool.seats place ≡ Some seat
    → answer_of pool.sheet seat ≡ answer.Refuted
    → (verdict.word ≡ word) × (verdict.proof.items ≡ lines_of_refuted seat)

-- the lines stand for the question at a place
abbrev pub TellsPlace : PoolView → ℕ → List ProofLine → Type 0
TellsPlace pool place lines =
    (seat : QuestionState) → slice_get pool.seats place ≡ Some seat
    → TellsSeat pool.sheet pool.season seat lines

-- the lines of the question at a place, and then those of the question at the next one
abbrev pub TellsBoth : PoolView → ℕ → List ProofLine → Type 0
TellsBoth pool place lines =
    (inside : List ProofLine) × (outside : List ProofLine) × (lines ≡ inside ++ outside)
    × TellsPlace pool place inside × TellsPlace pool (place + 1) outside

-- the lines after a word that refutes neither question are those of both
abbrev pub TellsOthers : PoolView → ℕ → Word → List ProofLine → Type 0
TellsOthers pool place Clinched lines = Unit {0}
TellsOthers pool place Lost lines = Unit {0}
TellsOthers pool place Possible lines = TellsBoth pool place lines
TellsOthers pool place Unsettled lines = TellsBoth pool place lines

-- a verdict comes from what the pool keeps of its two questions, `Inside` at this place and
-- `Outside` at the next one
pub record IsOfPool (pool : PoolView) (place : ℕ) (verdict : Verdict ProofLine) : Type 0 where
  pub inside : TellsRefuted pool place Lost verdict
  pub outside : TellsRefuted pool (place + 1) Clinched verdict
  pub others : TellsOthers pool place verdict.word verdict.proof.items

-- so does each verdict of an answer
abbrev pub AreOfPool : PoolView → List (Verdict ProofLine) → Type 0
AreOfPool pool verdicts =
    (row : ℕ) (verdict : Verdict ProofLine) → slice_get verdicts row ≡ Some verdict
    → IsOfPool pool (2 * row) verdict
