-- The lines of verdicts are in the ranges of their forms; and which of them are shown.
use Rattle.std.specs.Prelude.{◌<◌, Bool, true, false, IsTrue, List, [], All, length}
use Rattle.league_core.specs.declared.sheet.Sheet.{Sheet}
use Rattle.answer_rows.specs.declared.word.Word.{Word}
use Rattle.answer_rows.specs.declared.word.Word.TheVariants.{Clinched, Lost, Possible, Unsettled}
use Rattle.answer_rows.specs.declared.word.Verdict.{Verdict}

-- the lines after a word, whether proofs are asked for or not, out of all that there are
abbrev pub lines_shown : {L : Type 0} → Bool → Word → List L → List L
lines_shown true word proof = proof
lines_shown false Clinched proof = []
lines_shown false Lost proof = []
lines_shown false Possible proof = proof
lines_shown false Unsettled proof = proof

-- a verdict is about one of the clubs, and its lines are in the ranges of their forms, by the test
-- of such lines
pub record IsInRange {L : Type 0} (in_range : L → Bool) (sheet : Sheet) (verdict : Verdict L)
    : Type 0 where
  pub club : verdict.club < length sheet.clubs
  pub lines : All (λ line. IsTrue (in_range line)) verdict.proof.items

-- so is each verdict
abbrev pub AreInRange : {L : Type 0} → (L → Bool) → Sheet → List (Verdict L) → Type 0
AreInRange in_range sheet verdicts = All (IsInRange in_range sheet) verdicts
