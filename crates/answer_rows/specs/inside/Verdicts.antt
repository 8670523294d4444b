-- An answer of verdicts: for each line and each club the word of the season, and after it what
-- shows it, in lines of any kind, by the text of such a line. It is said for every season, played
-- to
-- its end or not.
use Rattle.std.specs.Prelude.{◌≡◌, ℕ, Bool, List, ◌++◌}
use Rattle.std.specs.List.{flat_map}
use Rattle.league_core.specs.declared.sheet.Sheet.{Sheet}
use Rattle.cert_text.specs.declared.proof_line.ProofLine.{ProofLine}
use Rattle.cert_text.specs.Lines.{text_of_proof_line}
use Rattle.answer_rows.specs.declared.word.Verdict.{Verdict}
use Rattle.answer_rows.specs.Items.{AreVerdictsOf}
use Rattle.answer_rows.specs.inside.ItemRanges.{lines_shown}
use Rattle.league_core.specs.game.Results.{Results}
use Rattle.answer_rows.specs.Rows.{ask_row, text_of_lines, verdict_row}
use Rattle.answer_rows.specs.Parts.{club_name}

-- the item of a verdict: its row, then what shows it; refutations if proofs are asked for
abbrev pub item_text : {L : Type 0} → (L → List ℕ) → Bool → Sheet → Verdict L → List ℕ
item_text text proofs sheet verdict =
    verdict_row verdict.line (club_name sheet verdict.club) verdict.word
    ++ text_of_lines text (lines_shown proofs verdict.word verdict.proof.items)

-- the items of verdicts, in their order
abbrev pub text_of_items : {L : Type 0} → (L → List ℕ) → Bool → Sheet → List (Verdict L) → List ℕ
text_of_items text proofs sheet verdicts = flat_map (item_text text proofs sheet) verdicts

-- the row of the ask, then the items
abbrev pub text_of_verdicts : {L : Type 0} → (L → List ℕ) → Bool → Sheet → ℕ → List (Verdict L)
    → List ℕ
text_of_verdicts text proofs sheet epoch verdicts =
    ask_row epoch ++ text_of_items text proofs sheet verdicts

-- the text of the verdicts of a season, after so many events, for each line and club in the sheet's
-- order, with proofs or without
abbrev pub AreVerdicts : Bool → Sheet → Results → ℕ → List ℕ → Type 0
AreVerdicts proofs sheet season epoch text =
    (verdicts : List (Verdict ProofLine)) × AreVerdictsOf sheet season verdicts
    × (text ≡ text_of_verdicts text_of_proof_line proofs sheet epoch verdicts)
