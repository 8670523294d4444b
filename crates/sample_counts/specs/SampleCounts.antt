-- The words of the verdicts of a sample league, counted.
use Rattle.std.specs.Prelude.{◌≡◌, ℕ, Bool, true, false, List, count_by}
use Rattle.league_core.specs.game.Seasons.{season_after}
use Rattle.cert_text.specs.declared.proof_line.ProofLine.{ProofLine}
use Rattle.answer_rows.specs.declared.word.Word.{Word}
use Rattle.answer_rows.specs.declared.word.Word.TheVariants.{Clinched, Lost, Possible, Unsettled}
use Rattle.answer_rows.specs.declared.word.Verdict.{Verdict}
use Rattle.answer_rows.specs.Items.{AreVerdictsOf}
use Rattle.sample_counts.specs.Samples.{sample_sheet, sample_events}
use Rattle.sample_counts.specs.declared.counts.Counts.{Counts}

-- both words are the same
abbrev pub is_word : Word → Word → Bool
is_word Clinched Clinched = true
is_word Clinched Lost = false
is_word Clinched Possible = false
is_word Clinched Unsettled = false
is_word Lost Clinched = false
is_word Lost Lost = true
is_word Lost Possible = false
is_word Lost Unsettled = false
is_word Possible Clinched = false
is_word Possible Lost = false
is_word Possible Possible = true
is_word Possible Unsettled = false
is_word Unsettled Clinched = false
is_word Unsettled Lost = false
is_word Unsettled Possible = false
is_word Unsettled Unsettled = true

-- the verdict has this word
abbrev pub has_word : Word → Verdict ProofLine → Bool
has_word word verdict = is_word verdict.word word

-- how many verdicts have each word
abbrev pub counts_of : List (Verdict ProofLine) → Counts
counts_of verdicts = record {
  clinched = count_by (has_word Clinched) verdicts;
  lost = count_by (has_word Lost) verdicts;
  possible = count_by (has_word Possible) verdicts;
  unsettled = count_by (has_word Unsettled) verdicts;
}

-- the counts are those of an answer to the sheet of the samples and the season of the seed
abbrev pub IsCountOfSample : ℕ → Counts → Type 0
IsCountOfSample seed counts =
    (verdicts : List (Verdict ProofLine))
    × AreVerdictsOf sample_sheet (season_after sample_sheet (sample_events seed)) verdicts
    × (counts ≡ counts_of verdicts)
