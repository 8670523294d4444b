-- The items of an answer right after saved trees were taken up, as they are written; and there are
-- always such items.
use Rattle.std.proofs.Common.{◌≡◌, ℕ, Bool, true, false, List, [], ◌∷◌, ◌++◌, map, Option, refl}
use Rattle.std.proofs.Common.{Some}
use Rattle.std.proofs.Common.{subst}
use Rattle.std.specs.Prelude.{All}
use Rattle.std.proofs.lemmas.List.Elements.{All-head, All-tail}
use Rattle.league_core.specs.declared.sheet.Sheet.{Sheet}
use Rattle.league_core.specs.game.Results.{Results, are_results}
use Rattle.league_core.specs.game.Seasons.{IsLeague}
use Rattle.league_core.specs.search.Trees.{Tree}
use Rattle.cert_text.specs.declared.proof_line.ProofLine.{ProofLine}
use Rattle.cert_text.specs.Lines.{text_of_proof_line}
use Rattle.cert_text.specs.ExampleLines.{text_of_proof_lines}
use Rattle.answer_rows.specs.declared.word.Verdict.{Verdict}
use Rattle.answer_rows.specs.Items.{AnswerRow, IsItemShown, IsShownVerdict, answer_row, answer_rows}
use Rattle.answer_rows.specs.Parts.{IsMadeOf, club_name}
use Rattle.answer_rows.specs.Rows.{verdict_row}
use Rattle.answer_rows.specs.inside.ItemRanges.{lines_shown}
use Rattle.answer_rows.specs.inside.Verdicts.{item_text, text_of_items}
use Rattle.answer_laws.specs.inside.SeasonAnswers.{AnswerItem, IsKnownItem}
use Rattle.answer_laws.proofs.AnswerLemmas.{season_answered}
use Rattle.answer_laws.proofs.AnswerLemmas.{item_without}
use Rattle.pool_save.specs.SavedAnswers.{IsItemText}
use Rattle.pool_save.specs.inside.SavedPools.{IsUnspentVerdict}
use Rattle.pool_save.proofs.SpentLineLemmas.{known_item_unspent, shown_lines_unspent}

-- the lines that are written of a verdict show its item
lines_show : (proofs : Bool) (sheet : Sheet) (season : Results) (verdict : Verdict ProofLine)
    → IsShownVerdict sheet season verdict
    → IsItemShown proofs sheet season verdict.line verdict.club verdict.word
    (lines_shown proofs verdict.word verdict.proof.items)
lines_show true sheet season verdict shown = shown
lines_show false sheet season verdict shown =
    item_without sheet season verdict.line verdict.club verdict.word verdict.proof.items shown

pub unspent_items_made : (proofs : Bool) (sheet : Sheet) (season : Results)
    (trees : List (Option Tree)) (verdicts : List (Verdict ProofLine))
    → All (IsShownVerdict sheet season) verdicts
    → All (IsUnspentVerdict sheet season trees) verdicts
    → IsMadeOf (IsItemText proofs sheet season (Some trees)) (map answer_row verdicts)
    (text_of_items text_of_proof_line proofs sheet verdicts)
unspent_items_made proofs sheet season trees [] shown unspent = refl
unspent_items_made proofs sheet season trees (verdict ∷ verdicts) shown unspent = (
  item_text text_of_proof_line proofs sheet verdict,
  text_of_items text_of_proof_line proofs sheet verdicts,
  refl,
  (
    verdict.word,
    lines_shown proofs verdict.word verdict.proof.items,
    lines_show proofs sheet season verdict
        (All-head (IsShownVerdict sheet season) verdict verdicts shown),
    shown_lines_unspent proofs sheet season trees (answer_row verdict) verdict.word
        verdict.proof.items
        (All-head (IsUnspentVerdict sheet season trees) verdict verdicts unspent),
    refl,
  ),
  unspent_items_made proofs sheet season trees verdicts
      (All-tail (IsShownVerdict sheet season) verdict verdicts shown)
      (All-tail (IsUnspentVerdict sheet season trees) verdict verdicts unspent),
)

-- known items make a text
known_items_made : (proofs : Bool) (sheet : Sheet) (season : Results)
    (trees : List (Option Tree)) (items : List AnswerItem)
    → All (IsKnownItem proofs sheet season) items
    → (text : List ℕ) × IsMadeOf (IsItemText proofs sheet season (Some trees))
    (map (λ (item : AnswerItem). item.about) items) text
known_items_made proofs sheet season trees [] known = ([], refl)
known_items_made proofs sheet season trees (item ∷ items) known =
    let first = All-head (IsKnownItem proofs sheet season) item items known in
    let rest = known_items_made proofs sheet season trees items
    (All-tail (IsKnownItem proofs sheet season) item items known) in
    let part =
    verdict_row item.about.line (club_name sheet item.about.club) item.word
    ++ text_of_proof_lines item.lines in (
      part ++ rest.0,
      (
        part,
        rest.0,
        refl,
        (
          item.word,
          item.lines,
          first.shown,
          known_item_unspent proofs sheet season trees item.about item.word item.lines
              first.shown first.known,
          refl,
        ),
        rest.1,
      ),
    )

pub unspent_items_there : (proofs : Bool) (sheet : Sheet) (season : Results)
    (trees : List (Option Tree)) → IsLeague sheet season → are_results season ≡ true
    → (items : List ℕ)
    × IsMadeOf (IsItemText proofs sheet season (Some trees)) (answer_rows sheet) items
unspent_items_there proofs sheet season trees league results =
    let found = season_answered proofs sheet season league results in
    let made = known_items_made proofs sheet season trees found.0 found.1.each in
    let P : List AnswerRow → Type 0 =
    λ rows. IsMadeOf (IsItemText proofs sheet season (Some trees)) rows made.0 in
    (made.0, subst P found.1.rows made.1)
