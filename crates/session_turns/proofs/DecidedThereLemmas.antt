-- Each season has an answer in the mode `decide`: one of the mode `verdicts`, whose trees have no
-- near leaf.
use Rattle.std.proofs.Common.{◌≡◌, ◌≢◌, ℕ, Bool, true, false, List, [], ◌∷◌, ◌++◌, map, refl, ap}
use Rattle.std.proofs.Common.{◌∙◌, subst}
use Rattle.std.specs.Prelude.{All}
use Rattle.std.proofs.lemmas.List.{map-append}
use Rattle.std.proofs.lemmas.List.Elements.{All-head, All-tail}
use Rattle.league_core.specs.declared.sheet.Sheet.{Sheet}
use Rattle.league_core.specs.declared.question.Claim.TheVariants.{Inside, Outside}
use Rattle.league_core.specs.declared.question.Question.{Question}
use Rattle.league_core.specs.game.Results.{Results, are_results}
use Rattle.league_core.specs.game.Seasons.{IsLeague}
use Rattle.league_core.specs.game.Questions.{full_question}
use Rattle.cert_text.specs.declared.proof_line.ProofLine.{ProofLine}
use Rattle.wide_lines.specs.declared.wide_line.WideLine.{WideLine}
use Rattle.wide_lines.specs.declared.wide_line.WideLine.TheVariants.{Plain}
use Rattle.wide_lines.proofs.WideTreeLemmas.{refutation_is_wide}
use Rattle.answer_rows.specs.declared.word.Word.{Word}
use Rattle.answer_rows.specs.declared.word.Word.TheVariants.{Clinched, Lost, Possible, Unsettled}
use Rattle.answer_rows.specs.Items.{AnswerRow, IsItemShown, RefutesIfAsked}
use Rattle.answer_rows.specs.Parts.{IsMadeOf, club_name}
use Rattle.answer_rows.specs.Rows.{ask_row, verdict_row}
use Rattle.decide_run.specs.Decisions.{IsDecidedItem, RefutesWideIfAsked}
use Rattle.decide_run.specs.DecidedTexts.{IsDecidedItemText, IsDecidedText, text_of_wide_lines}
use Rattle.answer_laws.specs.inside.SeasonAnswers.{AnswerItem, IsKnownItem}
use Rattle.answer_laws.proofs.AnswerLemmas.{season_answered}

-- proof lines as wide ones
wide : List ProofLine → List WideLine
wide lines = map (λ line. Plain line) lines

-- a refutation without near leaves is a wide one, if one is asked for
refutes-wide : (proofs : Bool) (sheet : Sheet) (season : Results) (question : Question)
    (lines : List ProofLine) → RefutesIfAsked proofs sheet season question lines
    → RefutesWideIfAsked proofs sheet season question (wide lines)
unfolding wide
refutes-wide true sheet season question lines shown =
    (wide shown.0, refutation_is_wide sheet season question shown.0 shown.1, ap wide shown.2)
refutes-wide false sheet season question lines shown = ap wide shown

-- an item whose word is known is one of the mode `decide`
item-decided : (proofs : Bool) (sheet : Sheet) (season : Results) (line club : ℕ) (word : Word)
    (lines : List ProofLine) → IsItemShown proofs sheet season line club word lines
    → word ≢ Unsettled → IsDecidedItem proofs sheet season line club word (wide lines)
unfolding wide
item-decided proofs sheet season line club Clinched lines shown known =
    (shown.0, refutes-wide proofs sheet season (full_question club line Outside) lines shown.1)
item-decided proofs sheet season line club Lost lines shown known =
    (shown.0, refutes-wide proofs sheet season (full_question club line Inside) lines shown.1)
item-decided proofs sheet season line club Possible lines shown known = (
  wide shown.0,
  wide shown.1,
  ap wide shown.2 ∙ map-append (λ line. Plain line) shown.0 shown.1,
  (shown.0, shown.3, refl),
  (shown.1, shown.4, refl),
)
item-decided proofs sheet season line club Unsettled lines shown known = absurd (known refl)

-- known items make a text
items-decided : (proofs : Bool) (sheet : Sheet) (season : Results) (items : List AnswerItem)
    → All (IsKnownItem proofs sheet season) items
    → (text : List ℕ) × IsMadeOf (IsDecidedItemText proofs sheet season)
    (map (λ (item : AnswerItem). item.about) items) text
items-decided proofs sheet season [] known = ([], refl)
items-decided proofs sheet season (item ∷ items) known =
    let is = All-head (IsKnownItem proofs sheet season) item items known in
    let rest = items-decided proofs sheet season items
    (All-tail (IsKnownItem proofs sheet season) item items known) in
    let part =
    verdict_row item.about.line (club_name sheet item.about.club) item.word
    ++ text_of_wide_lines (wide item.lines) in (
      part ++ rest.0,
      (
        part,
        rest.0,
        refl,
        (
          item.word,
          wide item.lines,
          item-decided proofs sheet season item.about.line item.about.club item.word item.lines
              is.shown is.known,
          refl,
        ),
        rest.1,
      ),
    )

-- there is an answer of the mode `decide`
pub decided_there : (proofs : Bool) (sheet : Sheet) (season : Results) (epoch : ℕ)
    → IsLeague sheet season → are_results season ≡ true
    → (text : List ℕ) × IsDecidedText proofs sheet season epoch text
decided_there proofs sheet season epoch league results =
    let found = season_answered proofs sheet season league results in
    let made = items-decided proofs sheet season found.0 found.1.each in
    let P : List AnswerRow → Type 0 =
    λ rows. IsMadeOf (IsDecidedItemText proofs sheet season) rows made.0 in
    (ask_row epoch ++ made.0, (made.0, refl, subst P found.1.rows made.1))
