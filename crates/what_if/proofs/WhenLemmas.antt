-- There is an answer about each match that is not played.
use Rattle.std.proofs.Common.{◌≡◌, ◌⊎◌, inl, inr, ℕ, ◌<◌, true, List, [], ◌∷◌, ◌++◌, length, get_or}
use Rattle.std.proofs.Common.{None, refl}
use Rattle.std.specs.Prelude.{All}
use Rattle.std.proofs.lemmas.List.Elements.{All-head, All-tail}
use Rattle.league_core.specs.declared.sheet.Sheet.{Sheet}
use Rattle.league_core.specs.declared.question.Claim.TheVariants.{Inside, Outside}
use Rattle.league_core.specs.declared.question.Question.{Question}
use Rattle.league_core.specs.declared.zone.Literal.{Literal}
use Rattle.league_core.specs.game.Results.{Results, are_results}
use Rattle.league_core.specs.game.Seasons.{IsLeague, IsSeasonOf}
use Rattle.league_core.specs.game.Questions.{full_question, IsQuestionOf}
use Rattle.league_core.specs.search.GivenVerdicts.{HoldsNowhereIn, HasExampleIn}
use Rattle.reason_laws.proofs.RefutationLemmas.{refutation_below, refuted_from}
use Rattle.cert_text.specs.declared.proof_line.ProofLine.{ProofLine}
use Rattle.cert_text.specs.ExampleLines.{text_of_proof_lines, example_lines}
use Rattle.answer_rows.specs.declared.word.Word.{Word}
use Rattle.answer_rows.specs.declared.word.Word.TheVariants.{Clinched, Lost, Possible}
use Rattle.answer_rows.specs.Items.{AnswerRow, answer_rows}
use Rattle.answer_rows.specs.Parts.{IsMadeOf, club_name}
use Rattle.answer_rows.specs.Rows.{verdict_row}
use Rattle.answer_laws.proofs.DecidedLemmas.{zone_is_decided}
use Rattle.answer_rows.proofs.RowLemmas.{IsRowOf, rows_asked}
use Rattle.what_if.specs.declared.outcome.Outcome.{Outcome}
use Rattle.what_if.specs.declared.outcome.Outcome.TheVariants.{Home, Draw, Away}
use Rattle.what_if.specs.Bases.{base_of}
use Rattle.what_if.specs.Given.{IsItemGiven}
use Rattle.what_if.specs.WhenTexts.{when_row, IsItemTextGiven, IsOutcomeText, IsWhenText}
use Rattle.what_if.specs.inside.GivenParts.{IsBaseIn, IsOpenMatch}
use Rattle.what_if.proofs.BaseFinishLemmas.{base_has_finish}
use Rattle.what_if.proofs.BaseLemmas.{base_member, outcome_is_base}

-- an item about this row
abbrev HasItemGiven : Sheet → Results → List Literal → AnswerRow → Type 0
HasItemGiven sheet season zone row =
    (word : Word) × (lines : List ProofLine)
    × IsItemGiven sheet season zone row.line row.club word lines

-- a question has an example that is a member of a base, or holds nowhere there
decided_given : (sheet : Sheet) (season : Results) (base : List Literal) (question : Question)
    → IsSeasonOf sheet season → IsQuestionOf sheet question → IsBaseIn sheet season base
    → HasExampleIn sheet season question base ⊎ HoldsNowhereIn sheet season question base
decided_given sheet season base question of_sheet asked given =
    elim (zone_is_decided sheet season question base of_sheet asked given.some) [
      | inl found ↦ inl (
        found.0,
        found.1,
        record {
          example = found.2;
          member = record {
            is_finish = found.2.is_finish;
            is_drawn = found.2.is_drawn;
            literals = base_member sheet season question.club base found.0 found.1 of_sheet
                given.of_scores found.3;
          };
        },
      )
      | inr found ↦ inr (refutation_below sheet season question base found.0 asked.club
          (refuted_from sheet season question found.0 base found.1.refuted found.1.reasons))
    ]

item_there : (sheet : Sheet) (season : Results) (base : List Literal) (row : AnswerRow)
    → IsSeasonOf sheet season → IsBaseIn sheet season base → IsRowOf sheet row
    → HasItemGiven sheet season base row
item_there sheet season base row of_sheet given asked =
    decide (decided_given sheet season base outside of_sheet (asked Outside) given)
    (decided_given sheet season base inside of_sheet (asked Inside) given)
  where
    outside : Question
    outside = full_question row.club row.line Outside

    inside : Question
    inside = full_question row.club row.line Inside

    decide : HasExampleIn sheet season outside base ⊎ HoldsNowhereIn sheet season outside base
        → HasExampleIn sheet season inside base ⊎ HoldsNowhereIn sheet season inside base
        → HasItemGiven sheet season base row
    decide (inr none) other = (Clinched, [], (none, refl))
    decide (inl without) (inr none) = (Lost, [], (none, refl))
    decide (inl without) (inl within) = (
      Possible,
      example_lines Inside season within.0 within.1
          ++ example_lines Outside season without.0 without.1,
      (
        example_lines Inside season within.0 within.1,
        example_lines Outside season without.0 without.1,
        refl,
        (within.0, within.1, within.2, refl),
        (without.0, without.1, without.2, refl),
      ),
    )

items_there : (sheet : Sheet) (season : Results) (base : List Literal) (rows : List AnswerRow)
    → IsSeasonOf sheet season → IsBaseIn sheet season base → All (IsRowOf sheet) rows
    → (text : List ℕ) × IsMadeOf (IsItemTextGiven sheet season base) rows text
items_there sheet season base [] of_sheet given asked = ([], refl)
items_there sheet season base (row ∷ rows) of_sheet given asked =
    let first = item_there sheet season base row of_sheet given
    (All-head (IsRowOf sheet) row rows asked) in
    let more = items_there sheet season base rows of_sheet given
    (All-tail (IsRowOf sheet) row rows asked) in
    let part =
    verdict_row row.line (club_name sheet row.club) first.0 ++ text_of_proof_lines first.1 in
    (part ++ more.0, (part, more.0, refl, (first.0, first.1, first.2, refl), more.1))

-- an outcome of a match that is not played is a base with a finish
pub outcome_given : (sheet : Sheet) (season : Results) (fixture : ℕ) (outcome : Outcome)
    → IsLeague sheet season → IsOpenMatch sheet season fixture
    → IsBaseIn sheet season (base_of fixture outcome)
outcome_given sheet season fixture outcome league is_open = record {
  of_scores = outcome_is_base sheet fixture outcome is_open.in_range;
  some = base_has_finish sheet season fixture outcome league.limits.least_goal_limit
      is_open.unplayed;
}

-- there is a text of some outcomes
pub outcomes_there : (sheet : Sheet) (season : Results) (epoch fixture : ℕ)
    (outcomes : List Outcome) → IsLeague sheet season → IsOpenMatch sheet season fixture
    → (text : List ℕ) × IsMadeOf (IsOutcomeText sheet season epoch fixture) outcomes text
outcomes_there sheet season epoch fixture [] league is_open = ([], refl)
outcomes_there sheet season epoch fixture (outcome ∷ outcomes) league is_open =
    let items = items_there sheet season (base_of fixture outcome) (answer_rows sheet)
    league.of_sheet (outcome_given sheet season fixture outcome league is_open)
    (rows_asked sheet league.limits) in
    let more = outcomes_there sheet season epoch fixture outcomes league is_open in
    let part = when_row epoch fixture outcome ++ items.0 in
    (part ++ more.0, (part, more.0, refl, (items.0, refl, items.1), more.1))

pub when_there : (sheet : Sheet) (season : Results) (epoch fixture : ℕ) → IsLeague sheet season
    → are_results season ≡ true → fixture < length sheet.fixtures
    → get_or season.scores fixture None ≡ None
    → (text : List ℕ) × IsWhenText sheet season epoch fixture text
when_there sheet season epoch fixture league results within unplayed =
    outcomes_there sheet season epoch fixture (Home ∷ Draw ∷ Away ∷ []) league
    (record { in_range = within; unplayed = unplayed })
