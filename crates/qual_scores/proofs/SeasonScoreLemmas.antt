-- Each row of an answer has its two scores, and so each season has scores.
use Rattle.std.proofs.Common.{◌≡◌, ◌⊎◌, inl, inr, ℤ, true, List, [], ◌∷◌, refl, ap}
use Rattle.std.specs.Prelude.{All}
use Rattle.std.proofs.lemmas.List.Elements.{All-nil, All-cons, All-head, All-tail}
use Rattle.league_core.specs.declared.sheet.Sheet.{Sheet}
use Rattle.league_core.specs.declared.question.Claim.TheVariants.{Inside}
use Rattle.league_core.specs.game.Results.{Results, are_results}
use Rattle.league_core.specs.game.Seasons.{IsLeague}
use Rattle.answer_rows.specs.Items.{AnswerRow, answer_rows}
use Rattle.answer_rows.proofs.RowLemmas.{IsRowOf, rows_asked}
use Rattle.answer_rows.specs.declared.bound.Bound.{Bound}
use Rattle.answer_rows.specs.declared.bound.Bound.TheVariants.{Known, None}
use Rattle.answer_rows.specs.declared.bound.Score2.{Score2}
use Rattle.answer_rows.specs.declared.bound.ClubScores.{ClubScores}
use Rattle.qual_scores.specs.Scores.{IsPossibleScore, HasNoPossibleScore}
use Rattle.qual_scores.specs.Bounds.{IsRightBound, AreRightScores}
use Rattle.qual_scores.specs.AllScores.{AreRightOf, AreScoresFor, AreScoresOf}
use Rattle.qual_scores.proofs.ScoreLemmas.{possible_there, guaranteed_there}

-- what is right to say of a possible score that is there, or not
possible_bound : (sheet : Sheet) (season : Results) (row : AnswerRow)
    → ((number : ℤ) × IsPossibleScore sheet season row.club row.line number)
    ⊎ HasNoPossibleScore sheet season row.club row.line
    → (bound : Bound) × IsRightBound sheet season row.club row.line Inside bound
possible_bound sheet season row (inl found) = (Known found.0, found.1)
possible_bound sheet season row (inr none) = (None, none)

-- both numbers of a row
row_scores : (sheet : Sheet) (season : Results) (row : AnswerRow) → IsLeague sheet season
    → are_results season ≡ true → IsRowOf sheet row
    → (scores : Score2) × AreRightScores sheet season row.club row.line scores
row_scores sheet season row league results asked =
    let possible = possible_bound sheet season row
    (possible_there sheet season row.club row.line league results (asked Inside)) in
    let guaranteed = guaranteed_there sheet season row.club row.line league results (asked Inside)
    in (
      record { pqs = possible.0; gqs = Known guaranteed.0 },
      record { possible = possible.1; guaranteed = guaranteed.1 },
    )

-- those of some rows
rows_scores : (sheet : Sheet) (season : Results) (rows : List AnswerRow) → IsLeague sheet season
    → are_results season ≡ true → All (IsRowOf sheet) rows
    → (scores : List ClubScores) × AreScoresFor sheet season rows scores
rows_scores sheet season [] league results asked =
    ([], record { about = refl; each = All-nil (AreRightOf sheet season) })
rows_scores sheet season (row ∷ rows) league results asked =
    let of_row = All-head (IsRowOf sheet) row rows asked in
    let first = row_scores sheet season row league results of_row in
    let more = rows_scores sheet season rows league results
    (All-tail (IsRowOf sheet) row rows asked) in
    let found : ClubScores =
    record { line = row.line; club = row.club; scores = first.0 } in (
      found ∷ more.0,
      record {
        about = ap (λ (rs : List AnswerRow). row ∷ rs) more.1.about;
        each = All-cons (AreRightOf sheet season) found more.0
            (record { club = (of_row Inside).club; right = first.1 }) more.1.each;
      },
    )

-- each season has scores
pub scores_there : (sheet : Sheet) (season : Results) → IsLeague sheet season
    → are_results season ≡ true → (scores : List ClubScores) × AreScoresOf sheet season scores
scores_there sheet season league results =
    rows_scores sheet season (answer_rows sheet) league results
    (rows_asked sheet league.limits)
