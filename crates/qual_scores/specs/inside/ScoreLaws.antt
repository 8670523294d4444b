-- Each club has its qualification scores for each line, and what a search for them goes by is said
-- of the scores themselves. Each statement is the contract of a function of src/score_laws.rt that
-- does nothing.
use Rattle.std.specs.Prelude.{◌↔◌, ◌⊎◌, ℕ, ℤ, ◌≤ℤ◌, IsTrue, List}
use Rattle.league_core.specs.declared.sheet.Sheet.{Sheet}
use Rattle.league_core.specs.declared.question.Claim.{Claim}
use Rattle.league_core.specs.declared.question.Claim.TheVariants.{Inside}
use Rattle.league_core.specs.game.Results.{Results, are_results}
use Rattle.league_core.specs.game.Seasons.{IsLeague}
use Rattle.league_core.specs.game.Questions.{IsQuestionOf, full_question}
use Rattle.qual_scores.specs.Scores.{IsLeastOf, IsPossibleScore, HasNoPossibleScore}
use Rattle.qual_scores.specs.Scores.{IsGuaranteedScore}
use Rattle.qual_scores.specs.Bisections.{HoldsOfPoints, IsNotAbove}
use Rattle.answer_rows.specs.declared.bound.ClubScores.{ClubScores}
use Rattle.qual_scores.specs.AllScores.{AreScoresOf}

-- a club has a possible score for a line, or none
abbrev pub PossibleScoresAreThere : Type 0
PossibleScoresAreThere =
    (sheet : Sheet) (season : Results) (club line : ℕ) → IsLeague sheet season
    → IsTrue (are_results season) → IsQuestionOf sheet (full_question club line Inside)
    → ((number : ℤ) × IsPossibleScore sheet season club line number)
    ⊎ HasNoPossibleScore sheet season club line

-- it always has a guaranteed score
abbrev pub GuaranteedScoresAreThere : Type 0
GuaranteedScoresAreThere =
    (sheet : Sheet) (season : Results) (club line : ℕ) → IsLeague sheet season
    → IsTrue (are_results season) → IsQuestionOf sheet (full_question club line Inside)
    → (number : ℤ) × IsGuaranteedScore sheet season club line number

-- ranges on the way are halved by whether the score is there and not above the middle
abbrev pub HalvingIsByTheScore : Type 0
HalvingIsByTheScore =
    (sheet : Sheet) (season : Results) (club line : ℕ) (claim : Claim) (bound : ℤ)
    → IsLeague sheet season → IsTrue (are_results season)
    → IsQuestionOf sheet (full_question club line Inside)
    → IsNotAbove (HoldsOfPoints sheet season club line claim) bound
    ↔ ((number : ℤ) × IsLeastOf (HoldsOfPoints sheet season club line claim) number
    × (number ≤ℤ bound))

-- so each season has right numbers for each line and club
abbrev pub EachSeasonHasScores : Type 0
EachSeasonHasScores =
    (sheet : Sheet) (season : Results) → IsLeague sheet season → IsTrue (are_results season)
    → (scores : List ClubScores) × AreScoresOf sheet season scores
