-- One match of two clubs, outcome by outcome: the verdicts given each of the three are worked by
-- hand. Clubs are named by letters in the comments, and count from 0 below.
use Rattle.std.proofs.Common.{[], ◌∷◌, None, refl, lit<}
use Rattle.league_core.specs.declared.sheet.Sheet.{Sheet}
use Rattle.league_core.specs.declared.question.Claim.TheVariants.{Inside, Outside}
use Rattle.league_core.specs.declared.zone.Reason.TheVariants.{Tie}
use Rattle.league_core.specs.game.Results.{Results}
use Rattle.league_core.specs.game.Questions.{full_question}
use Rattle.league_core.specs.search.Options.{has_finish}
use Rattle.league_core.specs.search.SureOrder.{sure_order}
use Rattle.league_core.specs.search.Reasons.{has_reason}
use Rattle.league_core.specs.search.GivenVerdicts.{IsClinchedGiven, IsLostGiven, IsPossibleGiven}
use Rattle.league_core.specs.search.OutcomeZones.{home_win_zone, draw_zone, away_win_zone}
use Rattle.league_core.specs.rows.WorkedRows.{pair, played, ended}
use Rattle.reason_laws.proofs.TieLemmas.{reason_says}

-- A with rank 1 plays B with rank 2, with at most one goal a side

abbrev tiny : Sheet
tiny = record (pair (1 ∷ 2 ∷ [])) { goal_limit = 1 }

abbrev unplayed : Results
unplayed = played (None ∷ []) (0 ∷ 0 ∷ [])

-- a home win makes A the winner, and leaves B second
a_wins_at_home : IsClinchedGiven tiny unplayed (home_win_zone 0) 0 1
unfolding has_reason has_finish sure_order
a_wins_at_home = λ finish lots.
    reason_says tiny unplayed (full_question 0 1 Outside) (home_win_zone 0) Tie finish lots
    (lit< tt) refl

b_loses_away : IsLostGiven tiny unplayed (home_win_zone 0) 1 1
unfolding has_reason has_finish sure_order
b_loses_away = λ finish lots.
    reason_says tiny unplayed (full_question 1 1 Inside) (home_win_zone 0) Tie finish lots
    (lit< tt) refl

-- an away win is the other way round
a_loses_at_home : IsLostGiven tiny unplayed (away_win_zone 0) 0 1
unfolding has_reason has_finish sure_order
a_loses_at_home = λ finish lots.
    reason_says tiny unplayed (full_question 0 1 Inside) (away_win_zone 0) Tie finish lots
    (lit< tt) refl

b_wins_away : IsClinchedGiven tiny unplayed (away_win_zone 0) 1 1
unfolding has_reason has_finish sure_order
b_wins_away = λ finish lots.
    reason_says tiny unplayed (full_question 1 1 Outside) (away_win_zone 0) Tie finish lots
    (lit< tt) refl

-- after a draw A is first by its rank at 0:0, and second by B's away goal at 1:1
abbrev drawn_at : Results
drawn_at = played (ended 0 0 ∷ []) (0 ∷ 0 ∷ [])

abbrev drawn_with_goals : Results
drawn_with_goals = played (ended 1 1 ∷ []) (0 ∷ 0 ∷ [])

a_is_open_after_a_draw : IsPossibleGiven tiny unplayed (draw_zone 0) 0 1
a_is_open_after_a_draw = (
  (
    drawn_at,
    0 ∷ 1 ∷ [],
    record {
      example = record {
        is_finish = record { deductions = refl; scores = refl };
        is_drawn = refl;
        holds = refl;
      };
      member = record {
        is_finish = record { deductions = refl; scores = refl };
        is_drawn = refl;
        literals = refl;
      };
    },
  ),
  (
    drawn_with_goals,
    0 ∷ 1 ∷ [],
    record {
      example = record {
        is_finish = record { deductions = refl; scores = refl };
        is_drawn = refl;
        holds = refl;
      };
      member = record {
        is_finish = record { deductions = refl; scores = refl };
        is_drawn = refl;
        literals = refl;
      };
    },
  ),
)
