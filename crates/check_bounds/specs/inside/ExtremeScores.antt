-- Extremes: a few of a fixture's options between which all the others lie, whatever is looked at.
use Rattle.std.specs.Prelude.{ℕ, ◌+◌, ◌<◌, ◌≤◌, ◌⊎◌, Bool, IsTrue, List, [], ◌∷◌, Option}
use Rattle.std.specs.Prelude.{Some, None, if◌then◌else◌}
use Rattle.league_core.specs.declared.season.Score.{Score}
use Rattle.league_core.specs.search.Options.{has_score, same_outcome, score_of}
use Rattle.check_bounds.specs.inside.ScoreDomains.{is_goals_of}
use Rattle.check_bounds.specs.declared.score_domain.GoalRange.{GoalRange}
use Rattle.check_bounds.specs.declared.extreme_scores.Wins.{Wins}
use Rattle.check_bounds.specs.declared.extreme_scores.Draws.{Draws}

-- some extreme of the score's outcome that passes a test
abbrev pub HasExtreme : List Score → Score → (Score → Type 0) → Type 0
HasExtreme corners score Passes =
    (corner : Score) × IsTrue (has_score corners corner) × IsTrue (same_outcome corner score)
    × Passes corner

-- extremes on each side of a score: with fewer and with more goals at home and away, and with a
-- lesser and a greater lead of the home side, or as many
pub record LiesBetween (corners : List Score) (score : Score) : Type 0 where
  pub fewest_home : HasExtreme corners score (λ c. c.home ≤ score.home)
  pub most_home : HasExtreme corners score (λ c. score.home ≤ c.home)
  pub fewest_away : HasExtreme corners score (λ c. c.away ≤ score.away)
  pub most_away : HasExtreme corners score (λ c. score.away ≤ c.away)
  pub least_lead : HasExtreme corners score (λ c. c.home + score.away ≤ score.home + c.away)
  pub most_lead : HasExtreme corners score (λ c. score.home + c.away ≤ c.home + score.away)

-- the extremes are among the options, and each option lies between them
pub record AreExtremesOf (corners options : List Score) : Type 0 where
  pub inside : (score : Score) → IsTrue (has_score corners score)
      → IsTrue (has_score options score)
  pub between : (score : Score) → IsTrue (has_score options score) → LiesBetween corners score

-- a winner's goals and a loser's, each in its range
abbrev pub CanWin : GoalRange → GoalRange → ℕ → ℕ → Type 0
CanWin winner loser won lost =
    (IsTrue (is_goals_of winner won)) × (IsTrue (is_goals_of loser lost)) × (lost < won)

-- the ends of the goals with which a side with these goals can win against one with those
pub record AreWinsOf (winner loser : GoalRange) (wins : Wins) : Type 0 where
  pub tight : CanWin winner loser wins.won_least wins.lost_least
  pub wide : CanWin winner loser wins.won_most wins.lost_least
  pub high : CanWin winner loser wins.won_most wins.lost_most
  pub near : CanWin winner loser wins.near wins.lost_most
  pub nearest : (wins.near ≤ wins.won_least) ⊎ (wins.near ≤ wins.lost_most + 1)
  pub within : (won lost : ℕ) → CanWin winner loser won lost
      → (wins.won_least ≤ won) × (won ≤ wins.won_most)
      × (wins.lost_least ≤ lost) × (lost ≤ wins.lost_most)

-- the scores at these ends, if the home side wins
abbrev pub home_extremes : Wins → List Score
home_extremes wins =
    score_of wins.won_least wins.lost_least ∷ score_of wins.won_most wins.lost_least
    ∷ score_of wins.won_most wins.lost_most ∷ score_of wins.near wins.lost_most ∷ []

-- and if the away side wins
abbrev pub away_extremes : Wins → List Score
away_extremes wins =
    score_of wins.lost_least wins.won_least ∷ score_of wins.lost_least wins.won_most
    ∷ score_of wins.lost_most wins.won_most ∷ score_of wins.lost_most wins.near ∷ []

-- goals that both sides can have
abbrev pub CanDraw : GoalRange → GoalRange → ℕ → Type 0
CanDraw home away goals = IsTrue (is_goals_of home goals) × IsTrue (is_goals_of away goals)

-- the least and the most goals with which two sides can draw
pub record AreDrawsOf (home away : GoalRange) (draws : Draws) : Type 0 where
  pub least : CanDraw home away draws.least
  pub most : CanDraw home away draws.most
  pub within : (goals : ℕ) → CanDraw home away goals → (draws.least ≤ goals) × (goals ≤ draws.most)

-- the two draws at the ends
abbrev pub draw_extremes : Draws → List Score
draw_extremes draws = score_of draws.least draws.least ∷ score_of draws.most draws.most ∷ []

-- the extremes if there are some
abbrev pub extremes_if : {A : Type 0} → Bool → (A → List Score) → Option A → List Score
extremes_if left corners None = []
extremes_if left corners (Some ends) = if left then corners ends else []
