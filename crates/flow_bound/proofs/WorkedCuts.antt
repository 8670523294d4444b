-- Excesses worked by hand, computed when the crate is checked. Clubs are named by letters in the
-- comments, and count from 0 below, as fixtures do.
use Rattle.std.proofs.Common.{◌≡◌, ℕ, pos, negsuc, List, [], ◌∷◌, Some, None, map, refl}
use Rattle.league_core.specs.declared.sheet.Sheet.{Sheet}
use Rattle.league_core.specs.declared.sheet.Order.TheVariants.{HeadFirst}
use Rattle.league_core.specs.declared.question.Claim.TheVariants.{Inside}
use Rattle.league_core.specs.declared.question.Question.{Question}
use Rattle.league_core.specs.game.Results.{Results}
use Rattle.league_core.specs.game.Questions.{full_question}
use Rattle.league_core.specs.search.Options.{score_of}
use Rattle.league_core.specs.search.PointRanges.{least_points_of, most_points_of}
use Rattle.flow_bound.specs.inside.Excess.{high_excess, low_excess}

-- A, B, C and D; B and C beat D, and A still meets D, and B still meets C
abbrev sheet : Sheet
sheet = record {
  name = [];
  clubs = map (λ rank. record { name = []; rank = rank }) (1 ∷ 2 ∷ 3 ∷ 4 ∷ []);
  fixtures = record { home = 1; away = 3 } ∷ record { home = 2; away = 3 }
      ∷ record { home = 0; away = 3 } ∷ record { home = 1; away = 2 } ∷ [];
  lines = 1 ∷ [];
  goal_limit = 2;
  budget = 2000;
  order = HeadFirst;
}

-- with so many points taken off each club
abbrev season : List ℕ → Results
season off = record {
  scores = Some (score_of 1 0) ∷ Some (score_of 1 0) ∷ None ∷ None ∷ [];
  deductions = off;
}

abbrev ask : Question
ask = full_question 0 1 Inside

-- A comes to 3 at most: B and C are there already, and together they have 8, two more than twice 3
floor : map (low_excess sheet (season (0 ∷ 0 ∷ 0 ∷ 0 ∷ [])) ask [])
    ((1 ∷ []) ∷ (2 ∷ []) ∷ (1 ∷ 2 ∷ []) ∷ [] ∷ []) ≡ pos 0 ∷ pos 0 ∷ pos 2 ∷ pos 0 ∷ []
unfolding least_points_of most_points_of
floor = refl

-- a point taken off each of B and C leaves just twice 3; one taken off A makes each alone too many
floor_off : map (λ off. low_excess sheet (season off) ask [] (1 ∷ 2 ∷ []))
    ((0 ∷ 1 ∷ 1 ∷ 0 ∷ []) ∷ (1 ∷ 0 ∷ 0 ∷ 0 ∷ []) ∷ []) ≡ pos 0 ∷ pos 4 ∷ []
unfolding least_points_of most_points_of
floor_off = refl

-- with at least 5 points wished for A, B and C can come to 6 each, but to 9 together, one short of
-- 10
ceiling : map (high_excess sheet (season (0 ∷ 0 ∷ 0 ∷ 0 ∷ [])) (record ask { low = pos 5 }) [])
    ((1 ∷ []) ∷ (3 ∷ []) ∷ (1 ∷ 2 ∷ []) ∷ []) ≡ negsuc 0 ∷ pos 2 ∷ pos 1 ∷ []
unfolding least_points_of most_points_of
ceiling = refl
