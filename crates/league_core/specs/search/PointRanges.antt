-- The least and the most that the fixtures of a zone can add up to, fixture by fixture: each of
-- them takes the option that gives least, or most. The clubs of a set are counted together.
use Rattle.std.specs.Prelude.{Bool, true, false, if◌then◌else◌, ℕ, ◌+◌, ℤ, pos, neg_ℤ, ◌+ℤ◌, ◌-ℤ◌}
use Rattle.std.specs.Prelude.{List, [], ◌∷◌, slice_index}
use Rattle.std.specs.Int.{int_min, int_max}
use Rattle.league_core.specs.declared.sheet.Sheet.{Sheet}
use Rattle.league_core.specs.declared.sheet.Fixture.{Fixture}
use Rattle.league_core.specs.declared.season.Score.{Score}
use Rattle.league_core.specs.declared.question.Question.{Question}
use Rattle.league_core.specs.declared.zone.Literal.{Literal}
use Rattle.league_core.specs.game.Results.{Results}
use Rattle.league_core.specs.game.Sums.{match_points, worth_to}
use Rattle.league_core.specs.search.Options.{options_in}

-- the least and the greatest value of a sum
pub record Range : Type 0 where
  pub least : ℤ
  pub greatest : ℤ

-- a sum that has but one value
abbrev pub one_value : ℤ → Range
one_value value = record { least = value; greatest = value }

-- the range of a sum with its sign turned round
abbrev pub negated : Range → Range
negated range = record { least = neg_ℤ range.greatest; greatest = neg_ℤ range.least }

-- both sums together
abbrev pub added : Range → Range → Range
added range other =
    record { least = range.least +ℤ other.least; greatest = range.greatest +ℤ other.greatest }

-- the range of one option more
abbrev pub widened : ℤ → Range → Range
widened value range =
    record { least = int_min value range.least; greatest = int_max value range.greatest }

-- the least and the greatest value of the options; 0 if there is none
abbrev pub range_of : (Score → ℤ) → List Score → Range
range_of value [] = one_value (pos 0)
range_of value (score ∷ []) = one_value (value score)
range_of value (score ∷ other ∷ options) = widened (value score) (range_of value (other ∷ options))

-- the least and the greatest contributions of the fixtures, added
abbrev pub range_from : (Fixture → Score → ℤ) → List Fixture → List (List Score) → Range
range_from value [] options = one_value (pos 0)
range_from value (match ∷ matches) [] = one_value (pos 0)
range_from value (match ∷ matches) (options ∷ more) =
    added (range_of (value match) options) (range_from value matches more)

-- a value of each club of a set, added
abbrev pub total_of : (ℕ → ℤ) → List ℕ → ℤ
total_of value [] = pos 0
total_of value (club ∷ clubs) = value club +ℤ total_of value clubs

-- the match points that a score gives to the clubs of a set together
abbrev pub points_together : List ℕ → Fixture → Score → ℤ
points_together clubs match score = total_of (λ club. worth_to match_points club match score) clubs

-- the match points that a score gives to its two sides, if each of them counts or not
abbrev pub points_of_sides : Bool → Bool → Score → ℤ
points_of_sides home away score =
    (if home then match_points score.home score.away false else pos 0)
    +ℤ (if away then match_points score.away score.home true else pos 0)

-- the points of a home win for the sides that count: three if the home side does
abbrev pub won_points : Bool → ℕ
won_points home = if home then 3 else 0

-- the points of a draw: one for each side that counts
abbrev pub drawn_points : Bool → Bool → ℕ
drawn_points home away = (if home then 1 else 0) + (if away then 1 else 0)

-- the points of an away win: three if the away side counts
abbrev pub lost_points : Bool → ℕ
lost_points away = if away then 3 else 0

-- the points taken off the clubs of a set
abbrev pub deducted_from : Results → List ℕ → ℤ
deducted_from season clubs = total_of (λ club. pos (slice_index season.deductions club)) clubs

-- the least and the most points of the clubs of a set, if the fixtures have these options: match
-- points of all fixtures, less what is taken off
abbrev pub points_range : Sheet → Results → List (List Score) → List ℕ → Range
points_range sheet season options clubs =
    added (range_from (points_together clubs) sheet.fixtures options)
    (one_value (pos 0 -ℤ deducted_from season clubs))

-- the least points that the clubs of a set can have together in a zone that has a finish; marks do
-- not count here, and a fixture without an option counts nothing
unfoldable pub least_points_of : Sheet → Results → List Literal → List ℕ → ℤ
least_points_of sheet season zone clubs =
    (points_range sheet season (options_in sheet season zone) clubs).least

-- the most points that they can have, in the same way
unfoldable pub most_points_of : Sheet → Results → List Literal → List ℕ → ℤ
most_points_of sheet season zone clubs =
    (points_range sheet season (options_in sheet season zone) clubs).greatest

-- no more points than these can the question's club have in its window
abbrev pub own_most : Sheet → Results → Question → List Literal → ℤ
own_most sheet season question zone =
    int_min question.high (most_points_of sheet season zone (question.club ∷ []))

-- no fewer points than these can the question's club have in its window
abbrev pub own_least : Sheet → Results → Question → List Literal → ℤ
own_least sheet season question zone =
    int_max question.low (least_points_of sheet season zone (question.club ∷ []))
