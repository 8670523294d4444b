-- The points that matches leave a club, and the scores that are fit for it.
use Rattle.std.specs.Prelude.{◌≡◌, ℕ, ℤ, pos, neg_ℤ, ◌≤ℤ◌, Bool, true, false}
use Rattle.std.specs.Prelude.{if◌then◌else◌, List, [], ◌∷◌, filter, slice_index_or}
use Rattle.league_core.specs.declared.sheet.Fixture.{Fixture}
use Rattle.league_core.specs.declared.season.Score.{Score}
use Rattle.league_core.specs.game.Sums.{match_points}
use Rattle.league_core.specs.search.Options.{is_home_win, is_draw}
use Rattle.league_core.specs.search.PointRanges.{Range, range_of, points_together}
use Rattle.near_laws.specs.Fits.{can_reach}
use Rattle.near_bound.specs.declared.match_left.MatchLeft.{MatchLeft}
use Rattle.near_bound.specs.declared.points.PointEnds.{PointEnds}
use Rattle.near_bound.specs.inside.MatchesLeft.{is_score_left}

-- both ends as a range
abbrev pub range_of_ends : PointEnds → Range
range_of_ends ends = record { least = ends.least; greatest = ends.most }

-- a club's points in a table
abbrev pub ends_listed : List PointEnds → ℕ → PointEnds
ends_listed table club = slice_index_or table club (record { least = pos 0; most = pos 0 })

-- the match points of the away side, or of the home side
abbrev pub side_points : Bool → Score → ℤ
side_points away score =
    if away then match_points score.away score.home true
    else match_points score.home score.away false

-- whether a score that is left gives a side so many
abbrev pub MayGive : MatchLeft → Bool → ℤ → Bool → Type 0
MayGive left away points true =
    (score : Score) × (is_score_left left score ≡ true) × (side_points away score ≡ points)
MayGive left away points false =
    (score : Score) → is_score_left left score ≡ true → side_points away score ≡ points → ⊥

-- the least points of a win, a draw and a defeat, each of which may come or not; none if none may
abbrev pub least_given : Bool → Bool → Bool → ℤ
least_given won drawn lost =
    if lost then pos 0 else if drawn then pos 1 else if won then pos 3 else pos 0

-- the most
abbrev pub most_given : Bool → Bool → ℤ
most_given won drawn = if won then pos 3 else if drawn then pos 1 else pos 0

-- of three answers the one for the score's outcome
abbrev pub by_outcome : Bool → Bool → Bool → Score → Bool
by_outcome home_win draw away_win score =
    if is_home_win score then home_win else if is_draw score then draw else away_win

-- both ends are in this order, from none to so many
pub record AreEndsWithin (bound : ℤ) (ends : PointEnds) : Type 0 where
  pub least : pos 0 ≤ℤ ends.least
  pub in_order : ends.least ≤ℤ ends.most
  pub most : ends.most ≤ℤ bound

-- with the score the club can still have the points, if it can have these in all
abbrev pub is_fit_by : Range → ℤ → ℕ → Fixture → List Score → Score → Bool
is_fit_by all points club match options score =
    let won = points_together (club ∷ []) match in
    can_reach all (range_of won options) (won score) points

-- the options with which it can
abbrev pub fit_by : Range → ℤ → ℕ → Fixture → List Score → List Score
fit_by all points club match options = filter (is_fit_by all points club match options) options

-- a number of points that is not far from what a club can have
abbrev pub IsUsual : ℤ → Type 0
IsUsual points = (neg_ℤ (pos 100000) ≤ℤ points) × (points ≤ℤ pos 100000)

-- a number of points that a word of 32 bits holds
abbrev pub IsPoints : ℤ → Type 0
IsPoints points = (neg_ℤ (pos 2147483648) ≤ℤ points) × (points ≤ℤ pos 2147483647)

-- the points that a club can have in all, with what is taken off
pub record AreEndsOfClub (ends : PointEnds) : Type 0 where
  pub least : neg_ℤ (pos 255) ≤ℤ ends.least
  pub in_order : ends.least ≤ℤ ends.most
  pub most : ends.most ≤ℤ pos 1800
