-- Which options of a zone are left to clubs that are to end on a number of points, and which clubs
-- can still have it. Each club is looked at by itself, one fixture after the other: this project's
-- own choice.
use Rattle.std.specs.Prelude.{ℕ, ℤ, ◌+ℤ◌, ◌-ℤ◌, Bool, ◌&&◌, int_le, List, [], ◌∷◌, filter}
use Rattle.std.specs.List.{list_all}
use Rattle.std.specs.Ordering.{int_eq}
use Rattle.league_core.specs.declared.sheet.Sheet.{Sheet}
use Rattle.league_core.specs.declared.sheet.Fixture.{Fixture}
use Rattle.league_core.specs.declared.season.Score.{Score}
use Rattle.league_core.specs.declared.zone.Literal.{Literal}
use Rattle.league_core.specs.game.Results.{Results}
use Rattle.league_core.specs.search.Options.{options_in, has_option}
use Rattle.league_core.specs.search.PointRanges.{Range, range_of, points_together, points_range}

-- the club's points in the zone, its marks aside
abbrev pub range_in : Sheet → Results → List Literal → ℕ → Range
range_in sheet season zone club =
    points_range sheet season (options_in sheet season zone) (club ∷ [])

-- if one fixture gives so many points, out of a range of its own, all fixtures can still give the
-- number: the others give what they have at the least, or at the most
abbrev pub can_reach : Range → Range → ℤ → ℤ → Bool
can_reach all here given points =
    int_le (all.least -ℤ here.least +ℤ given) points
    && int_le points (all.greatest -ℤ here.greatest +ℤ given)

-- with this score of a match, one of these options, the club can still have the points
abbrev pub is_fit : Sheet → Results → List Literal → ℤ → Fixture → List Score → Score → ℕ → Bool
is_fit sheet season zone points match options score club =
    let won = points_together (club ∷ []) match in
    can_reach (range_in sheet season zone club) (range_of won options) (won score) points

-- of each fixture the options that pass a test, which looks at all of them
abbrev pub options_where : (Fixture → List Score → Score → Bool) → List Fixture
    → List (List Score) → List (List Score)
options_where test [] options = options
options_where test (match ∷ matches) [] = []
options_where test (match ∷ matches) (options ∷ more) =
    filter (test match options) options ∷ options_where test matches more

-- of each fixture the options that are fit for each of these clubs
abbrev pub fit_options : Sheet → Results → List Literal → ℤ → List ℕ → List (List Score)
fit_options sheet season zone points clubs =
    options_where
    (λ match options score. list_all (is_fit sheet season zone points match options score) clubs)
    sheet.fixtures (options_in sheet season zone)

-- of each fixture some option is fit for all of these clubs
abbrev pub have_fit : Sheet → Results → List Literal → ℤ → List ℕ → Bool
have_fit sheet season zone points clubs =
    list_all has_option (fit_options sheet season zone points clubs)

-- the range has the number
abbrev pub leaves_points : Range → ℤ → Bool
leaves_points range number = int_le range.least number && int_le number range.greatest

-- the club can have the points, as far as one look tells: each fixture has a fit option, and the
-- fit options leave the points
abbrev pub is_able : Sheet → Results → List Literal → ℤ → ℕ → Bool
is_able sheet season zone points club =
    have_fit sheet season zone points (club ∷ [])
    && leaves_points
    (points_range sheet season (fit_options sheet season zone points (club ∷ [])) (club ∷ []))
    points

-- the club has the points in the zone, whatever happens
abbrev pub is_surely_on : Sheet → Results → List Literal → ℤ → ℕ → Bool
is_surely_on sheet season zone points club =
    let range = range_in sheet season zone club in
    int_eq range.least points && int_eq range.greatest points
