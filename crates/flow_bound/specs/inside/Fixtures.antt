-- What a fixture adds to the excess of a set, by the sides that are in the set.
use Rattle.std.specs.Prelude.{◌≡◌, ℕ, ℤ, pos, negsuc, ◌+ℤ◌, ◌-ℤ◌, ◌≤ℤ◌, neg_ℤ, ◌≤◌, Bool, true}
use Rattle.std.specs.Prelude.{false, ◌&&◌, ◌||◌, if◌then◌else◌, List, [], ◌∷◌, map, slice_index_or}
use Rattle.std.specs.Prelude.{length, nat_le, int_lt, sum_by}
use Rattle.league_core.specs.declared.sheet.Fixture.{Fixture}
use Rattle.league_core.specs.declared.sheet.Sheet.{Sheet}
use Rattle.league_core.specs.declared.season.Score.{Score}
use Rattle.league_core.specs.declared.zone.Literal.{Literal}
use Rattle.league_core.specs.game.Results.{Results}
use Rattle.league_core.specs.search.PointRanges.{Range, range_of, range_from, total_of}
use Rattle.league_core.specs.search.PointRanges.{points_of_sides, points_together, points_range}
use Rattle.league_core.specs.search.PointRanges.{least_points_of, most_points_of}
use Rattle.league_core.specs.search.Options.{options_in}
use Rattle.league_core.specs.search.Reasons.{times}
use Rattle.score_box.specs.declared.cell.Cell.{Cell}
use Rattle.score_box.specs.inside.Cells.{IsCellOf}
use Rattle.flow_bound.specs.declared.cut.Cut.{Cut}
use Rattle.flow_bound.specs.declared.cut.Cut.TheVariants.{Floor, Ceiling}
use Rattle.score_box.specs.inside.ZoneBoxViews.{ZoneBoxView}
use Rattle.score_box.specs.inside.Unplayed.{unplayed_in}
use Rattle.flow_bound.specs.declared.tally.Pair.{Pair}
use Rattle.flow_bound.specs.inside.Parts.{entry}

-- the end of a range that a cut looks at, counted
abbrev pub end_of : Cut → Range → ℤ
end_of Floor range = range.least
end_of Ceiling range = pos 0 -ℤ range.greatest

-- the end of a club's own points that the cut counts
abbrev pub own_end : Cut → Sheet → Results → List Literal → ℕ → ℤ
own_end cut sheet season zone club =
    end_of cut (points_range sheet season (options_in sheet season zone) (club ∷ []))

-- what the options of a match add to a set, beyond what they add to each of its clubs alone
abbrev pub beyond_in : Cut → List ℕ → Fixture → List Score → ℤ
beyond_in cut clubs match options =
    end_of cut (range_of (points_together clubs match) options)
    -ℤ total_of (λ club. end_of cut (range_of (points_together (club ∷ []) match) options)) clubs

-- what all fixtures add to it beyond that
abbrev pub beyond_over : Cut → Sheet → Results → List Literal → List ℕ → ℤ
beyond_over cut sheet season zone clubs =
    end_of cut (range_from (points_together clubs) sheet.fixtures (options_in sheet season zone))
    -ℤ total_of (λ club. end_of cut (range_from (points_together (club ∷ [])) sheet.fixtures
    (options_in sheet season zone))) clubs

-- what a fixture adds if one of its clubs is in the set, and what it adds beyond that if both are;
-- for a ceiling cut the points are counted with the sign turned
pub record MatchWorth : Type 0 where
  pub home : ℤ
  pub away : ℤ
  pub surplus : ℕ

-- what the sides add that count: each alone, and both beyond that
abbrev pub worth_of_sides : MatchWorth → Bool → Bool → ℤ
worth_of_sides worth home away =
    (if home then worth.home else pos 0) +ℤ (if away then worth.away else pos 0)
    +ℤ pos (if home && away then worth.surplus else 0)

-- what the options of a cell add
pub record IsWorthOf (cut : Cut) (cell : Cell) (worth : MatchWorth) : Type 0 where
  pub value : (options : List Score) → IsCellOf cell options → (home away : Bool)
      → end_of cut (range_of (points_of_sides home away) options) ≡ worth_of_sides worth home away
  pub home_least : neg_ℤ (pos 3) ≤ℤ worth.home
  pub home_most : worth.home ≤ℤ pos 3
  pub away_least : neg_ℤ (pos 3) ≤ℤ worth.away
  pub away_most : worth.away ≤ℤ pos 3
  pub surplus_most : worth.surplus ≤ 3

-- the excess of a set over a level: the end of its points that the cut looks at, and the level for
-- each club
abbrev pub excess_over : Cut → Sheet → Results → List Literal → ℤ → List ℕ → ℤ
excess_over cut sheet season zone level clubs =
    end_of cut (points_range sheet season (options_in sheet season zone) clubs)
    +ℤ times clubs level

-- a number that is above 0, or else 0
abbrev pub above_nothing : ℤ → ℕ
above_nothing (pos number) = number
above_nothing (negsuc number) = 0

-- what the options of a match add to both sides together, beyond what they add to each alone
unfoldable pub surplus_in : Cut → List Score → ℕ
surplus_in cut options =
    above_nothing (end_of cut (range_of (points_of_sides true true) options)
    -ℤ end_of cut (range_of (points_of_sides true false) options)
    -ℤ end_of cut (range_of (points_of_sides false true) options))

-- that surplus if all three outcomes are among the options
abbrev pub surplus_of_all : Cut → ℕ
surplus_of_all Floor = 2
surplus_of_all Ceiling = 3

-- and by which of the outcomes are among them
abbrev pub surplus_left : Cut → Bool → Bool → Bool → ℕ
surplus_left cut home_win draw away_win =
    if home_win && away_win then (if draw then surplus_of_all cut else 3)
    else if draw && (home_win || away_win) then 1
    else 0

-- the clubs of the match of a number, and its surplus
abbrev pub pair_at : Cut → ZoneBoxView → ℕ → Pair
pair_at cut box number =
    let match = slice_index_or box.sheet.fixtures number (record { home = 0; away = 0 }) in
    record {
      home = match.home;
      away = match.away;
      surplus = surplus_in cut
          (slice_index_or (options_in box.sheet box.season box.zone) number []);
    }

-- the pairs of a box: one for each match that is not played
unfoldable pub pairs_in : Cut → ZoneBoxView → List Pair
pairs_in cut box = map (pair_at cut box) (unplayed_in box.season.scores)

-- the surplus of the pairs of some matches that pass a test, added
abbrev pub sum_at : (Pair → Bool) → Cut → ZoneBoxView → List ℕ → ℕ
sum_at test cut box numbers =
    sum_by (λ number. if test (pair_at cut box number) then (pair_at cut box number).surplus else 0)
    numbers

-- the club's entry is above 0 together with all that its matches leave open: what its most points
-- are beyond its least; a number past the clubs counts as one that may add something
abbrev pub may_add : ZoneBoxView → List ℤ → ℕ → Bool
may_add box table club =
    nat_le (length box.sheet.clubs) club
    || int_lt (pos 0) (entry table club
    +ℤ (most_points_of box.sheet box.season box.zone (club ∷ [])
    -ℤ least_points_of box.sheet box.season box.zone (club ∷ [])))
