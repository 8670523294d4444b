-- What the fixtures come to in a box for each club alone, and how many of them have no option, or
-- options of several outcomes.
use Rattle.std.specs.Prelude.{◌≡◌, ◌≢◌, ℕ, ◌<◌, ℤ, pos, ◌+ℤ◌, not, List, [], ◌∷◌, length, count_by}
use Rattle.std.specs.Prelude.{slice_index_or}
use Rattle.league_core.specs.declared.sheet.Fixture.{Fixture}
use Rattle.league_core.specs.declared.season.Score.{Score}
use Rattle.league_core.specs.search.Options.{has_option}
use Rattle.league_core.specs.search.PointRanges.{Range, range_of, range_from, points_together}
use Rattle.score_box.specs.declared.cell.Cell.{Cell}
use Rattle.score_box.specs.declared.ends.Ends.{Ends}
use Rattle.score_box.specs.inside.Cells.{IsCellOf}
use Rattle.score_box.specs.inside.Boxes.{AreCellsOf, open_outcomes_in}

-- what the options of a match come to for a club
abbrev pub alone_in : ℕ → Fixture → List Score → Range
alone_in club match options = range_of (points_together (club ∷ []) match) options

-- what the options of all fixtures come to for it
abbrev pub alone_over : List Fixture → List (List Score) → ℕ → Range
alone_over fixtures options club = range_from (points_together (club ∷ [])) fixtures options

-- how many fixtures have no option
abbrev pub empty_in : List (List Score) → ℕ
empty_in options = count_by (λ scores. not (has_option scores)) options

-- the number at a club's place
abbrev pub end_at : List ℤ → ℕ → ℤ
end_at numbers club = slice_index_or numbers club (pos 0)

-- a match of two different clubs of a sheet
pub record IsMatch (match : Fixture) : Type 0 where
  pub home : match.home < 24
  pub away : match.away < 24
  pub apart : match.home ≢ match.away

-- the least and the most match points of each club
pub record AreRanges (fixtures : List Fixture) (options : List (List Score)) (lows highs : List ℤ)
    : Type 0 where
  pub many_lows : length lows ≡ 24
  pub many_highs : length highs ≡ 24
  pub least : (club : ℕ) → club < 24
      → end_at lows club ≡ (alone_over fixtures options club).least
  pub most : (club : ℕ) → club < 24
      → end_at highs club ≡ (alone_over fixtures options club).greatest

-- these, and the two counts
pub record AreEnds (fixtures : List Fixture) (options : List (List Score)) (ends : Ends) : Type 0
  where
    pub ranges : AreRanges fixtures options ends.lows ends.highs
    pub empty : ends.empty ≡ empty_in options
    pub several : ends.several ≡ open_outcomes_in options

-- the ends of some options that the cells have
abbrev pub HasEndsOfCells : List Fixture → List Cell → Ends → Type 0
HasEndsOfCells fixtures cells ends =
    (options : List (List Score)) × AreCellsOf cells options × AreEnds fixtures options ends

-- the ends of some options, of which one fixture's are those of a cell
abbrev pub HasEndsAt : List Fixture → ℕ → Cell → Ends → Type 0
HasEndsAt fixtures number cell ends =
    (options : List (List Score)) × (length options ≡ length fixtures)
    × AreEnds fixtures options ends × IsCellOf cell (slice_index_or options number [])

-- the clubs of a match take what its new cell leaves them, in place of what the old one left
abbrev pub MovesRanges : Fixture → Cell → Cell → List ℤ → List ℤ → List ℤ → List ℤ → Type 0
MovesRanges match was now lows_old lows_new highs_old highs_new =
    (club : ℕ) (before after : List Score) → IsCellOf was before → IsCellOf now after
    → (end_at lows_new club +ℤ (alone_in club match before).least
    ≡ end_at lows_old club +ℤ (alone_in club match after).least)
    × (end_at highs_new club +ℤ (alone_in club match before).greatest
    ≡ end_at highs_old club +ℤ (alone_in club match after).greatest)
