-- What boxes and the tables under them keep.
use Rattle.std.specs.Prelude.{◌≡◌, ℕ, ◌<◌, true, IsTrue, List, [], ◌∷◌, ◌++◌, Option, None}
use Rattle.std.specs.Prelude.{length, take, slice_index_or}
use Rattle.league_core.specs.declared.sheet.Sheet.{Sheet}
use Rattle.league_core.specs.declared.sheet.Fixture.{Fixture}
use Rattle.league_core.specs.declared.season.Score.{Score}
use Rattle.league_core.specs.declared.club_set.ClubSet.{ClubSet}
use Rattle.league_core.specs.declared.zone.Literal.{Literal}
use Rattle.league_core.specs.game.Results.{Results}
use Rattle.league_core.specs.game.Seasons.{IsLeague}
use Rattle.league_core.specs.search.Zones.{is_on, marked_before, marked_after, is_zone_of}
use Rattle.league_core.specs.search.Options.{options_of, options_from, options_in}
use Rattle.score_box.specs.declared.cell.Cell.{Cell}
use Rattle.score_box.specs.declared.ends.Ends.{Ends}
use Rattle.score_box.specs.declared.trail.Undo.{Undo}
use Rattle.score_box.specs.inside.Cells.{IsCellOf, IsExactCell}
use Rattle.score_box.specs.inside.ZoneBoxViews.{ZoneBoxView}
use Rattle.score_box.specs.inside.Unplayed.{unplayed_in}
use Rattle.score_box.specs.inside.Boxes.{AreCellsOf, IsSetOf}
use Rattle.score_box.specs.inside.OpenSides.{AreSidesOf}
use Rattle.score_box.specs.inside.Ends.{AreEnds}
use Rattle.score_box.specs.declared.totals.Totals.{Totals}
use Rattle.score_box.specs.inside.Totals.{AreTables}

-- a sheet and a season of it
pub record PlayedView : Type 0 where
  pub sheet : Sheet
  pub season : Results

-- what the tables of a stage keep: the cells before any literal, what is not played, the ends, and
-- the rows of what was played
pub record ArePlayed (stage : PlayedView) (cells : List Cell) (unplayed : List ℕ)
    (sides : List ClubSet) (ends : Ends) (clubs pairs : List Totals) : Type 0 where
  pub league : IsLeague stage.sheet stage.season
  pub options : AreCellsOf cells (options_in stage.sheet stage.season [])
  pub open_fixtures : unplayed ≡ unplayed_in stage.season.scores
  pub open_sides : AreSidesOf stage.sheet.fixtures unplayed sides
  pub ends_are : AreEnds stage.sheet.fixtures (options_in stage.sheet stage.season []) ends
  pub tables : AreTables stage.sheet.fixtures stage.season.scores clubs pairs

-- the cell is exact, and has the options of the fixture that a literal is on, before that literal
abbrev pub IsCellBefore : ℕ → List (Option Score) → List Literal → Literal → Cell → Type 0
IsCellBefore limit scores zone literal cell =
    (number : ℕ) → is_on number literal.test ≡ true
    → IsCellOf cell (options_of limit zone number (slice_index_or scores number None))
    × IsExactCell cell

-- what stood before a literal that follows a zone
pub record IsUndoOf (limit : ℕ) (scores : List (Option Score)) (zone : List Literal)
    (literal : Literal) (undo : Undo) : Type 0 where
  pub cell : IsCellBefore limit scores zone literal undo.cell
  pub before : IsSetOf undo.marks.before (marked_before zone)
  pub after : IsSetOf undo.marks.after (marked_after zone)

-- what stood before each literal of the zone, in the order of the zone
pub record IsTrailOf (limit : ℕ) (scores : List (Option Score)) (zone : List Literal)
    (trail : List Undo) : Type 0 where
  pub many : length trail ≡ length zone
  pub each : (k : ℕ) (d : Literal) (e : Undo) → k < length zone
      → IsUndoOf limit scores (take k zone) (slice_index_or zone k d) (slice_index_or trail k e)

-- what a box keeps: the zone's options as cells, its marks as sets, what stood before each literal,
-- the ends, and the rows of what was played
pub record IsBoxOf (setting : ZoneBoxView) (trail : List Undo) (unplayed : List ℕ)
    (sides : List ClubSet) (cells : List Cell)
    (before after : ClubSet) (ends : Ends) (clubs pairs : List Totals) : Type 0 where
  pub league : IsLeague setting.sheet setting.season
  pub open_fixtures : unplayed ≡ unplayed_in setting.season.scores
  pub open_sides : AreSidesOf setting.sheet.fixtures unplayed sides
  pub of_zone : IsTrue (is_zone_of setting.sheet setting.zone)
  pub trail_is : IsTrailOf setting.sheet.goal_limit setting.season.scores setting.zone trail
  pub options : AreCellsOf cells (options_in setting.sheet setting.season setting.zone)
  pub marks_before : IsSetOf before (marked_before setting.zone)
  pub marks_after : IsSetOf after (marked_after setting.zone)
  pub ends_are : AreEnds setting.sheet.fixtures
      (options_in setting.sheet setting.season setting.zone) ends
  pub tables : AreTables setting.sheet.fixtures setting.season.scores clubs pairs

-- cells and ends of a zone become those of the zone with one literal more
abbrev pub TakesOneMore : List Fixture → List Cell → List Cell → Ends → Ends → Literal → Type 0
TakesOneMore fixtures cells_old cells_new ends_old ends_new literal =
    (limit : ℕ) (zone : List Literal) (scores : List (Option Score))
    → AreCellsOf cells_old (options_from limit zone 0 scores)
    → AreEnds fixtures (options_from limit zone 0 scores) ends_old
    → AreCellsOf cells_new (options_from limit (zone ++ literal ∷ []) 0 scores)
    × AreEnds fixtures (options_from limit (zone ++ literal ∷ []) 0 scores) ends_new

-- the other way: the last literal is taken back, if the cell is the one from before it
abbrev pub TakesOneLess : List Fixture → List Cell → List Cell → Ends → Ends → Literal → Cell
    → Type 0
TakesOneLess fixtures cells_old cells_new ends_old ends_new literal cell =
    (limit : ℕ) (zone : List Literal) (scores : List (Option Score))
    → IsCellBefore limit scores zone literal cell
    → AreCellsOf cells_old (options_from limit (zone ++ literal ∷ []) 0 scores)
    → AreEnds fixtures (options_from limit (zone ++ literal ∷ []) 0 scores) ends_old
    → AreCellsOf cells_new (options_from limit zone 0 scores)
    × AreEnds fixtures (options_from limit zone 0 scores) ends_new
