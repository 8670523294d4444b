-- The scores of a cell in the words of the near reason's test.
use Rattle.std.specs.Prelude.{◌≡◌, Bool, Option, MatchOption}
use Rattle.league_core.specs.declared.season.Score.{Score}
use Rattle.score_box.specs.declared.cell.Cell.{Cell}
use Rattle.score_box.specs.declared.cell.goals.ScoreRange.{ScoreRange}
use Rattle.score_box.specs.inside.Cells.{allows, AllowsNone, IsScoreRangeOf}
use Rattle.near_bound.specs.declared.match_left.MatchLeft.{MatchLeft}
use Rattle.near_bound.specs.inside.MatchesLeft.{is_score_left}

-- both have the same scores
abbrev pub IsLeftOfCell : MatchLeft → Cell → Type 0
IsLeftOfCell match cell = (score : Score) → is_score_left match score ≡ allows cell score

-- the goals of the cell's scores that pass, if it has any
abbrev pub IsRangeIfAny : Cell → (Score → Bool) → Option ScoreRange → Type 0
IsRangeIfAny cell test goals =
    MatchOption goals (AllowsNone cell test) (IsScoreRangeOf cell test)
