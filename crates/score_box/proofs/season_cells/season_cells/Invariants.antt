use Rattle.std.proofs.Common.{◌≡◌, [], length}
use Rattle.league_core.specs.search.Options.{options_from}
use Rattle.std.specs.List.{All}
use Rattle.score_box.specs.inside.Cells.{IsExactCell}
use Rattle.score_box.proofs.BoxLemmas.{HaveOptions}
use Rattle.score_box.proofs.season_cells.season_cells.Given as goal

-- one cell for each score so far, with the options of its fixture
abbrev pub invariant-loop-score : goal.invariant-loop-score
invariant-loop-score l =
    (length l.cells.items ≡ l.score-index)
    × HaveOptions l.cells.items (options_from l.goal_limit [] 0 l.scores)
    × All IsExactCell l.cells.items
