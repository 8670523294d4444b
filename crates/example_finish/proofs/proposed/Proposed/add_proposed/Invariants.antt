-- The rows have what was played, and what the matches before this one add.
use Rattle.league_core.specs.game.ClubSets.{clubs_in}
use Rattle.score_box.specs.inside.Unplayed.{unplayed_in}
use Rattle.example_finish.specs.inside.ProposalViews.{season_asked}
use Rattle.example_finish.proofs.ProposedTotalLemmas.{AreTotalsWith}
use Rattle.example_finish.proofs.proposed.Proposed.add_proposed.Given as goal

abbrev pub invariant-loop-i : goal.invariant-loop-i
invariant-loop-i l =
    AreTotalsWith l.self (clubs_in l.group) (clubs_in l.rows)
    (unplayed_in (season_asked l.self).scores) l.i l.table
