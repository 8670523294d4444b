-- The points are those of what was played, and of the matches before this one.
use Rattle.score_box.specs.inside.Unplayed.{unplayed_in}
use Rattle.example_finish.specs.inside.ProposalViews.{season_asked}
use Rattle.example_finish.proofs.ProposedPointLemmas.{ArePointsWith}
use Rattle.example_finish.proofs.proposed.Proposed.add_points.Given as goal

abbrev pub invariant-loop-i : goal.invariant-loop-i
invariant-loop-i l =
    ArePointsWith l.self (unplayed_in (season_asked l.self).scores) l.i l.points
