-- If neither side counts, each score gives nothing.
use Rattle.std.proofs.Common.{sym, ◌∙◌}
use Rattle.league_core.specs.search.PointRanges.{range_of, points_of_sides}
use Rattle.league_core.proofs.RangeLemmas.{range_of-none}
use Rattle.check_bounds.proofs.won.won_in.Goals as goal

pub returns-else-away-clause-range : goal.returns-else-away-clause-range
returns-else-away-clause-range c =
    sym (
    (λ i. range_of (points_of_sides (c.if-away.false.0 i) (c.if-away.false.1 i))
    c.args.corners.now)
    ∙ range_of-none c.args.corners.now)
