-- The match points of all clubs are kept near 0, and are those of the extremes.
use Rattle.std.proofs.Common.{◌≡◌, ◌∷◌, [], subst, ◌∙◌}
use Rattle.league_core.specs.search.PointRanges.{points_range}
use Rattle.check_bounds.specs.inside.IntRanges.{as_sum_range}
use Rattle.check_bounds.specs.inside.Cells.{CellsView}
use Rattle.check_bounds.proofs.WonLemmas.{won_near, points_by_table-is}
use Rattle.check_bounds.proofs.cells.Cells.points.Goals as goal

pub points_of_club-requires-clause-near : goal.points_of_club-requires-clause-near
points_of_club-requires-clause-near c =
    let cells = c.self.inside in
    won_near cells.sheet.now cells.corners.items cells.won c.self.invariant.played.few
    c.self.invariant.won c.args.club

pub returns-clause-range : goal.returns-clause-range
returns-clause-range c =
    let cells = c.self.inside in
    let Says : CellsView → Type 0 = λ kept. as_sum_range c.points_of_club.result
    ≡ points_range kept.sheet c.args.season.now kept.corners (c.args.club ∷ []) in
    subst Says c.self.view_is
    (c.points_of_club.ensures.range
    ∙ points_by_table-is cells.sheet.now c.args.season.now cells.corners.items cells.won c.args.club
    c.self.invariant.won)
