use Rattle.std.proofs.Common.{◌≡◌, [], ◌∷◌, ◌∙◌, arith}
use Rattle.std.proofs.lemmas.List.{length-set}
use Rattle.league_core.specs.search.PointRanges.{points_range}
use Rattle.check_bounds.specs.inside.IntRanges.{as_sum_range}
use Rattle.check_bounds.proofs.TableLemmas.{each_more}
use Rattle.check_bounds.proofs.total.points_table.Goals as goal

pub loop-club-preserved : goal.loop-club-preserved
loop-club-preserved c =
    let cells = c.args.cells.now in
    let season = c.args.season.now in
    let club = c.loop-club.club in (
      length-set c.loop-club.table club c.points.result ∙ c.loop-club.invariant.0,
      each_more (λ x range. as_sum_range range
          ≡ points_range cells.sheet season cells.corners (x ∷ [])) c.loop-club.table club
          c.points.result (omega (arith, c.loop-club.invariant.0)) c.loop-club.invariant.1
          c.points.ensures.range,
    )
