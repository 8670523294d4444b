-- The points that are written may be taken off.
use Rattle.std.proofs.Common.{le-leb}
use Rattle.league_core.proofs.ResultsLemmas.{are_results-deduct}
use Rattle.league_core.proofs.season.Season.deduct.Goals as goal

pub invariant_of-self : goal.invariant_of-self
invariant_of-self c =
    let season = c.self.inside in (
      are_results-deduct season.scores.items season.deductions.items c.args.club c.args.points
          (le-leb _ _ c.requires.may_be) c.self.invariant.0,
      c.self.invariant.1,
    )
