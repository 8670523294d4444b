-- The one score that is written is one that may be, and its code goes with it.
use Rattle.league_core.proofs.ResultsLemmas.{are_results-set}
use Rattle.league_core.proofs.ScoreCodeLemmas.{codes-set}
use Rattle.league_core.proofs.season.Season.write.Goals as goal

pub invariant_of-self : goal.invariant_of-self
invariant_of-self c =
    let season = c.self.inside in (
      are_results-set season.scores.items season.deductions.items c.args.fixture c.args.score
          c.requires.may_be c.self.invariant.0,
      codes-set season.scores.items season.codes.items c.args.fixture c.args.score
          c.score_code.result c.self.invariant.1 c.score_code.ensures,
    )
