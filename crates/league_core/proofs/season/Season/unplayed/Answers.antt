-- No score, no code but that of none, and no points taken off.
use Rattle.std.proofs.Common.{◌≡◌, replicate, None, rules}
use Rattle.league_core.proofs.ResultsLemmas.{are_results-unplayed}
use Rattle.league_core.proofs.ScoreCodeLemmas.{codes-unplayed}
use Rattle.league_core.proofs.season.Season.unplayed.Goals as goal

pub invariant_of-result : goal.invariant_of-result
invariant_of-result c =
    let season = c.in_ok-scores.scores.items in
    let points = c.in_ok-deductions.deductions.items in
    let codes = c.in_ok-codes.codes.items in
    let code = c.score_code.result in
    let scores : season ≡ replicate c.args.fixtures None = search rules in
    let deductions : points ≡ replicate c.args.clubs 0 = search rules in
    let none : codes ≡ replicate c.args.fixtures code = search rules in (
      are_results-unplayed season points c.args.fixtures c.args.clubs scores deductions,
      codes-unplayed season codes c.args.fixtures code scores none c.score_code.ensures,
    )
