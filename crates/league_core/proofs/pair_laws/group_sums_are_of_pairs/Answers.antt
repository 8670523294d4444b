use Rattle.league_core.proofs.PairLemmas.{sum_among-pairs}
use Rattle.league_core.proofs.pair_laws.group_sums_are_of_pairs.Goals as goal

pub returns : goal.returns
returns c = sum_among-pairs
