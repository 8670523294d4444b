use Rattle.league_core.proofs.EachVerdictLemmas.{one_verdict}
use Rattle.league_core.proofs.finish_laws.one_verdict_at_least.Goals as goal

pub returns : goal.returns
returns c = one_verdict
