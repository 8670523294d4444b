use Rattle.depth_search.proofs.DecidedLemmas.{each_zone_decided}
use Rattle.depth_search.proofs.laws.each_zone_is_decided.Goals as goal

pub returns : goal.returns
returns g c = each_zone_decided g.K.Decided.kind
