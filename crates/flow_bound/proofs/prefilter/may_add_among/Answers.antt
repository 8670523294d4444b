use Rattle.std.proofs.Common.{rules}
use Rattle.league_core.proofs.KeptClubLemmas.{kept_has}
use Rattle.flow_bound.proofs.prefilter.may_add_among.Goals as goal

pub returns : goal.returns
returns c = kept_has (λ club said has says. search rules) c.keep.ensures
