use Rattle.std.proofs.Common.{rules}
use Rattle.league_core.proofs.KeptClubLemmas.{kept_has}
use Rattle.near_bound.proofs.level.surely_on.Goals as goal

pub returns-clause-core : goal.returns-clause-core
returns-clause-core c = λ zone is.
    kept_has (λ other said has says. search rules) c.keep.ensures
