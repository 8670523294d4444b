use Rattle.std.proofs.Common.{rules}
use Rattle.league_core.proofs.KeptClubLemmas.{kept_list}
use Rattle.check_bounds.proofs.tie_rounds.level_in.Goals as goal

pub returns : goal.returns
returns c =
    kept_list c.args.group c.keep.result (λ other said low says. search rules) c.keep.ensures
