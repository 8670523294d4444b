use Rattle.std.proofs.Common.{arith, rules}
use Rattle.std.proofs.lemmas.List.{get_or_default}
use Rattle.league_core.specs.declared.sure.Sure.TheVariants.{Above, Unknown}
use Rattle.league_core.proofs.KeptClubLemmas.{kept_below}
use Rattle.check_bounds.proofs.rivals.those_above.Goals as goal

pub returns : goal.returns
returns c =
    let sure = c.args.sure.now in
    kept_below 32 c.first.ensures
    (λ club said low says.
    let same = get_or_default sure club Above Unknown (omega arith) in search rules)
    c.keep.ensures
