use Rattle.std.proofs.Common.{List, subst}
use Rattle.league_core.specs.declared.club_set.ClubSet.{ClubSet}
use Rattle.score_box.specs.inside.OpenSides.{NoneBetween}
use Rattle.score_box.proofs.open_matches.OpenMatches.next_among.Goals as goal

pub returns-clause-before : goal.returns-clause-before
returns-clause-before c =
    let Before : List ClubSet → Type 0 = λ sides.
    NoneBetween sides c.args.group c.args.from c.next_within.result in
    subst Before c.deref.ensures.value c.next_within.ensures.before
