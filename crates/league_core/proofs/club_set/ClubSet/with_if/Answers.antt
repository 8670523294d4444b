use Rattle.league_core.proofs.ClubSetLemmas.{has_club-with_bit}
use Rattle.league_core.proofs.club_set.ClubSet.with_if.Goals as goal

pub returns-then-keep : goal.returns-then-keep
returns-then-keep c =
    λ other. rw c.if-keep.true (has_club-with_bit c.args.self.bits c.args.club other c.requires)
