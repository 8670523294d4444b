use Rattle.std.proofs.Common.{sym, subst}
use Rattle.league_core.proofs.ClubCountLemmas.{member_below}
use Rattle.near_bound.specs.declared.wrongs.Wrongs.{Wrongs}
use Rattle.near_bound.specs.inside.GroupsLeft.{AreWrongs}
use Rattle.near_bound.proofs.groups.Groups.is_wrong_by.Goals as goal

pub take-requires-clause-among : goal.take-requires-clause-among
take-requires-clause-among c = c.requires.groups.held_in c.args.rival c.requires.rival

pub of-requires : goal.of-requires
of-requires c = member_below c.args.self.now.held c.args.rival c.requires.rival

pub is_wrong-requires-clause-wrongs : goal.is_wrong-requires-clause-wrongs
is_wrong-requires-clause-wrongs c =
    let groups = c.args.self.now in
    subst (λ (w : Wrongs). AreWrongs groups.tie.now groups.able groups.club c.args.rival w)
    (sym c.of.ensures) (c.take.ensures.kept.each c.args.rival c.take.ensures.known)
