use Rattle.std.proofs.Common.{◌∙◌, arith}
use Rattle.league_core.proofs.ClubCountLemmas.{member_below}
use Rattle.league_core.proofs.WalkLemmas.{comes_to}
use Rattle.near_bound.proofs.leads.Leads.worst_of.Goals as goal

pub bounds-self-club : goal.bounds-self-club
bounds-self-club c =
    let met = comes_to c.args.clubs c.loop-club.yielded c.in-Some.club
    (c.into_iter-club-iterator.ensures.into_iter_gives ∙ c.clubs-club-items.ensures.all)
    c.loop-club.yielded_by c.in-Some.ensures.steps in
    omega (arith, met.low)

pub bounds-self-worst : goal.bounds-self-worst
bounds-self-worst c =
    let below = member_below c.args.clubs c.loop-club.worst c.loop-club.invariant.among in
    omega (arith, below)

pub loop-club-preserved-then-is_less : goal.loop-club-preserved-then-is_less
loop-club-preserved-then-is_less c = record {
  among = (comes_to c.args.clubs c.loop-club.yielded c.in-Some.club
      (c.into_iter-club-iterator.ensures.into_iter_gives ∙ c.clubs-club-items.ensures.all)
      c.loop-club.yielded_by c.in-Some.ensures.steps).among;
}
