use Rattle.std.proofs.Common.{ℕ, List, subst, ◌∙◌}
use Rattle.league_core.specs.game.ClubSets.{clubs_in}
use Rattle.league_core.specs.inside.KeptClubs.{AreKept}
use Rattle.league_core.proofs.KeptClubLemmas.{kept_none, kept_with_next}
use Rattle.league_core.proofs.WalkLemmas.{comes_to, all_seen}
use Rattle.league_core.proofs.club_set.ClubSet.keep.Goals as goal

pub test-requires : goal.test-requires
test-requires g c =
    let here = comes_to c.args.self c.loop-club.yielded c.in-Some.club
    (c.into_iter-club-iterator.ensures.into_iter_gives ∙ c.clubs-club-items.ensures.all)
    c.loop-club.yielded_by c.in-Some.ensures.steps in
    c.requires c.in-Some.club here.low here.among

pub with_if-found-requires : goal.with_if-found-requires
with_if-found-requires g c =
    (comes_to c.args.self c.loop-club.yielded c.in-Some.club
    (c.into_iter-club-iterator.ensures.into_iter_gives ∙ c.clubs-club-items.ensures.all)
    c.loop-club.yielded_by c.in-Some.ensures.steps).low

pub loop-club-init : goal.loop-club-init
loop-club-init g c = kept_none _ _ c.empty-found.ensures

pub loop-club-preserved : goal.loop-club-preserved
loop-club-preserved g c =
    kept_with_next _ _ _ _ _ c.test.result
    (comes_to c.args.self c.loop-club.yielded c.in-Some.club
    (c.into_iter-club-iterator.ensures.into_iter_gives ∙ c.clubs-club-items.ensures.all)
    c.loop-club.yielded_by c.in-Some.ensures.steps).is_new
    c.test.ensures c.with_if-found.ensures c.loop-club.invariant

pub returns : goal.returns
returns g c = subst
    (λ (clubs : List ℕ). AreKept (goal.F-post g c.args.test) clubs (clubs_in c.loop-club.found))
    (all_seen c.args.self c.loop-club.yielded
    (c.into_iter-club-iterator.ensures.into_iter_gives ∙ c.clubs-club-items.ensures.all)
    c.loop-club.yielded_by c.in-None.ensures.steps.0) c.loop-club.invariant
