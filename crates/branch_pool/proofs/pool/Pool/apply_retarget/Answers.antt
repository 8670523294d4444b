use Rattle.std.proofs.Common.{◌<◌, length, sym, subst}
use Rattle.std.specs.List.{All}
use Rattle.league_core.specs.game.Limits.{most_events}
use Rattle.league_core.specs.game.Seasons.{IsEventOf}
use Rattle.league_core.proofs.LogLemmas.{IsSeasonOf-applied}
use Rattle.branch_pool.specs.inside.States.{PoolView}
use Rattle.branch_pool.specs.inside.QuestionStates.{MayBeCarried}
use Rattle.branch_pool.specs.inside.Views.{state_of}
use Rattle.branch_pool.proofs.FromLemmas.{work_from_start}
use Rattle.branch_pool.proofs.GoodLemmas.{seats_ready, sound_season}
use Rattle.branch_pool.proofs.StepLemmas.{changed_sound}
use Rattle.branch_pool.proofs.pool.Pool.apply_retarget.Goals as goal

pub trees_for-requires-clause-league : goal.trees_for-requires-clause-league
trees_for-requires-clause-league c =
    rw (c.apply.ensures, c.in_ok-season.ensures) (record {
      limits = c.self.invariant.0.limits;
      of_sheet = IsSeasonOf-applied c.self.inside.sheet c.self.inside.season c.args.event
          (sound_season (state_of c.self.inside) c.self.invariant.0);
    })

pub trees_for-requires-clause-ready : goal.trees_for-requires-clause-ready
trees_for-requires-clause-ready c =
    subst (All (MayBeCarried c.self.inside.sheet)) (sym c.as_slice.ensures.value)
    (seats_ready (state_of c.self.inside) c.self.invariant.0)

pub invariant_of-self-2 : goal.invariant_of-self-2
invariant_of-self-2 c =
    let pool : PoolView = state_of c.self.inside in
    let room = subst (λ (p : PoolView). length p.log < most_events) (sym c.self.view_is)
    c.requires.room in
    let may_be = subst (λ (p : PoolView). IsEventOf p.season c.args.event) (sym c.self.view_is)
    c.requires.may_be in (
      rw (
        c.change_seats.ensures,
        c.in_ok-push.ensures.items,
        c.apply.ensures,
        c.in_ok-season.ensures,
      ) (changed_sound pool c.args.event c.self.invariant.0 room may_be),
      work_from_start _ _,
    )
