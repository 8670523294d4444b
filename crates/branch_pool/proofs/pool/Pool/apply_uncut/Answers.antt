use Rattle.std.proofs.Common.{◌<◌, length, sym, subst}
use Rattle.league_core.specs.game.Limits.{most_events}
use Rattle.league_core.specs.game.Seasons.{IsEventOf}
use Rattle.branch_pool.specs.inside.States.{PoolView}
use Rattle.branch_pool.specs.inside.Views.{state_of}
use Rattle.branch_pool.proofs.FromLemmas.{work_from_start}
use Rattle.branch_pool.proofs.StepLemmas.{changed_sound}
use Rattle.branch_pool.proofs.pool.Pool.apply_uncut.Goals as goal

pub invariant_of-self-2 : goal.invariant_of-self-2
invariant_of-self-2 c =
    let pool : PoolView = state_of c.self.inside in
    let room = subst (λ (p : PoolView). length p.log < most_events) (sym c.self.view_is)
    c.requires.room in
    let may_be = subst (λ (p : PoolView). IsEventOf p.season c.args.event) (sym c.self.view_is)
    c.requires.may_be in (
      rw (c.change_uncut.ensures, c.in_ok-push.ensures.items, c.apply.ensures)
          (changed_sound pool c.args.event c.self.invariant.0 room may_be),
      work_from_start _ _,
    )
