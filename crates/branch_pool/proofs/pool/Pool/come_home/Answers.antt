use Rattle.std.proofs.Common.{sym, subst}
use Rattle.branch_pool.specs.inside.States.{PoolView}
use Rattle.branch_pool.specs.inside.Steps.{IsOwnTicket}
use Rattle.branch_pool.specs.inside.Views.{state_of}
use Rattle.branch_pool.proofs.CallLemmas.{home_after}
use Rattle.branch_pool.proofs.StepLemmas.{home_sound}
use Rattle.branch_pool.proofs.pool.Pool.come_home.Goals as goal

pub invariant_of-self : goal.invariant_of-self
invariant_of-self c =
    let pool : PoolView = state_of c.self.inside in
    let ticket = c.args.ticket.now in
    let own = subst (λ (p : PoolView). IsOwnTicket p ticket) (sym c.self.view_is) c.requires.own in
    let kept = c.self.invariant in (
      home_sound pool ticket _ kept.0
          (home_after pool ticket _ kept.0 own
          (λ e. c.requires.earlier (rw (← c.self.view_is) e)) c.replace-home.ensures.items),
      kept.1,
    )
