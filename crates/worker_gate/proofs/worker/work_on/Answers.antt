-- The next ticket of the same epoch is of the same season.
use Rattle.std.proofs.Common.{◌≡◌, List, sym, ◌∙◌, subst, arith}
use Rattle.league_core.specs.declared.season.Event.{Event}
use Rattle.league_core.specs.game.Seasons.{season_after}
use Rattle.pool_lock.specs.inside.Lends.{IsWorkAfter}
use Rattle.worker_gate.specs.declared.next.Next.{Next}
use Rattle.worker_gate.specs.inside.Workers.{IsNextFor}
use Rattle.worker_gate.proofs.worker.work_on.Goals as goal
use Rattle.league_core.proofs.plain.Prefixes.{prefix_whole, prefix_onward}

pub loop-preserved : goal.loop-preserved
loop-preserved g c =
    let sheet = g.J.Job.sheet in
    let has = c.loop.invariant.2 in
    let was = has.2 in
    let seen = c.take_turn.new.badge.list in
    let P : Next → Type 0 = λ next. IsNextFor sheet c.take_turn.new.badge next in
    let work : IsWorkAfter sheet seen c.in-Ok.next =
    subst P c.in-Ok.ensures.ok c.take_turn.ensures.next in
    let same : c.loop.badge.list ≡ seen =
    prefix_whole c.loop.badge.list seen c.take_turn.ensures.begins
    (omega (arith, work.epoch, c.in-Ok.ensures.epoch, c.loop.invariant.4, was.epoch)) in
    let S : List Event → Type 0 = λ list. c.loop.ticket.piece.season ≡ season_after sheet list in (
      tt,
      tt,
      (
        c.take_turn.ensures.same.0 ∙ has.0,
        c.take_turn.ensures.same.1 ∙ has.1 ∙ subst S same was.season ∙ sym work.season,
        work,
      ),
      prefix_onward c.args.badge.now.list c.loop.badge.list seen c.loop.invariant.3
          c.take_turn.ensures.begins,
      c.in-Ok.ensures.epoch,
    )
