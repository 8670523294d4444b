use Rattle.std.proofs.Common.{◌≡◌, Some, sym, ap, ◌∙◌, subst}
use Rattle.std.specs.Prelude.{IfSome}
use Rattle.std.specs.List.{slice_get}
use Rattle.std.proofs.lemmas.Option.{same_Some}
use Rattle.reason_core.specs.inside.Dones.{IsTrueOf, done_with}
use Rattle.branch_pool.specs.inside.States.{PoolView, present_epoch}
use Rattle.branch_pool.specs.inside.Steps.{IsOwnTicket}
use Rattle.branch_pool.specs.inside.Calls.{example_over}
use Rattle.branch_pool.specs.declared.question_state.QuestionState.{QuestionState}
use Rattle.branch_pool.specs.inside.Views.{state_of}
use Rattle.branch_pool.proofs.CallLemmas.{found_may_be_given, kept_after, may_take_back}
use Rattle.branch_pool.proofs.CallLemmas.{out_is_good}
use Rattle.branch_pool.proofs.FromLemmas.{work_from_set}
use Rattle.branch_pool.proofs.StepLemmas.{kept_sound}
use Rattle.branch_pool.proofs.pool.Pool.keep.Goals as goal
use Rattle.league_core.proofs.plain.Slots.{found_at}

pub settle-left-requires-clause-out : goal.settle-left-requires-clause-out
settle-left-requires-clause-out c =
    let pool : PoolView = state_of c.self.inside in
    let ticket = c.args.ticket.now in
    let own = subst (λ (p : PoolView). IsOwnTicket p ticket) (sym c.self.view_is) c.requires.own in
    let epoch = subst (λ (p : PoolView). ticket.epoch ≡ present_epoch p) (sym c.self.view_is)
    c.requires.epoch in
    let within = (out_is_good pool ticket c.self.invariant.0 own.out).1 in
    (may_take_back pool ticket c.index_mut-seat.result.now c.self.invariant.0 own epoch
    (found_at pool.seats ticket.place c.index_mut-seat.result.now within
    c.index_mut-seat.ensures.value)).out

pub settle-left-requires-clause-some : goal.settle-left-requires-clause-some
settle-left-requires-clause-some c =
    let pool : PoolView = state_of c.self.inside in
    let ticket = c.args.ticket.now in
    let own = subst (λ (p : PoolView). IsOwnTicket p ticket) (sym c.self.view_is) c.requires.own in
    let epoch = subst (λ (p : PoolView). ticket.epoch ≡ present_epoch p) (sym c.self.view_is)
    c.requires.epoch in
    let within = (out_is_good pool ticket c.self.invariant.0 own.out).1 in
    (may_take_back pool ticket c.index_mut-seat.result.now c.self.invariant.0 own epoch
    (found_at pool.seats ticket.place c.index_mut-seat.result.now within
    c.index_mut-seat.ensures.value)).some

pub invariant_of-self : goal.invariant_of-self
invariant_of-self c =
    let pool : PoolView = state_of c.self.inside in
    let ticket = c.args.ticket.now in
    let own = subst (λ (p : PoolView). IsOwnTicket p ticket) (sym c.self.view_is) c.requires.own in
    let epoch = subst (λ (p : PoolView). ticket.epoch ≡ present_epoch p) (sym c.self.view_is)
    c.requires.epoch in
    let sound = subst (λ (p : PoolView). IfSome c.args.finding (IsTrueOf p.sheet ticket.piece))
    (sym c.self.view_is) c.requires.sound in
    let within = (out_is_good pool ticket c.self.invariant.0 own.out).1 in
    let before = c.self.inside.work_from in (
      kept_sound pool ticket (done_with ticket.piece c.args.finding) _ c.self.invariant.0
          (found_may_be_given pool ticket c.args.finding sound)
          (kept_after pool ticket c.args.finding c.index_mut-seat.result.now _ _ own epoch
          (found_at pool.seats ticket.place c.index_mut-seat.result.now within
          c.index_mut-seat.ensures.value) c.settle-left.ensures.seat c.replace-home.ensures.items),
      work_from_set pool.sheet pool.seats before ticket.place _ _ c.self.invariant.1
          c.earlier_of-self-inside.ensures.one c.earlier_of-self-inside.ensures.other,
    )

pub returns-clause-keeps : goal.returns-clause-keeps
returns-clause-keeps c =
    let pool : PoolView = state_of c.self.inside in
    let ticket = c.args.ticket.now in
    let own = subst (λ (p : PoolView). IsOwnTicket p ticket) (sym c.self.view_is) c.requires.own in
    let epoch = subst (λ (p : PoolView). ticket.epoch ≡ present_epoch p) (sym c.self.view_is)
    c.requires.epoch in
    let within = (out_is_good pool ticket c.self.invariant.0 own.out).1 in
    rw (← c.self.view_is) (kept_after pool ticket c.args.finding c.index_mut-seat.result.now _ _ own
    epoch
    (found_at pool.seats ticket.place c.index_mut-seat.result.now within
    c.index_mut-seat.ensures.value) c.settle-left.ensures.seat c.replace-home.ensures.items)

pub returns-clause-example : goal.returns-clause-example
returns-clause-example c =
    let pool : PoolView = state_of c.self.inside in
    let ticket = c.args.ticket.now in
    let own = subst (λ (p : PoolView). IsOwnTicket p ticket) (sym c.self.view_is) c.requires.own in
    let within = (out_is_good pool ticket c.self.invariant.0 own.out).1 in
    let found = found_at pool.seats ticket.place c.index_mut-seat.result.now within
    c.index_mut-seat.ensures.value in
    λ seat is. c.settle-left.ensures.example
    ∙ ap (λ (s : QuestionState). example_over s.example c.args.finding)
    (same_Some c.index_mut-seat.result.now seat (sym found
    ∙ subst (λ (p : PoolView). slice_get p.seats ticket.place ≡ Some seat) (sym c.self.view_is)
    is))
