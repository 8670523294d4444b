use Rattle.std.proofs.Common.{◌≡◌, Some, sym, subst}
use Rattle.std.proofs.lemmas.Bool.{both_ways}
use Rattle.branch_pool.specs.inside.States.{PoolView, loan_at, present_epoch}
use Rattle.branch_pool.specs.inside.Steps.{IsPresent, loan_of}
use Rattle.branch_pool.specs.inside.Views.{state_of}
use Rattle.branch_pool.proofs.CallLemmas.{out_is_good, present_is, present_question}
use Rattle.branch_pool.proofs.pool.Pool.is_present.Goals as goal
use Rattle.league_core.proofs.plain.Slots.{found_at}

pub returns-then-is_same_question : goal.returns-then-is_same_question
returns-then-is_same_question c =
    let pool : PoolView = state_of c.self.inside in
    let ticket = c.args.ticket.now in
    let seat = c.index-seat.result.now in
    let out = subst (λ (p : PoolView). loan_at p.loans ticket.number ≡ Some (loan_of ticket))
    (sym c.self.view_is) c.requires.out in
    let epoch = subst (λ (p : PoolView). ticket.epoch ≡ present_epoch p) (sym c.self.view_is)
    c.requires.epoch in
    let found = found_at pool.seats ticket.place seat (out_is_good pool ticket c.self.invariant.0
    out).1
    c.index-seat.ensures in (
      λ h. rw (← c.self.view_is) (present_is pool ticket seat c.self.invariant.0 out epoch found
          (c.is_same_question.ensures.0 c.if-is_same_question.true) (c.equals.ensures.0 h)),
      λ present. c.equals.ensures.1 (sym (subst (λ (p : PoolView). IsPresent p ticket) (sym
          c.self.view_is) present).season),
    )

pub returns-else-is_same_question : goal.returns-else-is_same_question
returns-else-is_same_question c =
    let pool : PoolView = state_of c.self.inside in
    let ticket = c.args.ticket.now in
    let seat = c.index-seat.result.now in
    let out = subst (λ (p : PoolView). loan_at p.loans ticket.number ≡ Some (loan_of ticket))
    (sym c.self.view_is) c.requires.out in
    let epoch = subst (λ (p : PoolView). ticket.epoch ≡ present_epoch p) (sym c.self.view_is)
    c.requires.epoch in
    let found = found_at pool.seats ticket.place seat (out_is_good pool ticket c.self.invariant.0
    out).1
    c.index-seat.ensures in (
      λ h. absurd (both_ways _ c.if-is_same_question.false h),
      λ present. c.is_same_question.ensures.1 (present_question pool ticket seat
          (subst (λ (p : PoolView). IsPresent p ticket) (sym c.self.view_is) present) found),
    )
