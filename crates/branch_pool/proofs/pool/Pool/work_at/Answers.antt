use Rattle.std.proofs.Common.{◌≡◌, Some, refl, sym, ap, ◌∙◌, subst}
use Rattle.branch_pool.specs.inside.States.{PoolView, free_number, out_count}
use Rattle.branch_pool.specs.inside.QuestionStates.{MayLend, WorksSeat, with_slot}
use Rattle.branch_pool.specs.inside.Calls.{next_place}
use Rattle.branch_pool.specs.inside.Views.{state_of}
use Rattle.branch_pool.proofs.FromLemmas.{work_from_set}
use Rattle.branch_pool.proofs.CallLemmas.{may_lend, next_within}
use Rattle.branch_pool.proofs.GoodLemmas.{seat_question}
use Rattle.branch_pool.proofs.RunLemmas.{turn_sound}
use Rattle.branch_pool.proofs.WorkLemmas.{out_count-slot, same_but_seats, worked_after}
use Rattle.branch_pool.proofs.pool.Pool.work_at.Goals as goal
use Rattle.league_core.proofs.plain.Slots.{found_at}

pub work-requires-clause-may_lend : goal.work-requires-clause-may_lend
work-requires-clause-may_lend g c =
    let pool : PoolView = state_of c.self.inside in
    let next = subst (λ (p : PoolView). next_place p ≡ Some c.args.place) (sym c.self.view_is)
    c.requires.next in
    let seat = c.index_mut-seat.result.now in
    let found = found_at pool.seats c.args.place seat (next_within pool c.args.place next)
    c.index_mut-seat.ensures.value in
    subst (λ n. MayLend n seat)
    (sym (c.free_number-number.ensures ∙ ap free_number c.as_slice.ensures))
    (may_lend pool c.args.place seat c.self.invariant.0 next found)

pub work-requires-clause-question : goal.work-requires-clause-question
work-requires-clause-question g c =
    let pool : PoolView = state_of c.self.inside in
    let next = subst (λ (p : PoolView). next_place p ≡ Some c.args.place) (sym c.self.view_is)
    c.requires.next in
    let seat = c.index_mut-seat.result.now in
    let found = found_at pool.seats c.args.place seat (next_within pool c.args.place next)
    c.index_mut-seat.ensures.value in
    let same_sheet : g.W.Solver.sheet c.args.worker.now ≡ pool.sheet
    = c.requires.sheet ∙ ap (λ (p : PoolView). p.sheet) (sym c.self.view_is) in
    rw same_sheet (seat_question pool c.args.place seat c.self.invariant.0 found)

pub invariant_of-self-2 : goal.invariant_of-self-2
invariant_of-self-2 g c =
    let pool : PoolView = state_of c.self.inside in
    let next = subst (λ (p : PoolView). next_place p ≡ Some c.args.place) (sym c.self.view_is)
    c.requires.next in
    let seat = c.index_mut-seat.result.now in
    let found = found_at pool.seats c.args.place seat (next_within pool c.args.place next)
    c.index_mut-seat.ensures.value in
    let same_sheet : g.W.Solver.sheet c.args.worker.now ≡ pool.sheet
    = c.requires.sheet ∙ ap (λ (p : PoolView). p.sheet) (sym c.self.view_is) in
    let same_season : g.W.Solver.season c.args.worker.now ≡ pool.season
    = c.requires.season ∙ ap (λ (p : PoolView). p.season) (sym c.self.view_is) in
    let number = c.free_number-number.ensures ∙ ap free_number c.as_slice.ensures in
    let worked : WorksSeat pool.sheet pool.season (free_number pool.loans) seat c.work.new.self =
    subst (λ n. WorksSeat pool.sheet pool.season n seat c.work.new.self) number
    (subst (λ s. WorksSeat pool.sheet s c.free_number-number.result seat c.work.new.self)
    same_season
    (subst (λ s. WorksSeat s (g.W.Solver.season c.args.worker.now) c.free_number-number.result seat
    c.work.new.self) same_sheet c.in_ok-work.ensures.ok)) in
    let loans = c.keep_slot.ensures
    ∙ ap (λ ls. with_slot ls c.free_number-number.result) c.in_ok-reserve.ensures.items
    ∙ ap (with_slot pool.loans) number in
    let turn = worked_after pool c.args.place seat c.work.new.self c.keep_slot.new.loans.items
    c.self.invariant.0 next found worked loans in
    let before = c.self.inside.work_from in (
      turn_sound pool _ c.self.invariant.0 turn,
      work_from_set pool.sheet pool.seats before c.args.place _ _ c.self.invariant.1
          c.earlier_of-self-inside.ensures.one c.earlier_of-self-inside.ensures.other,
    )

pub returns-clause-ok : goal.returns-clause-ok
returns-clause-ok g c =
    let pool : PoolView = state_of c.self.inside in
    let next = subst (λ (p : PoolView). next_place p ≡ Some c.args.place) (sym c.self.view_is)
    c.requires.next in
    let seat = c.index_mut-seat.result.now in
    let found = found_at pool.seats c.args.place seat (next_within pool c.args.place next)
    c.index_mut-seat.ensures.value in
    let same_sheet : g.W.Solver.sheet c.args.worker.now ≡ pool.sheet
    = c.requires.sheet ∙ ap (λ (p : PoolView). p.sheet) (sym c.self.view_is) in
    let same_season : g.W.Solver.season c.args.worker.now ≡ pool.season
    = c.requires.season ∙ ap (λ (p : PoolView). p.season) (sym c.self.view_is) in
    let number = c.free_number-number.ensures ∙ ap free_number c.as_slice.ensures in
    let worked : WorksSeat pool.sheet pool.season (free_number pool.loans) seat c.work.new.self =
    subst (λ n. WorksSeat pool.sheet pool.season n seat c.work.new.self) number
    (subst (λ s. WorksSeat pool.sheet s c.free_number-number.result seat c.work.new.self)
    same_season
    (subst (λ s. WorksSeat s (g.W.Solver.season c.args.worker.now) c.free_number-number.result seat
    c.work.new.self) same_sheet c.in_ok-work.ensures.ok)) in
    let loans = c.keep_slot.ensures
    ∙ ap (λ ls. with_slot ls c.free_number-number.result) c.in_ok-reserve.ensures.items
    ∙ ap (with_slot pool.loans) number in
    let turn = worked_after pool c.args.place seat c.work.new.self c.keep_slot.new.loans.items
    c.self.invariant.0 next found worked loans in
    rw (← c.self.view_is) turn

pub returns-clause-unchanged : goal.returns-clause-unchanged
returns-clause-unchanged g c =
    let pool : PoolView = state_of c.self.inside in
    let number = c.free_number-number.ensures ∙ ap free_number c.as_slice.ensures in
    let loans = c.keep_slot.ensures
    ∙ ap (λ ls. with_slot ls c.free_number-number.result) c.in_ok-reserve.ensures.items
    ∙ ap (with_slot pool.loans) number in
    rw (← c.self.view_is) (same_but_seats pool _ _
    (ap out_count loans ∙ out_count-slot pool.loans (free_number pool.loans) refl))
