use Rattle.std.proofs.Common.{◌≡◌, Some, length, refl, sym, ap, ◌∙◌, subst, arith}
use Rattle.std.proofs.lemmas.Option.{same_Some}
use Rattle.branch_pool.specs.declared.ticket.Ticket.{Ticket}
use Rattle.branch_pool.specs.inside.States.{PoolView, free_number, with_loan}
use Rattle.branch_pool.specs.inside.Calls.{next_place}
use Rattle.branch_pool.specs.inside.Views.{state_of}
use Rattle.branch_pool.proofs.SlotLemmas.{free_number-le}
use Rattle.branch_pool.proofs.FromLemmas.{work_from_set}
use Rattle.branch_pool.proofs.CallLemmas.{lent_after, may_lend, next_within, same_after}
use Rattle.branch_pool.proofs.GoodLemmas.{taken_is_fit}
use Rattle.branch_pool.proofs.StepLemmas.{taken_sound}
use Rattle.branch_pool.proofs.pool.Pool.lend_at.Goals as goal
use Rattle.league_core.proofs.plain.Slots.{found_at, set_again}

pub lend-requires-clause-open_leaf : goal.lend-requires-clause-open_leaf
lend-requires-clause-open_leaf c =
    let pool : PoolView = state_of c.self.inside in
    let next = subst (λ (p : PoolView). next_place p ≡ Some c.args.place) (sym c.self.view_is)
    c.requires.next in
    let seat = c.index_mut-seat.result.now in
    let found = found_at pool.seats c.args.place seat (next_within pool c.args.place next)
    c.index_mut-seat.ensures.value in
    (may_lend pool c.args.place seat c.self.invariant.0 next found).some

pub lend-requires-clause-free : goal.lend-requires-clause-free
lend-requires-clause-free c =
    let pool : PoolView = state_of c.self.inside in
    let next = subst (λ (p : PoolView). next_place p ≡ Some c.args.place) (sym c.self.view_is)
    c.requires.next in
    let seat = c.index_mut-seat.result.now in
    let found = found_at pool.seats c.args.place seat (next_within pool c.args.place next)
    c.index_mut-seat.ensures.value in
    rw (c.free_number-number.ensures, c.as_slice.ensures)
    (may_lend pool c.args.place seat c.self.invariant.0 next found).free

pub invariant_of-self-in_err-zone : goal.invariant_of-self-in_err-zone
invariant_of-self-in_err-zone c = (
  same_after (state_of c.self.inside) _ _ c.self.invariant.0
      (set_again c.self.inside.seats.items c.args.place c.index_mut-seat.result.now c.lend.new.self
      c.index_mut-seat.ensures.value c.in_err-zone.ensures.err) c.in_ok-reserve.ensures.items,
  rw (set_again c.self.inside.seats.items c.args.place c.index_mut-seat.result.now c.lend.new.self
      c.index_mut-seat.ensures.value c.in_err-zone.ensures.err) c.self.invariant.1,
)

pub put_loan-requires-clause-in_range : goal.put_loan-requires-clause-in_range
put_loan-requires-clause-in_range c =
    rw (c.free_number-number.ensures, c.as_slice.ensures, c.in_ok-reserve.ensures.items)
    (free_number-le c.self.inside.loans.items)

pub invariant_of-self-2 : goal.invariant_of-self-2
invariant_of-self-2 c =
    let pool : PoolView = state_of c.self.inside in
    let next = subst (λ (p : PoolView). next_place p ≡ Some c.args.place) (sym c.self.view_is)
    c.requires.next in
    let seat = c.index_mut-seat.result.now in
    let found = found_at pool.seats c.args.place seat (next_within pool c.args.place next)
    c.index_mut-seat.ensures.value in
    let ticket : Ticket = record {
      number = c.free_number-number.result;
      epoch = c.len-epoch.result;
      place = c.args.place;
      piece = record {
        season = c.in-Some.season;
        question = seat.question;
        zone =
            c.in_ok-zone.zone;
      };
    } in
    let season : c.in-Some.season ≡ pool.season = same_Some c.in-Some.season pool.season
    (c.in-Some.ensures.value ∙ c.requires.season
    ∙ ap (λ (p : PoolView). Some p.season) (sym c.self.view_is)) in
    let epoch : c.len-epoch.result ≡ length c.self.inside.log.items = omega arith in
    let lends = lent_after pool ticket seat c.lend.new.self c.put_loan.new.loans.items
    c.in_ok-zone.kept next found (c.free_number-number.ensures ∙ ap free_number c.as_slice.ensures)
    c.in_ok-zone.ensures.ok epoch season refl
    (c.put_loan.ensures ∙ ap (λ loans. with_loan loans c.free_number-number.result
    (record { epoch = c.len-epoch.result; place = c.args.place; zone = c.in_ok-zone.kept }))
    c.in_ok-reserve.ensures.items) in
    let before = c.self.inside.work_from in (
      taken_sound pool ticket _ c.self.invariant.0 lends.takes,
      work_from_set pool.sheet pool.seats before c.args.place _ _ c.self.invariant.1
          c.earlier_of-self-inside.ensures.one c.earlier_of-self-inside.ensures.other,
    )

pub returns-clause-ok : goal.returns-clause-ok
returns-clause-ok c =
    let pool : PoolView = state_of c.self.inside in
    let next = subst (λ (p : PoolView). next_place p ≡ Some c.args.place) (sym c.self.view_is)
    c.requires.next in
    let seat = c.index_mut-seat.result.now in
    let found = found_at pool.seats c.args.place seat (next_within pool c.args.place next)
    c.index_mut-seat.ensures.value in
    let ticket : Ticket = record {
      number = c.free_number-number.result;
      epoch = c.len-epoch.result;
      place = c.args.place;
      piece = record {
        season = c.in-Some.season;
        question = seat.question;
        zone =
            c.in_ok-zone.zone;
      };
    } in
    let season : c.in-Some.season ≡ pool.season = same_Some c.in-Some.season pool.season
    (c.in-Some.ensures.value ∙ c.requires.season
    ∙ ap (λ (p : PoolView). Some p.season) (sym c.self.view_is)) in
    let epoch : c.len-epoch.result ≡ length c.self.inside.log.items = omega arith in
    let lends = lent_after pool ticket seat c.lend.new.self c.put_loan.new.loans.items
    c.in_ok-zone.kept next found (c.free_number-number.ensures ∙ ap free_number c.as_slice.ensures)
    c.in_ok-zone.ensures.ok epoch season refl
    (c.put_loan.ensures ∙ ap (λ loans. with_loan loans c.free_number-number.result
    (record { epoch = c.len-epoch.result; place = c.args.place; zone = c.in_ok-zone.kept }))
    c.in_ok-reserve.ensures.items) in
    rw (← c.self.view_is) lends

pub returns-clause-fit : goal.returns-clause-fit
returns-clause-fit c =
    let pool : PoolView = state_of c.self.inside in
    let next = subst (λ (p : PoolView). next_place p ≡ Some c.args.place) (sym c.self.view_is)
    c.requires.next in
    let seat = c.index_mut-seat.result.now in
    let found = found_at pool.seats c.args.place seat (next_within pool c.args.place next)
    c.index_mut-seat.ensures.value in
    let ticket : Ticket = record {
      number = c.free_number-number.result;
      epoch = c.len-epoch.result;
      place = c.args.place;
      piece = record {
        season = c.in-Some.season;
        question = seat.question;
        zone =
            c.in_ok-zone.zone;
      };
    } in
    let season : c.in-Some.season ≡ pool.season = same_Some c.in-Some.season pool.season
    (c.in-Some.ensures.value ∙ c.requires.season
    ∙ ap (λ (p : PoolView). Some p.season) (sym c.self.view_is)) in
    let epoch : c.len-epoch.result ≡ length c.self.inside.log.items = omega arith in
    let lends = lent_after pool ticket seat c.lend.new.self c.put_loan.new.loans.items
    c.in_ok-zone.kept next found (c.free_number-number.ensures ∙ ap free_number c.as_slice.ensures)
    c.in_ok-zone.ensures.ok epoch season refl
    (c.put_loan.ensures ∙ ap (λ loans. with_loan loans c.free_number-number.result
    (record { epoch = c.len-epoch.result; place = c.args.place; zone = c.in_ok-zone.kept }))
    c.in_ok-reserve.ensures.items) in
    taken_is_fit pool ticket _ c.self.invariant.0 lends.takes
