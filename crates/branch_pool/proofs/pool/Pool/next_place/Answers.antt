use Rattle.std.proofs.Common.{◌≡◌, None, Some, sym, ap, arith, drop, length, subst, ◌+◌, ◌∙◌}
use Rattle.std.specs.Prelude.{position}
use Rattle.std.specs.Option.{option_or, option_map}
use Rattle.std.proofs.lemmas.List.{take_rest}
use Rattle.branch_pool.specs.inside.States.{PoolView, is_workable}
use Rattle.branch_pool.specs.inside.Calls.{is_untouched}
use Rattle.branch_pool.specs.inside.Views.{state_of}
use Rattle.branch_pool.proofs.CallLemmas.{no_next}
use Rattle.branch_pool.proofs.FromLemmas.{work_from_end, work_from_first}
use Rattle.branch_pool.proofs.NextLemmas.{next_from, next_none}
use Rattle.branch_pool.proofs.pool.Pool.next_place.Goals.{in-Some-untouched_among, in-None}
use Rattle.branch_pool.proofs.pool.Pool.next_place.Goals as goal

pub invariant_of-self : goal.invariant_of-self
invariant_of-self c =
    let pool : PoolView = state_of c.self.inside in
    let none = subst (λ (p : PoolView). position (is_workable p.sheet) p.seats ≡ None)
    (sym c.self.view_is) (sym c.in_default.ensures.place) in
    let long : c.len-self-inside.result ≡ length pool.seats = omega arith in
    (c.self.invariant.0, rw long (work_from_end pool.sheet pool.seats none))

pub invariant_of-self-2 : goal.invariant_of-self-2
invariant_of-self-2 c =
    let pool : PoolView = state_of c.self.inside in
    let first = c.in-Some.first in
    let at = subst (λ (p : PoolView). position (is_workable p.sheet) p.seats ≡ Some first)
    (sym c.self.view_is) (sym c.in-Some.ensures.place) in
    (c.self.invariant.0, work_from_first pool.sheet pool.seats first at)

pub returns-in_default-clause-next : goal.returns-in_default-clause-next
returns-in_default-clause-next c = sym (next_none c.args.self.now (sym c.in_default.ensures.place))

pub returns-in_default-clause-none : goal.returns-in_default-clause-none
returns-in_default-clause-none c =
    no_next c.args.self.now (next_none c.args.self.now (sym c.in_default.ensures.place))

pub returns-clause-next : goal.returns-clause-next
returns-clause-next c =
    let pool : PoolView = state_of c.self.inside in
    let first = c.in-Some.first in
    let at = subst (λ (p : PoolView). position (is_workable p.sheet) p.seats ≡ Some first)
    (sym c.self.view_is) (sym c.in-Some.ensures.place) in
    let seen = next_from pool first at in
    let looked = c.untouched_among.ensures.place
    ∙ ap (position (is_untouched pool.sheet)) (take_rest c.deref.result.now first
    ∙ ap (drop first) c.deref.ensures.value) in
    rw (← c.self.view_is) (elim c.match-untouched_among.branch [
      | in-Some-untouched_among w ↦ w.result-is
          ∙ ap (λ o. option_or (option_map (λ more. first + more) o) (Some first))
          (sym w.in-Some-untouched_among.is ∙ looked) ∙ sym seen
      | in-None w ↦ w.result-is
          ∙ ap (λ o. option_or (option_map (λ more. first + more) o) (Some first))
          (sym w.in-None.is ∙ looked) ∙ sym seen
    ])
