use Rattle.std.proofs.Common.{sym, ap, drop, ◌+◌, ◌∙◌}
use Rattle.std.specs.Prelude.{position}
use Rattle.std.specs.Option.{option_map}
use Rattle.std.proofs.lemmas.List.{take_rest}
use Rattle.branch_pool.specs.inside.States.{is_workable}
use Rattle.branch_pool.proofs.FromLemmas.{first_from}
use Rattle.branch_pool.proofs.pool.Pool.first_workable.Goals as goal

pub returns-in-Some-clause-place : goal.returns-in-Some-clause-place
returns-in-Some-clause-place c =
    let from = c.self.inside.work_from in
    rw (← c.self.view_is) (ap (option_map (λ more. from + more)) (c.in-Some.ensures.place
    ∙ ap (position (is_workable c.self.inside.sheet)) (take_rest c.deref.result.now from
    ∙ ap (drop from) c.deref.ensures.value))
    ∙ sym (first_from c.self.inside.sheet c.self.inside.seats.items from c.self.invariant.1))

pub returns-in-None-clause-place : goal.returns-in-None-clause-place
returns-in-None-clause-place c =
    let from = c.self.inside.work_from in
    rw (← c.self.view_is) (ap (option_map (λ more. from + more)) (c.in-None.ensures.place
    ∙ ap (position (is_workable c.self.inside.sheet)) (take_rest c.deref.result.now from
    ∙ ap (drop from) c.deref.ensures.value))
    ∙ sym (first_from c.self.inside.sheet c.self.inside.seats.items from c.self.invariant.1))
