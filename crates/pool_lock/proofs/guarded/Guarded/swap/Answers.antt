use Rattle.std.proofs.Common.{List, sym, ap, ◌∙◌, subst}
use Rattle.league_core.specs.declared.season.Event.{Event}
use Rattle.epoch_cancel.specs.inside.Seats.{EyeView}
use Rattle.pool_lock.specs.inside.Badges.{BadgeView}
use Rattle.pool_lock.specs.inside.Lends.{TakesFrom}
use Rattle.pool_lock.specs.inside.States.{GuardedView}
use Rattle.pool_lock.proofs.LentLemmas.{taken_from}
use Rattle.pool_lock.proofs.guarded.Guarded.swap.Goals as goal

-- what is taken is taken from the pool to which the ticket was given back
pub returns-clause-lent : goal.returns-clause-lent
returns-clause-lent g c =
    subst (λ (events : List Event). TakesFrom g.J.Job.sheet g.J.Job.questions events
    c.take_next-took.result) (sym (ap (λ (badge : BadgeView). badge.list) c.note.ensures))
    (taken_from g.J.Job.sheet g.J.Job.questions c.seen.new.eye.list c.give_leaving-gave.new.self
    c.take_next-took.new.self.pool c.self.inside.feeder_busy c.take_next-took.result
    c.recall_invariant.ensures.sound (c.give_leaving-gave.ensures.sheet ∙ c.self.invariant.3)
    (c.give_leaving-gave.ensures.questions ∙ c.self.invariant.4)
    (sym c.take_next-took.ensures.log
    ∙ sym (ap (λ (held : GuardedView). held.pool.log) c.self-2.view_is)
    ∙ sym c.self-2.invariant.1 ∙ sym (ap (λ (eye : EyeView). eye.list) c.seen.ensures.eye))
    c.take_next-took.ensures.taking (λ busy. (c.take_next-took.ensures.unchanged busy).0))
