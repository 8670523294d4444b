use Rattle.std.proofs.Common.{◌≤◌, ℕ, ◌/◌, rules, ap, ◌∙◌, sym, subst}
use Rattle.epoch_cancel.specs.declared.view.View.{View}
use Rattle.epoch_cancel.proofs.MoveLemmas.{finds}
use Rattle.epoch_cancel.proofs.looking.look.Goals as goal

pub load-requires : goal.load-requires
load-requires c = (search rules, search rules, finds _ _ _)

pub returns-clause-moves : goal.returns-clause-moves
returns-clause-moves c =
    let then = c.load.ensures.2 in
    let log = then.3 in
    let newest = ap (λ (v : View). v.newest) then.0 in
    rw (← c.eye.view_is) (record {
      log = log.0;
      table = c.load.ensures.0;
      list = ap (λ (v : View). v.list) then.0;
      loads = ap (λ (v : View). v.loads) then.0;
      word = newest ∙ ap (λ (n : ℕ). n / 4294967296) log.1;
      epoch = newest ∙ log.2;
      begins = log.3;
      later = subst (λ (n : ℕ). c.eye.inside.seat.me.0.newest ≤ n) (sym newest) then.2;
    })
