use Rattle.std.proofs.Common.{sym, ◌∙◌}
use Rattle.verdict_run.proofs.SettledLemmas.{only_seat}
use Rattle.verdict_run.proofs.ShownLemmas.{only_won, only_refuted, only_spent}
use Rattle.verdict_run.proofs.fresh.kept_of.Goals as goal

pub returns-in-Some-example : goal.returns-in-Some-example
returns-in-Some-example c = λ question asked.
    only_won c.args.pool question c.in-Some.seat c.in-Some-example.field-0
    (only_seat c.args.pool question _ c.in-Some.seat c.recall_invariant.ensures.sound asked
    c.requires.settled c.requires.all_new (sym c.into_seats-seats.ensures.seats ∙
    c.in-Some.ensures.items))
    c.in-Some-example.is

pub returns-in-None : goal.returns-in-None
returns-in-None c = λ question asked.
    only_refuted c.args.pool question c.in-Some.seat c.recall_invariant.ensures.sound
    (only_seat c.args.pool question _ c.in-Some.seat c.recall_invariant.ensures.sound asked
    c.requires.settled c.requires.all_new (sym c.into_seats-seats.ensures.seats ∙
    c.in-Some.ensures.items))
    (sym c.if-is_refuted.ensures)

pub returns : goal.returns
returns c = λ question asked.
    only_spent c.args.pool question c.in-Some.seat c.recall_invariant.ensures.sound
    (only_seat c.args.pool question _ c.in-Some.seat c.recall_invariant.ensures.sound asked
    c.requires.settled c.requires.all_new (sym c.into_seats-seats.ensures.seats ∙
    c.in-Some.ensures.items))
    c.in-None.is (sym c.if-is_refuted.ensures)
