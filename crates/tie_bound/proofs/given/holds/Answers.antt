-- Without a finish no reason holds.
use Rattle.std.proofs.Common.{◌&&◌, sym, ap, ◌∙◌}
use Rattle.league_core.specs.search.Reasons.{has_reason, refutes}
use Rattle.tie_bound.proofs.given.holds.Goals as goal

pub returns-else-has_finish : goal.returns-else-has_finish
unfolding has_reason
returns-else-has_finish c =
    let box = c.args.zone_box.now in
    let says = refutes box.sheet box.season c.args.question.now box.zone c.args.reason.now in
    c.if-has_finish.false
    ∙ sym (ap (λ b. b && says) (sym c.has_finish.ensures ∙ c.if-has_finish.false))
