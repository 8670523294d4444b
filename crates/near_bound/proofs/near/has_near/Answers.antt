use Rattle.std.proofs.Common.{◌&&◌, sym, ap, ◌∙◌}
use Rattle.near_laws.specs.Near.{has_near_reason, refutes_by_near}
use Rattle.near_bound.proofs.near.has_near.Goals as goal

pub returns-then-has_finish : goal.returns-then-has_finish
unfolding has_near_reason
returns-then-has_finish c = λ zone stands.
    let left = c.args.left.now in
    let finish = sym c.if-has_finish.true ∙ c.has_finish.ensures zone stands in
    c.has_near_by.ensures zone stands (sym finish)
    ∙ ap (λ b. b && refutes_by_near left.sheet.now left.season.now c.args.question.now zone
    c.args.rival) finish

pub returns-else-has_finish : goal.returns-else-has_finish
unfolding has_near_reason
returns-else-has_finish c = λ zone stands.
    let left = c.args.left.now in
    c.if-has_finish.false
    ∙ ap (λ b. b && refutes_by_near left.sheet.now left.season.now c.args.question.now zone
    c.args.rival) (sym c.if-has_finish.false ∙ c.has_finish.ensures zone stands)
