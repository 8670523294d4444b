use Rattle.std.proofs.Common.{true, false, sym, ◌∙◌}
use Rattle.tie_bound.proofs.AnswerSetLemmas.{answer_is}
use Rattle.tie_bound.proofs.answer_sets.Answers.of.Goals as goal

pub returns-then-above : goal.returns-then-above
returns-then-above c =
    sym (answer_is c.args.self c.args.club true c.has-below.result c.has-level.result
    (sym c.has-above.ensures ∙ c.if-above.true) (sym c.has-below.ensures)
    (sym c.has-level.ensures))

pub returns-then-below : goal.returns-then-below
returns-then-below c =
    sym (answer_is c.args.self c.args.club false true c.has-level.result
    (sym c.has-above.ensures ∙ c.if-above.false) (sym c.has-below.ensures ∙ c.if-below.true)
    (sym c.has-level.ensures))

pub returns-then-level : goal.returns-then-level
returns-then-level c =
    sym (answer_is c.args.self c.args.club false false true
    (sym c.has-above.ensures ∙ c.if-above.false) (sym c.has-below.ensures ∙ c.if-below.false)
    (sym c.has-level.ensures ∙ c.if-level.true))

pub returns-else-level : goal.returns-else-level
returns-else-level c =
    sym (answer_is c.args.self c.args.club false false false
    (sym c.has-above.ensures ∙ c.if-above.false) (sym c.has-below.ensures ∙ c.if-below.false)
    (sym c.has-level.ensures ∙ c.if-level.false))
