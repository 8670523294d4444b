use Rattle.std.proofs.Common.{sym, ◌∙◌}
use Rattle.answer_rows.proofs.PartLemmas.{spent_part}
use Rattle.verdict_run.proofs.part.spent_or_fresh.Goals as goal

pub returns-then-branch-clause-part : goal.returns-then-branch-clause-part
returns-then-branch-clause-part c =
    spent_part c.args.sheet.now c.args.season.now c.args.question.now c.args.tree.now c.spent.result
    c.requires.spent (sym c.in_ok-all_new.ensures ∙ c.if-branch.true) c.spent.ensures.kind
    c.spent.ensures.lines

pub returns-in-Spent-clause-part : goal.returns-in-Spent-clause-part
returns-in-Spent-clause-part c =
    let solved = rw c.in-Spent.is at c.in_ok-finish.ensures in
    spent_part c.args.sheet.now c.args.season.now c.args.question.now c.in-Spent.tree
    c.spent-in-Spent.result solved.0 solved.1 c.spent-in-Spent.ensures.kind
    c.spent-in-Spent.ensures.lines
