use Rattle.std.proofs.Common.{◌≡◌, ap, ◌∙◌, [], ◌∷◌, length}
use Rattle.verdict_run.proofs.ShownLemmas.{works_new}
use Rattle.verdict_run.proofs.ReportedLemmas.{unreported_new, whole_reported, solved_same}
use Rattle.verdict_run.proofs.fresh.solve_fresh.Goals as goal

pub kept_of-requires-clause-all_new : goal.kept_of-requires-clause-all_new
kept_of-requires-clause-all_new c =
    let whole = c.args.season.now in
    works_new c.report_season.new.pool c.in_ok-pool-2.pool c.in_ok-pool-2.ensures.work
    (unreported_new whole (length whole.deductions) (length whole.scores) c.report_season.new.pool
    c.in_ok-report_season.ensures.reported)

pub returns : goal.returns
returns c =
    let whole = c.args.season.now in
    let same = c.in_ok-pool-2.ensures.same in
    let reported = c.in_ok-report_season.ensures in
    let begun = c.in_ok-pool.ensures in
    let asked : c.in_ok-pool-2.pool.questions ≡ c.args.question.now ∷ [] =
    same.questions ∙ reported.same.questions ∙ ap (λ pool. pool.questions) begun
    ∙ c.in_ok-asked.ensures.items in
    solved_same c.args.sheet.now c.in_ok-pool-2.pool.sheet whole c.in_ok-pool-2.pool.season
    c.args.question.now c.kept_of.result
    (same.sheet ∙ reported.same.sheet ∙ ap (λ pool. pool.sheet) begun ∙ c.in_ok-sheet.ensures)
    (same.season ∙ reported.reported.season ∙ whole_reported whole)
    (c.kept_of.ensures c.args.question.now asked)
