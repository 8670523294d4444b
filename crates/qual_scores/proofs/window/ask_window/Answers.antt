use Rattle.std.proofs.Common.{ap, ◌∙◌, arith}
use Rattle.std.proofs.lemmas.Int.{ints}
use Rattle.qual_scores.specs.inside.Searching.{question_sought}
use Rattle.qual_scores.proofs.PointRangeLemmas.{kept}
use Rattle.qual_scores.proofs.WindowLemmas.{won_says, refuted_says, spent_says, least_full}
use Rattle.qual_scores.proofs.window.ask_window.Goals as goal

pub returns-in-Won : goal.returns-in-Won
returns-in-Won c =
    let least = least_full c.args.sought.claim c.args.points c.requires.in_window.least in
    let most = c.requires.in_window.most in
    won_says c.args.sheet.now c.args.season.now c.args.sought c.args.points _ _ _ _ _
    (c.question_sought-question.ensures
    ∙ ap (question_sought c.args.sought) (kept c.args.points least (omega (arith, ints))))
    c.in_ok-solve_fresh.ensures c.in-Won.is c.window_answer.ensures

pub returns-in-Refuted : goal.returns-in-Refuted
returns-in-Refuted c =
    let least = least_full c.args.sought.claim c.args.points c.requires.in_window.least in
    let most = c.requires.in_window.most in
    refuted_says c.args.sheet.now c.args.season.now c.args.sought c.args.points _ _ _ _
    c.requires.league c.deductions-results.ensures.within c.requires.in_window
    c.requires.of_sheet.club (c.question_sought-question.ensures
    ∙ ap (question_sought c.args.sought) (kept c.args.points least (omega (arith, ints))))
    c.in_ok-solve_fresh.ensures c.in-Refuted.is c.window_answer-in-Refuted.ensures

pub returns : goal.returns
returns c =
    let least = least_full c.args.sought.claim c.args.points c.requires.in_window.least in
    let most = c.requires.in_window.most in
    spent_says c.args.sheet.now c.args.season.now c.args.sought c.args.points _ _ _
    c.in_ok-window_lines-in-Spent.field-0 c.requires.in_window
    (c.question_sought-question.ensures
    ∙ ap (question_sought c.args.sought) (kept c.args.points least (omega (arith, ints))))
    c.in_ok-solve_fresh.ensures c.in-Spent.is c.in_ok-window_lines-in-Spent.ensures
