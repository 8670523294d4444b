use Rattle.std.proofs.Common.{◌+◌, [], ◌∷◌, drop, None, Some, ap, sym, ◌∙◌}
use Rattle.par_check.specs.Shapes.{shape_of_scores}
use Rattle.par_check.specs.Outlines.{question_of}
use Rattle.par_check.proofs.OutlineLemmas.{score_counted}
use Rattle.par_check.proofs.item_line.behind_score.Goals as goal

pub returns-in-Some : goal.returns-in-Some
returns-in-Some c = λ row.
    let fixture = c.args.fixture in
    let basis = c.args.report.now.basis in
    ap (λ shape. Some (shape ∷ [])) (c.next_score.ensures row
    ∙ ap (λ it. shape_of_scores (question_of row c.args.claim) (it + 1)
    (drop (it + 1) basis.season.scores)) c.from.ensures)
    ∙ sym (score_counted basis (question_of row c.args.claim) fixture
    (drop (fixture + 1) basis.season.scores) c.args.token.now (Some c.in-Some.field-0)
    c.in-Some.ensures.score)

pub returns-in-None : goal.returns-in-None
returns-in-None c = λ row.
    let fixture = c.args.fixture in
    let basis = c.args.report.now.basis in
    sym (score_counted basis (question_of row c.args.claim) fixture
    (drop (fixture + 1) basis.season.scores) c.args.token.now None c.in-None.ensures.score)
