use Rattle.std.proofs.Common.{ap, ◌∙◌, arith, w32}
use Rattle.std.proofs.lemmas.Int.{ints, to_z-of_z}
use Rattle.league_core.specs.declared.question.Question.{Question}
use Rattle.league_core.specs.game.Sums.{points_of}
use Rattle.league_core.specs.game.Questions.{is_in_window}
use Rattle.score_box.specs.inside.Ends.{end_at}
use Rattle.example_finish.specs.inside.ProposalViews.{sheet_asked, finish_asked}
use Rattle.example_finish.proofs.example.has_points_in_window.Goals as goal

pub returns : goal.returns
returns c =
    let asked = c.args.proposed.now in
    let question = c.question-question.result.now in
    let near = c.requires.near question.club in
    let kept = to_z-of_z w32 (end_at c.args.points.now question.club)
    (omega (arith, ints, near.0, near.1)) in
    c.is_in_window.ensures
    ∙ ap (is_in_window question) (kept ∙ c.requires.points question.club
    c.question-question.ensures.of_sheet)
    ∙ ap (λ (q : Question). is_in_window q (points_of (sheet_asked asked) (finish_asked asked)
    q.club)) c.question-question.ensures.value
