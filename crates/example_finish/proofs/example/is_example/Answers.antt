use Rattle.std.proofs.Common.{◌≡◌, ◌&&◌, Bool, true, length, sym, ap, ◌∙◌}
use Rattle.league_core.specs.game.Sums.{points_of}
use Rattle.league_core.specs.game.Questions.{is_in_window, is_on_side}
use Rattle.league_core.specs.game.Ranking.{is_inside}
use Rattle.league_core.specs.inside.LotsFor.{lots_for_claim}
use Rattle.example_finish.specs.inside.ProposalViews.{ProposedView, sheet_asked, finish_asked}
use Rattle.example_finish.proofs.example.is_example.Goals as goal

pub returns-then-has_points_in_window : goal.returns-then-has_points_in_window
returns-then-has_points_in_window c =
    let window : ProposedView → Bool = λ asked. is_in_window asked.question
    (points_of (sheet_asked asked) (finish_asked asked) asked.question.club) in
    let inside : ProposedView → Bool = λ asked. is_inside (sheet_asked asked) (finish_asked asked)
    (lots_for_claim (length (sheet_asked asked).clubs) asked.question.club asked.question.claim)
    asked.question.club asked.question.line in
    let asked : ProposedView = record {
      setting = c.args.zone_box.now;
      question =
          c.args.question.now;
    } in
    let claim = asked.question.claim in
    let in_window : window asked ≡ true =
    sym (c.has_points_in_window.ensures ∙ ap window c.of-proposed.ensures)
    ∙ c.if-has_points_in_window.true in
    c.is_on_side.ensures
    ∙ ap (λ b. is_on_side b claim) (c.is_inside.ensures ∙ ap inside c.of-proposed.ensures)
    ∙ sym (ap (λ b. b && is_on_side (inside asked) claim) in_window)
