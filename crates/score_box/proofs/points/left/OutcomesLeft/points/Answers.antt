-- A cell without a score leaves no points.
use Rattle.std.proofs.Common.{sym, ◌∙◌}
use Rattle.score_box.proofs.EndLemmas.{empty_points}
use Rattle.score_box.proofs.LeftLemmas.{none_left, points_left-are}
use Rattle.score_box.proofs.points.left.OutcomesLeft.points.Goals as goal

pub returns-then-are_none : goal.returns-then-are_none
returns-then-are_none c cell are =
    empty_points cell c.args.home c.args.away
    (none_left cell c.args.self are (sym c.are_none.ensures ∙ c.if-are_none.true))

pub returns-else-are_none : goal.returns-else-are_none
returns-else-are_none c cell are =
    points_left-are cell c.args.self c.args.home c.args.away
    (record { least = c.least_of.result; most = c.most_of.result }) are
    (sym c.are_none.ensures ∙ c.if-are_none.false) c.least_of.ensures c.most_of.ensures
