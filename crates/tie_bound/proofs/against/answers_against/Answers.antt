use Rattle.std.proofs.Common.{◌≡◌, ◌≤◌, ◌&&◌, nat_lt, length, ap, ◌∙◌, arith}
use Rattle.league_core.specs.declared.sheet.Sheet.{Sheet}
use Rattle.league_core.specs.game.ClubSets.{clubs_in}
use Rattle.league_core.specs.search.SureOrder.{is_level}
use Rattle.tie_bound.specs.inside.Answers.{answer_at, AreLevelIn}
use Rattle.tie_bound.proofs.TakenLemmas.{sure_order-is}
use Rattle.tie_bound.proofs.against.answers_against.Goals as goal

pub returns : goal.returns
returns c = λ rival low asked.
    let box = c.args.zone_box.now in
    let points = c.args.points in
    let many : c.len-clubs.result ≡ length box.sheet.clubs =
    c.len-clubs.ensures ∙ ap (λ (s : Sheet). length s.clubs) c.sheet.ensures.sheet in
    let few : length box.sheet.clubs ≤ 24 = omega
    (arith, many, c.sheet.ensures.limits.most_clubs) in
    let level : AreLevelIn (length box.sheet.clubs) points (clubs_in c.those_level-group.result) =
    λ x. c.those_level-group.ensures x
    ∙ ap (λ n. nat_lt x n && is_level (answer_at points x)) many in
    sure_order-is box c.args.club c.those_level-group.result.bits rival points
    c.take_criteria.result few c.requires.points level low (c.take_criteria.ensures rival low asked)
