-- Points decide, or they leave it open.
use Rattle.std.proofs.Common.{◌≡◌, ◌&&◌, not, nat_lt, length, sym, ap, ◌∙◌}
use Rattle.league_core.specs.declared.sheet.Sheet.{Sheet}
use Rattle.league_core.specs.game.Sums.{has_club}
use Rattle.league_core.specs.game.ClubSets.{clubs_in}
use Rattle.tie_bound.proofs.RefuteLemmas.{refuted_by_points, open_by_points}
use Rattle.tie_bound.proofs.RefuteLemmas.{above_by_points, below_by_points}
use Rattle.tie_bound.proofs.tie.by_points.Goals as goal

pub returns-then-refutes : goal.returns-then-refutes
returns-then-refutes c =
    let box = c.args.zone_box.now in
    let apart = c.by-apart.result in
    let club = c.args.question.now.club in
    refuted_by_points box c.args.question.now (has_club (clubs_in apart.above))
    (has_club (clubs_in apart.below))
    (λ x. c.by-apart.ensures.above x ∙ above_by_points box club c.args.points c.requires.points x)
    (λ x. c.by-apart.ensures.below x ∙ below_by_points box club c.args.points c.requires.points x)
    (sym c.refutes.ensures ∙ c.if-refutes.true)

pub returns : goal.returns
returns c =
    let box = c.args.zone_box.now in
    let apart = c.by-apart.result in
    let club = c.args.question.now.club in
    let most = c.widened.result in
    let many : c.len-clubs.result ≡ length box.sheet.clubs =
    c.len-clubs.ensures ∙ ap (λ (s : Sheet). length s.clubs) c.sheet.ensures.sheet in
    open_by_points box c.args.question.now (has_club (clubs_in apart.above))
    (has_club (clubs_in apart.below)) (has_club (clubs_in most.above))
    (has_club (clubs_in most.below))
    (λ x. c.by-apart.ensures.above x ∙ above_by_points box club c.args.points c.requires.points x)
    (λ x. c.by-apart.ensures.below x ∙ below_by_points box club c.args.points c.requires.points x)
    (λ x. c.widened.ensures.above x
    ∙ ap (λ n. nat_lt x n && not (has_club (clubs_in apart.below) x)) many)
    (λ x. c.widened.ensures.below x
    ∙ ap (λ n. nat_lt x n && not (has_club (clubs_in apart.above) x)) many)
    (sym c.refutes-2.ensures ∙ c.if-refutes-2.false)
