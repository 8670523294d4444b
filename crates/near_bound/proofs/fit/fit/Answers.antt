use Rattle.std.proofs.Common.{◌≡◌, pos, ap, ◌∙◌, to_z, of_z, w32, arith}
use Rattle.std.proofs.lemmas.Int.{ints}
use Rattle.near_laws.specs.Fits.{can_reach, leaves_points}
use Rattle.league_core.specs.declared.season.Score.{Score}
use Rattle.near_bound.specs.inside.Points.{range_of_ends, by_outcome, is_fit_by}
use Rattle.near_bound.proofs.FitLeftLemmas.{kept_left, home_fit, away_fit, other_fit}
use Rattle.near_bound.proofs.OneScoreLemmas.{one_score_fits}
use Rattle.near_bound.proofs.fit.fit.Goals as goal

pub returns-then-has_one_at_most : goal.returns-then-has_one_at_most
returns-then-has_one_at_most c = λ options left_of.
    let all = range_of_ends c.args.all in
    let points_is : to_z w32 (of_z w32 c.args.points) ≡ c.args.points =
    omega (arith, ints, c.requires.points.0, c.requires.points.1) in
    one_score_fits c.args.left.now c.kept.result all c.args.points c.args.club c.args.fixture
    c.has-stays.result options (c.has_one_at_most.ensures c.if-has_one_at_most.true) left_of
    (c.has-stays.ensures ∙ ap (leaves_points all) points_is) c.kept.ensures

pub returns-then-fixture-club : goal.returns-then-fixture-club
returns-then-fixture-club c = λ options left_of.
    let all = range_of_ends c.args.all in
    let here = range_of_ends c.points_left-here.result in
    let points_is : to_z w32 (of_z w32 c.args.points) ≡ c.args.points =
    omega (arith, ints, c.requires.points.0, c.requires.points.1) in
    let answers : (score : Score)
    → by_outcome c.reaches.result c.reaches-drawn.result c.reaches-lost.result score
    ≡ is_fit_by all c.args.points c.args.club c.args.fixture options score =
    λ score.
    (λ i. by_outcome (c.reaches.ensures i) (c.reaches-drawn.ensures i) (c.reaches-lost.ensures i)
    score)
    ∙ (λ i. by_outcome (can_reach all here (pos 3) (points_is i))
    (can_reach all here (pos 1) (points_is i)) (can_reach all here (pos 0) (points_is i)) score)
    ∙ home_fit all here c.args.points c.args.club c.args.fixture options score
    c.if-fixture-club.true (c.points_left-here.ensures.range options left_of) in
    kept_left c.args.left.now c.kept-then-fixture-club.result
    (is_fit_by all c.args.points c.args.club c.args.fixture options)
    c.reaches.result c.reaches-drawn.result c.reaches-lost.result options left_of
    c.kept-then-fixture-club.ensures answers

pub returns-then-fixture-club-2 : goal.returns-then-fixture-club-2
returns-then-fixture-club-2 c = λ options left_of.
    let all = range_of_ends c.args.all in
    let here = range_of_ends c.points_left-here.result in
    let points_is : to_z w32 (of_z w32 c.args.points) ≡ c.args.points =
    omega (arith, ints, c.requires.points.0, c.requires.points.1) in
    let won = c.reaches-then-fixture-club-2 in
    let answers : (score : Score)
    → by_outcome c.reaches-lost.result c.reaches-drawn.result won.result score
    ≡ is_fit_by all c.args.points c.args.club c.args.fixture options score =
    λ score.
    (λ i. by_outcome (c.reaches-lost.ensures i) (c.reaches-drawn.ensures i) (won.ensures i) score)
    ∙ (λ i. by_outcome (can_reach all here (pos 0) (points_is i))
    (can_reach all here (pos 1) (points_is i)) (can_reach all here (pos 3) (points_is i)) score)
    ∙ away_fit all here c.args.points c.args.club c.args.fixture options score
    c.if-fixture-club.false c.if-fixture-club-2.true
    (c.points_left-here.ensures.range options left_of) in
    kept_left c.args.left.now c.kept-then-fixture-club-2.result
    (is_fit_by all c.args.points c.args.club c.args.fixture options)
    c.reaches-lost.result c.reaches-drawn.result won.result options left_of
    c.kept-then-fixture-club-2.ensures answers

pub returns-else-fixture-club-2 : goal.returns-else-fixture-club-2
returns-else-fixture-club-2 c = λ options left_of.
    let all = range_of_ends c.args.all in
    let here = range_of_ends c.points_left-here.result in
    let points_is : to_z w32 (of_z w32 c.args.points) ≡ c.args.points =
    omega (arith, ints, c.requires.points.0, c.requires.points.1) in
    let lost = c.reaches-lost in
    let answers : (score : Score)
    → by_outcome lost.result lost.result lost.result score
    ≡ is_fit_by all c.args.points c.args.club c.args.fixture options score =
    λ score.
    (λ i. by_outcome (lost.ensures i) (lost.ensures i) (lost.ensures i) score)
    ∙ (λ i. by_outcome (can_reach all here (pos 0) (points_is i))
    (can_reach all here (pos 0) (points_is i)) (can_reach all here (pos 0) (points_is i)) score)
    ∙ other_fit all here c.args.points c.args.club c.args.fixture options score
    c.if-fixture-club.false c.if-fixture-club-2.false
    (c.points_left-here.ensures.range options left_of) in
    kept_left c.args.left.now c.kept-else-fixture-club-2.result
    (is_fit_by all c.args.points c.args.club c.args.fixture options)
    lost.result lost.result lost.result options left_of c.kept-else-fixture-club-2.ensures answers
