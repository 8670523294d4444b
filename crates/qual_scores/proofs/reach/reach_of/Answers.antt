use Rattle.std.proofs.Common.{◌≡◌, ◌≤ℤ◌, negsuc, [], ◌∷◌, ap, ◌∙◌, arith}
use Rattle.std.proofs.lemmas.Int.{ints}
use Rattle.score_box.specs.inside.ZoneBoxViews.{ZoneBoxView}
use Rattle.score_box.specs.inside.PlayedViews.{PlayedView}
use Rattle.league_core.specs.game.ClubSets.{clubs_in}
use Rattle.league_core.specs.search.Options.{has_finish}
use Rattle.league_core.specs.search.PointRanges.{least_points_of}
use Rattle.league_core.proofs.HalfLemmas.{root_has_finish}
use Rattle.qual_scores.proofs.PointRangeLemmas.{kept}
use Rattle.qual_scores.proofs.LeastLemmas.{least_reach}
use Rattle.qual_scores.proofs.reach.reach_of.Goals as goal

pub points-range-requires : goal.points-range-requires
points-range-requires c =
    ap (λ (b : ZoneBoxView). has_finish b.sheet b.season b.zone) c.in_ok-whole.ensures
    ∙ root_has_finish _ _

pub returns-clause-least : goal.returns-clause-least
returns-clause-least c =
    let sheet = c.args.sheet.now in
    let season = c.args.season.now in
    let clubs = clubs_in c.single.result in
    let is : c.points-range.result.least
    ≡ least_points_of sheet season [] (c.args.club ∷ []) =
    c.points-range.ensures.least
    ∙ ap (λ (b : ZoneBoxView). least_points_of b.sheet b.season b.zone clubs) c.in_ok-whole.ensures
    ∙ ap (λ (p : PlayedView). least_points_of p.sheet p.season [] clubs) c.in_ok-played.ensures
    ∙ ap (least_points_of sheet season []) c.single.ensures in
    let least = least_reach sheet season c.args.club c.deductions-results.ensures.within in
    let order = c.points-range.ensures.in_order in
    let most = c.points-range.ensures.within.1 in
    let from : negsuc 98 ≤ℤ c.points-range.result.least = omega (arith, ints) in
    let same = kept c.points-range.result.least from (omega (arith, ints)) in
    omega (arith, ints)
