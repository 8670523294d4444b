use Rattle.std.proofs.Common.{◌≡◌, ◌<◌, IsTrue, length, subst, ◌∙◌, arith, w32}
use Rattle.std.proofs.Common.{to_z, of_z}
use Rattle.std.proofs.lemmas.Int.{ints, to_z-of_z}
use Rattle.std.proofs.lemmas.List.{length-set}
use Rattle.league_core.specs.game.Results.{Results, are_results}
use Rattle.league_core.specs.game.Sheets.{IsWithinLimits}
use Rattle.final_rank.proofs.PointsLemmas.{points_are_few}
use Rattle.example_finish.proofs.ProposedPointLemmas.{put_points, put_near, no_points_near}
use Rattle.example_finish.proofs.points.points_so_far.Goals as goal

pub loop-club-init : goal.loop-club-init
loop-club-init c = record {
  long = c.no_points-points.ensures.long;
  points = λ x below. absurd (omega arith);
  near = no_points_near 200000 c.no_points-points.result c.no_points-points.ensures.none;
}

pub loop-club-preserved : goal.loop-club-preserved
loop-club-preserved c =
    let before = c.loop-club.invariant in
    let club = c.loop-club.club in
    let points = c.loop-club.points in
    let sheet = c.args.zone_box.now.sheet in
    let season = c.args.zone_box.now.season in
    let few = points_are_few sheet season club
    (subst IsWithinLimits c.sheet.ensures.sheet c.sheet.ensures.limits)
    (subst (λ (s : Results). IsTrue (are_results s)) c.season.ensures.season
    c.scores-played.ensures.within) in
    let found = c.points_so_far.result in
    let value = to_z w32 (of_z w32 found) in
    let is = c.points_so_far.ensures in
    let kept : value ≡ found =
    to_z-of_z w32 found (omega (arith, ints, is, few.low, few.high)) in
    let within : club < length points = omega
    (arith, before.long, c.sheet.ensures.limits.most_clubs)
    in
    record {
      long = length-set points club value ∙ before.long;
      points = λ x below.
          put_points sheet season points club value within (kept ∙ is) before.points x
          (omega arith);
      near = put_near 200000 points club value within before.near
          (omega (arith, ints, kept, is, few.low), omega (arith, ints, kept, is, few.high));
    }
