use Rattle.std.proofs.Common.{◌≡◌, ◌-ℤ◌, ◌∷◌, [], pos, slice_index, ap, ◌∙◌, arith}
use Rattle.std.proofs.lemmas.Int.{ints}
use Rattle.std.proofs.lemmas.List.{length-set}
use Rattle.league_core.specs.search.Options.{options_in}
use Rattle.league_core.specs.search.PointRanges.{range_from, points_together}
use Rattle.near_laws.specs.Fits.{range_in}
use Rattle.near_bound.specs.inside.Points.{range_of_ends, ends_listed, AreEndsOfClub}
use Rattle.near_bound.proofs.PointLemmas.{less_off}
use Rattle.near_bound.proofs.TieLemmas.{each_ends_more}
use Rattle.near_bound.proofs.all_ends.all_ends.Goals as goal

pub loop-club-preserved : goal.loop-club-preserved
loop-club-preserved c =
    let before = c.loop-club.invariant in
    let left = c.args.left.now in
    let club = c.loop-club.club in
    let near = c.all_won-won.ensures.near club in
    let most = c.requires.left.league.limits.most_clubs in
    let low = c.less.ensures.least ∙ ap (λ n. (ends_listed c.all_won-won.result club).least
    -ℤ pos n) c.deducted.ensures in
    let high = c.less.ensures.most ∙ ap (λ n. (ends_listed c.all_won-won.result club).most
    -ℤ pos n) c.deducted.ensures in record {
      long = length-set c.loop-club.ends club c.less.result ∙ before.long;
      near = each_ends_more (λ x ends. AreEndsOfClub ends) c.loop-club.ends club c.less.result
          (omega (arith, before.long, most)) before.near
          (record {
            least = omega (arith, ints, near.least, c.less.ensures.least, c.deducted.type_inv);
            in_order =
                omega (arith, ints, near.in_order, c.less.ensures.least, c.less.ensures.most);
            most = omega (arith, ints, near.most, c.less.ensures.most);
          });
      is = λ zone stands.
          each_ends_more
          (λ x ends. range_of_ends ends ≡ range_in left.sheet.now left.season.now zone x)
          c.loop-club.ends club c.less.result (omega (arith, before.long, most))
          (before.is zone stands)
          (less_off (ends_listed c.all_won-won.result club) c.less.result
          (range_from (points_together (club ∷ [])) left.sheet.now.fixtures
          (options_in left.sheet.now left.season.now zone))
          (slice_index left.season.now.deductions club)
          (c.all_won-won.ensures.range zone stands club) low high);
    }
