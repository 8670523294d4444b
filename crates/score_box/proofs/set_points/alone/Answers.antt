-- One club of the set more.
use Rattle.std.proofs.Common.{[], ◌∷◌, pos, ◌-ℤ◌, length, slice_index, ap, ◌∙◌, arith}
use Rattle.std.proofs.lemmas.Int.{ints}
use Rattle.std.proofs.lemmas.List.{length-append}
use Rattle.league_core.proofs.ClubCountLemmas.{few_members}
use Rattle.league_core.proofs.PointRangeLemmas.{total_of-append}
use Rattle.league_core.proofs.WalkLemmas.{comes_to, all_seen}
use Rattle.score_box.specs.inside.Ends.{end_at}
use Rattle.score_box.proofs.set_points.alone.Goals as goal

pub with-points-requires-clause-least : goal.with-points-requires-clause-least
with-points-requires-clause-least c =
    let met = comes_to c.args.set c.loop-club.yielded c.in-Some.club
    (c.into_iter-club-iterator.ensures.into_iter_gives ∙ c.clubs-club-items.ensures.all)
    c.loop-club.yielded_by c.in-Some.ensures.steps in
    let near = c.loop-club.invariant.near_least in
    (omega (arith, ints, near.0, met.few), omega (arith, ints, near.1, met.few))

pub with-points-requires-clause-most : goal.with-points-requires-clause-most
with-points-requires-clause-most c =
    let met = comes_to c.args.set c.loop-club.yielded c.in-Some.club
    (c.into_iter-club-iterator.ensures.into_iter_gives ∙ c.clubs-club-items.ensures.all)
    c.loop-club.yielded_by c.in-Some.ensures.steps in
    let near = c.loop-club.invariant.near_most in
    (omega (arith, ints, near.0, met.few), omega (arith, ints, near.1, met.few))

pub loop-club-preserved : goal.loop-club-preserved
loop-club-preserved c =
    let seen = c.loop-club.yielded in
    let club = c.in-Some.club in
    let lows = c.args.ends.now.lows in
    let highs = c.args.ends.now.highs in
    let offs = c.args.deductions.now in
    let long = length-append seen (club ∷ []) in
    let own = c.own_points.ensures in
    let least = c.with-points.ensures.least in
    let most = c.with-points.ensures.most in
    record {
      least =
          let more = total_of-append (λ x. end_at lows x -ℤ pos (slice_index offs x)) seen
          (club ∷ []) in
          omega (arith, ints, more, least, own.least, c.loop-club.invariant.least);
      most =
          let more = total_of-append (λ x. end_at highs x -ℤ pos (slice_index offs x)) seen
          (club ∷ []) in
          omega (arith, ints, more, most, own.most, c.loop-club.invariant.most);
      near_least =
          let near = c.loop-club.invariant.near_least in (
            omega (arith, ints, long, least, near.0, own.near_least.0),
            omega (arith, ints, long, least, near.1, own.near_least.1),
          );
      near_most =
          let near = c.loop-club.invariant.near_most in (
            omega (arith, ints, long, most, near.0, own.near_most.0),
            omega (arith, ints, long, most, near.1, own.near_most.1),
          );
    }

pub returns-clause-near_least : goal.returns-clause-near_least
returns-clause-near_least c =
    let near = c.loop-club.invariant.near_least in
    let all = all_seen c.args.set c.loop-club.yielded
    (c.into_iter-club-iterator.ensures.into_iter_gives ∙ c.clubs-club-items.ensures.all)
    c.loop-club.yielded_by c.in-None.ensures.steps.0 in
    let few = few_members c.args.set in
    let many = ap length all in
    (omega (arith, ints, near.0, few, many), omega (arith, ints, near.1, few, many))

pub returns-clause-near_most : goal.returns-clause-near_most
returns-clause-near_most c =
    let near = c.loop-club.invariant.near_most in
    let all = all_seen c.args.set c.loop-club.yielded
    (c.into_iter-club-iterator.ensures.into_iter_gives ∙ c.clubs-club-items.ensures.all)
    c.loop-club.yielded_by c.in-None.ensures.steps.0 in
    let few = few_members c.args.set in
    let many = ap length all in
    (omega (arith, ints, near.0, few, many), omega (arith, ints, near.1, few, many))
