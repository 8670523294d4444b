use Rattle.std.proofs.Common.{◌≡◌, ◌*◌, ◌+◌, [], get_or, ap, ◌∙◌, arith}
use Rattle.std.proofs.lemmas.List.{get_or_default}
use Rattle.league_core.specs.game.ClubSets.{clubs_in}
use Rattle.league_core.specs.game.Sheets.{is_fixture}
use Rattle.league_core.specs.search.PointRanges.{points_together, points_of_sides, range_of}
use Rattle.league_core.proofs.FixtureLemmas.{clubs_apart}
use Rattle.check_bounds.proofs.IntRangeLemmas.{near_plus, near_wider}
use Rattle.check_bounds.proofs.TableLemmas.{sum_more, together_by_ends}
use Rattle.check_bounds.proofs.won.won_by.Goals as goal
use Rattle.league_core.proofs.plain.Lists.{list_all-at}

pub plus-won-requires-clause-near : goal.plus-won-requires-clause-near
plus-won-requires-clause-near c =
    near_wider (255 * c.loop-i.i) 1000000 c.loop-i.won (omega (arith, c.requires.few))
    c.loop-i.invariant.1

pub loop-i-preserved : goal.loop-i-preserved
loop-i-preserved c =
    let i = c.loop-i.i in
    let fixtures = c.args.fixtures.now in
    let corners = c.args.corners.now in
    let corner : c.index-corners-i.result ≡ get_or corners i [] =
    c.index-corners-i.is ∙ get_or_default corners i _ []
    (omega (arith, c.requires.many)) in
    let match = get_or fixtures i (record { home = 0; away = 0 }) in
    let apart = clubs_apart 24 match
    (list_all-at (is_fixture 24) fixtures i (record { home = 0; away = 0 }) (omega arith)
    c.requires.teams) in
    let here = together_by_ends c.args.set.bits match (get_or corners i []) c.has-home.result
    c.has-away.result c.won_in.result apart c.has-home.ensures c.has-away.ensures
    (c.won_in.ensures.range
    ∙ ap (range_of (points_of_sides c.has-home.result c.has-away.result)) corner) in (
      sum_more (points_together (clubs_in c.args.set)) fixtures corners i c.loop-i.won
          c.won_in.result c.plus-won.result (record { home = 0; away = 0 }) (omega arith)
          (omega (arith, c.requires.many)) c.loop-i.invariant.0 here c.plus-won.ensures,
      near_wider (255 * i + 255) (255 * (i + 1)) c.plus-won.result (omega arith)
          (near_plus (255 * i) 255 c.loop-i.won c.won_in.result c.plus-won.result
          c.plus-won.ensures
          c.loop-i.invariant.1 c.won_in.ensures.near),
    )
