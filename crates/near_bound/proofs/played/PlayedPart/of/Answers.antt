use Rattle.std.proofs.Common.{◌<◌, ◌-◌, List, Option, None, length, get_or, refl, ap, subst, arith}
use Rattle.league_core.specs.declared.sheet.Fixture.{Fixture}
use Rattle.league_core.specs.declared.season.Score.{Score}
use Rattle.near_bound.specs.inside.PlayedParts.{TakesFixture}
use Rattle.near_bound.proofs.PlayedLemmas.{near_by_rest, near_wider}
use Rattle.near_bound.proofs.PlayedWalkLemmas.{part_none, part_more, part_whole}
use Rattle.near_bound.proofs.played.PlayedPart.of.Goals as goal

pub loop-i-init : goal.loop-i-init
loop-i-init c =
    part_none c.args.sheet.now c.args.season.now _ refl refl refl (record {
      unplayed = refl;
      clubs = refl;
      pairs = refl;
    })

pub take-requires-clause-near : goal.take-requires-clause-near
take-requires-clause-near c =
    let same = ap (length {A = Fixture}) c.as_slice-fixtures.ensures in
    let part = c.loop-i.part in
    let so_far = c.loop-i.invariant in
    near_wider part (c.loop-i.i - part.unplayed_count) 600
    (near_by_rest part c.loop-i.i so_far.near so_far.few)
    (omega (arith, same, c.requires.limits.most_fixtures))

pub loop-i-preserved : goal.loop-i-preserved
loop-i-preserved c =
    let sheet = c.args.sheet.now in
    let season = c.args.season.now in
    let same = ap (length {A = Fixture}) c.as_slice-fixtures.ensures in
    let i = c.loop-i.i in
    let d : Fixture = record { home = 0; away = 0 } in
    let inside : i < length sheet.fixtures = omega (arith, same) in
    let there : i < length season.scores = omega (arith, inside, c.requires.of_sheet.scores) in
    part_more sheet season i d (get_or season.scores i None) c.loop-i.part c.take.new.self inside
    there refl
    (subst (λ (fs : List Fixture). TakesFixture i (get_or fs i d)
    (get_or season.scores i None) c.loop-i.part c.take.new.self) c.as_slice-fixtures.ensures
    (subst (λ (ss : List (Option Score)). TakesFixture i
    (get_or c.as_slice-fixtures.result.now i d) (get_or ss i None) c.loop-i.part
    c.take.new.self) c.scores-scores.ensures.scores c.take.ensures))
    c.loop-i.invariant

pub returns : goal.returns
returns c =
    let same = ap (length {A = Fixture}) c.as_slice-fixtures.ensures in
    part_whole c.args.sheet.now c.args.season.now c.loop-i.i c.loop-i.part
    (omega (arith, same)) c.requires.of_sheet.scores c.loop-i.invariant
