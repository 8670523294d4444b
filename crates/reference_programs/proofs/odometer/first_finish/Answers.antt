use Rattle.std.proofs.Common.{ap, arith, length}
use Rattle.league_core.specs.game.Results.{Results}
use Rattle.reference_programs.proofs.StartLemmas.{length-begun, begun_more, begun_all}
use Rattle.reference_programs.proofs.odometer.first_finish.Goals as goal

pub start-requires-clause-in_finish : goal.start-requires-clause-in_finish
start-requires-clause-in_finish c =
    let season = c.args.season.now in
    let scores = ap (λ (r : Results). length r.scores) c.loop-fixture.invariant in
    omega (
      arith,
      scores,
      length-begun c.loop-fixture.fixture season.scores,
      c.requires.league.of_sheet.scores,
    )

pub loop-fixture-preserved : goal.loop-fixture-preserved
loop-fixture-preserved c =
    begun_more c.args.season.now c.loop-fixture.fixture c.loop-fixture.finish c.start.new.finish
    (omega (arith, c.requires.league.of_sheet.scores)) c.loop-fixture.invariant c.start.ensures

pub returns : goal.returns
returns c =
    begun_all c.args.sheet.now c.args.season.now c.loop-fixture.finish c.loop-fixture.fixture
    (omega (arith, c.requires.league.of_sheet.scores)) c.loop-fixture.invariant
