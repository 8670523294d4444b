use Rattle.std.proofs.Common.{arith}
use Rattle.reference_programs.proofs.StepLemmas.{goes_round}
use Rattle.reference_programs.proofs.odometer.next_finish.Goals as goal

pub returns-clause-number : goal.returns-clause-number
returns-clause-number c =
    goes_round c.args.sheet.now c.args.season.now c.args.finish.now c.loop-fixture.finish
    c.loop-fixture.fixture c.requires.is_finish c.loop-fixture.invariant
    (omega (arith, c.requires.league.of_sheet.scores))
