use Rattle.std.proofs.Common.{refl, arith}
use Rattle.std.proofs.lemmas.List.{get_or_default}
use Rattle.league_core.specs.declared.sure.Sure.TheVariants.{Unknown}
use Rattle.check_bounds.specs.inside.Steps.{sure_by_tables}
use Rattle.check_bounds.proofs.StepLemmas.{taken_more}
use Rattle.check_bounds.proofs.tie_rounds.step.Goals as goal

pub loop-rival-preserved : goal.loop-rival-preserved
loop-rival-preserved c =
    taken_more c.args.answers.now c.loop-rival.answers c.loop-rival.rival
    (sure_by_tables c.args.tables.now c.args.club) _ c.then_by.result _
    (omega arith) c.loop-rival.invariant
    (get_or_default c.loop-rival.answers c.loop-rival.rival _ Unknown
    (omega (arith, c.loop-rival.invariant.long)))
    refl c.then_by.ensures
