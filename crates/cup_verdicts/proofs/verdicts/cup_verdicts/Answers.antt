use Rattle.std.proofs.Common.{◌+◌, subst, sym}
use Rattle.cup_verdicts.specs.CupVerdicts.{AreCupVerdicts}
use Rattle.cup_verdicts.proofs.VerdictLemmas.{verdicts-next}
use Rattle.cup_verdicts.proofs.verdicts.cup_verdicts.Goals as goal

pub loop-club-preserved : goal.loop-club-preserved
loop-club-preserved c =
    subst (AreCupVerdicts c.args.cup.now c.args.seasons.now (c.loop-club.club + 1))
    (sym c.in_ok-push.ensures.items)
    (verdicts-next c.args.cup.now c.args.seasons.now c.loop-club.club c.loop-club.verdicts.items
    c.in_ok-verdict_on.field-0 c.loop-club.invariant c.in_ok-verdict_on.ensures)
