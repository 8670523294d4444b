use Rattle.cup_verdicts.specs.CupVerdicts.{AreCupVerdicts}
use Rattle.cup_verdicts.proofs.verdicts.cup_verdicts.Given as goal

abbrev pub invariant-loop-club : goal.invariant-loop-club
invariant-loop-club l = AreCupVerdicts l.cup l.seasons l.club l.verdicts.items
