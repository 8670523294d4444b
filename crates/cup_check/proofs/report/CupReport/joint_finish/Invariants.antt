use Rattle.cup_check.proofs.JointCallLemmas.{ReachesGroup}
use Rattle.cup_check.proofs.report.CupReport.joint_finish.Given as goal

-- the scores of the groups so far were read
abbrev pub invariant-loop-number : goal.invariant-loop-number
invariant-loop-number l =
    ReachesGroup l.self l.from l.side.claim l.side.club l.at l.finishes l.number
