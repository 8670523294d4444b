use Rattle.run_ends.specs.declared.status.Status.TheVariants.{OutOfMemory}
use Rattle.run_ends.proofs.RunEndLemmas.{serves-nothing}
use Rattle.run_ends.proofs.StandLemmas.{stops-nothing}
use Rattle.cup_turns.specs.CupCourses.{cup_kind}
use Rattle.cup_turns.specs.CupLastReads.{LeadCup}
use Rattle.cup_turns.proofs.CupAnsweredLemmas.{cup-answered}
use Rattle.cup_turns.proofs.session.run_cup.Goals as goal

pub returns-in_default-clause-serves : goal.returns-in_default-clause-serves
returns-in_default-clause-serves g c =
    let IsAnswer = g.A.CupAnswers.answers c.args.answers.now in
    serves-nothing (cup_kind IsAnswer)
    (cup-answered IsAnswer (g.met.A.CupAnswers.answered c.args.answers.now)) _ _ _ _

pub returns-in_default-clause-last : goal.returns-in_default-clause-last
returns-in_default-clause-last g c =
    stops-nothing g.S.Source.left g.S.Source.reads LeadCup c.args.source.now OutOfMemory
