use Rattle.verdict_run.proofs.TurnLemmas.{turns_are_work}
use Rattle.verdict_run.proofs.work_laws.turns_are_steps.Goals as goal

pub returns : goal.returns
returns c = turns_are_work
