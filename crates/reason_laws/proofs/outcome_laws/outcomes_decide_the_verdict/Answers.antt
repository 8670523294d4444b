use Rattle.reason_laws.proofs.MatchOutcomeLemmas.{outcomes_refute, outcomes_show}
use Rattle.reason_laws.proofs.MatchOutcomeLemmas.{clinched_by_outcomes, lost_by_outcomes}
use Rattle.reason_laws.proofs.outcome_laws.outcomes_decide_the_verdict.Goals as goal

pub returns-clause-refuted : goal.returns-clause-refuted
returns-clause-refuted c = outcomes_refute

pub returns-clause-shown : goal.returns-clause-shown
returns-clause-shown c = outcomes_show

pub returns-clause-clinched : goal.returns-clause-clinched
returns-clause-clinched c = clinched_by_outcomes

pub returns-clause-lost : goal.returns-clause-lost
returns-clause-lost c = lost_by_outcomes
