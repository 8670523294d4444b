use Rattle.decide_run.proofs.solver.reason_or_split.Goals as goal

pub near_or_split-requires-clause-no_reason : goal.near_or_split-requires-clause-no_reason
near_or_split-requires-clause-no_reason c = c.in_ok-reason.ensures.absent c.in-None.is
