use Rattle.std.proofs.Common.{Ok, false}
use Rattle.result_log.proofs.RecordLemmas.{answer_may_be_told}
use Rattle.what_if.proofs.StepLemmas.{asked-may_be_told}
use Rattle.what_if.proofs.step.read_step.Goals as goal

pub returns-then-is_kind-clause-may_be : goal.returns-then-is_kind-clause-may_be
returns-then-is_kind-clause-may_be c =
    asked-may_be_told c.args.season.now c.args.events c.read_when.result c.read_when.ensures.asks

pub returns-in-Ok-clause-may_be : goal.returns-in-Ok-clause-may_be
returns-in-Ok-clause-may_be c =
    answer_may_be_told c.args.season.now c.args.events false (Ok c.in-Ok.entry)
    c.in-Ok.ensures.is_entry c.in-Ok.ensures.never
