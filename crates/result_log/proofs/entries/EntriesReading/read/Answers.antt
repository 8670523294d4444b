use Rattle.result_log.proofs.RecordLemmas.{answer_may_be_told}
use Rattle.result_log.proofs.entries.EntriesReading.read.Goals as goal

pub returns-clause-may_be : goal.returns-clause-may_be
returns-clause-may_be c =
    answer_may_be_told c.args.at.now.season.now c.args.at.now.events c.args.self.now.proofs
    c.read_event.result c.read_event.ensures.is_entry c.read_event.ensures.never
