use Rattle.result_log.proofs.FeedLemmas.{contents_may_come}
use Rattle.result_log.proofs.RecordLemmas.{entry_is_no_end, entry_may_come}
use Rattle.result_log.proofs.laws.events_told_may_be_applied.Goals as goal

pub returns-clause-entries : goal.returns-clause-entries
returns-clause-entries c = entry_may_come

pub returns-clause-end : goal.returns-clause-end
returns-clause-end c = entry_is_no_end

pub returns-clause-readings : goal.returns-clause-readings
returns-clause-readings c = contents_may_come
