use Rattle.result_log.proofs.FeedLemmas.{feed_of-first, feed_of-log}
use Rattle.result_log.proofs.laws.a_feed_is_read_entry_by_entry.Goals as goal

pub returns-clause-entries : goal.returns-clause-entries
returns-clause-entries c = feed_of-first

pub returns-clause-log : goal.returns-clause-log
returns-clause-log c = feed_of-log
