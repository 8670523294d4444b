use Rattle.result_log.proofs.RoundLemmas.{feed_of-round, round-close}
use Rattle.result_log.proofs.laws.a_feed_is_read_round_by_round.Goals as goal

pub returns-clause-rounds : goal.returns-clause-rounds
returns-clause-rounds c = feed_of-round

pub returns-clause-close : goal.returns-clause-close
returns-clause-close c = round-close
