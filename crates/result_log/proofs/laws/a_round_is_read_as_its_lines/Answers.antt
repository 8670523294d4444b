use Rattle.result_log.proofs.RoundLemmas.{line-closes, tells-begin}
use Rattle.result_log.proofs.laws.a_round_is_read_as_its_lines.Goals as goal

pub returns-clause-lines : goal.returns-clause-lines
returns-clause-lines c = tells-begin

pub returns-clause-last : goal.returns-clause-last
returns-clause-last c = line-closes
