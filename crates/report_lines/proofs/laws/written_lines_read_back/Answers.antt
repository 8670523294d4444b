use Rattle.report_lines.proofs.ReadBackLemmas.{line_in-text, token_of-text}
use Rattle.report_lines.proofs.laws.written_lines_read_back.Goals as goal

pub returns-clause-reads : goal.returns-clause-reads
returns-clause-reads c = line_in-text

pub returns-clause-tokens : goal.returns-clause-tokens
returns-clause-tokens c = token_of-text
