use Rattle.report_lines.proofs.WrittenLemmas.{written_back}
use Rattle.report_lines.proofs.laws.written_reports_read_back.Goals as goal

pub returns : goal.returns
returns c = written_back
