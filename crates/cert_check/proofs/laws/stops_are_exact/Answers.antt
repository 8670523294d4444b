use Rattle.cert_check.proofs.ReportLemmas.{bad_lines, unproved_lines, short_reports}
use Rattle.cert_check.proofs.laws.stops_are_exact.Goals as goal

pub returns-clause-bad_line : goal.returns-clause-bad_line
returns-clause-bad_line c = bad_lines

pub returns-clause-no_proof : goal.returns-clause-no_proof
returns-clause-no_proof c = unproved_lines

pub returns-clause-short : goal.returns-clause-short
returns-clause-short c = short_reports
