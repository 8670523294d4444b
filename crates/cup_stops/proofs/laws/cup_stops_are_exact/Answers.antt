use Rattle.cup_stops.proofs.CupStopLemmas.{answers_due, bad_cup_lines, short_cup_reports}
use Rattle.cup_stops.proofs.CupStopLemmas.{unproved_cup_lines}
use Rattle.cup_stops.proofs.laws.cup_stops_are_exact.Goals as goal

pub returns-clause-bad_line : goal.returns-clause-bad_line
returns-clause-bad_line c = bad_cup_lines

pub returns-clause-no_proof : goal.returns-clause-no_proof
returns-clause-no_proof c = unproved_cup_lines

pub returns-clause-short : goal.returns-clause-short
returns-clause-short c = short_cup_reports

pub returns-clause-due : goal.returns-clause-due
returns-clause-due c = answers_due
