-- The next line that counts is judged.
use Rattle.cup_check.proofs.report.CupReport.ask_row.Goals as goal

pub returns : goal.returns
returns c = c.ask_line.ensures c.args.from c.in_ok-at.ensures
