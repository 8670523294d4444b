-- The next line that counts is judged.
use Rattle.cup_check.proofs.report.CupReport.refuted_side.Goals as goal

pub returns : goal.returns
returns c = c.key_line.ensures c.args.from c.in_ok-at.ensures
