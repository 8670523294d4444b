-- The next line that counts is judged.
use Rattle.cup_check.proofs.report.CupReport.groups_line.Goals as goal

pub returns : goal.returns
returns c = c.list_token.ensures c.args.from c.in_ok-at.ensures
