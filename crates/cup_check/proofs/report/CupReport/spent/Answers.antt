-- The next line that counts is judged.
use Rattle.cup_check.proofs.report.CupReport.spent.Goals as goal

pub returns : goal.returns
returns c = c.spent_token.ensures c.args.from c.in_ok-at.ensures
