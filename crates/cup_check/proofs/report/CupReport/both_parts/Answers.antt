-- The next line that counts is judged.
use Rattle.cup_check.proofs.report.CupReport.both_parts.Goals as goal

pub returns : goal.returns
returns c = c.first_token.ensures c.args.from c.in_ok-at.ensures
