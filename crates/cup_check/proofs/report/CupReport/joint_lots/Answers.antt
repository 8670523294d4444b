use Rattle.cup_check.proofs.report.CupReport.joint_lots.Goals as goal

pub returns : goal.returns
returns c = c.lots_line.ensures c.args.from c.in_ok-at.ensures
