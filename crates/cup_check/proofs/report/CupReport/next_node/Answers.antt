use Rattle.cup_check.proofs.report.CupReport.next_node.Goals as goal

pub returns-clause-goes : goal.returns-clause-goes
returns-clause-goes c = c.node_line.ensures.goes c.args.from c.in_ok-at.ensures
