use Rattle.std.proofs.Common.{sym, ◌∙◌}
use Rattle.branch_rules.proofs.FoundLemmas.{proposed_in_vain}
use Rattle.decide_run.proofs.solver.find_wide.Goals as goal

pub proposed-requires-clause-example : goal.proposed-requires-clause-example
proposed-requires-clause-example c = sym c.is_example.ensures ∙ c.if-is_example.true

pub reason_or_split-requires-clause-in_vain : goal.reason_or_split-requires-clause-in_vain
reason_or_split-requires-clause-in_vain c =
    let b = c.args.zone_box.now in
    proposed_in_vain b.sheet b.season c.args.question.now b.zone
    (sym c.is_example.ensures ∙ c.if-is_example.false)
