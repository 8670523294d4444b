-- The line has lots, or there are none.
use Rattle.std.proofs.Common.{◌∙◌, sym}
use Rattle.cup_grammar.specs.CupDues.{scores_of_groups}
use Rattle.cup_check.proofs.JointLotLemmas.{joint_lots_bad}
use Rattle.cup_check.proofs.report.CupReport.lots_line.Goals as goal

pub returns-in-Some : goal.returns-in-Some
returns-in-Some c =
    λ from next. c.end_with_lots.ensures from c.args.token.now next
    (sym c.in_ok-drawn.ensures.lots ∙ c.in-Some.is)

pub returns-in-None : goal.returns-in-None
returns-in-None c =
    λ from next. joint_lots_bad c.args.self.now from c.args.at c.args.token.now next
    c.args.side.claim c.args.side.club (scores_of_groups c.args.finishes.now) c.in_ok-drawn.field-0
    c.in_ok-drawn.ensures.lots c.in-None.is
