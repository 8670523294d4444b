-- With the lots the club is on the side, or it is not.
use Rattle.std.proofs.Common.{Some, refl, sym}
use Rattle.cup_check.proofs.JointLemmas.{over_are_seasons}
use Rattle.cup_check.proofs.JointLotLemmas.{joint_lots_end, joint_lots_fail}
use Rattle.cup_check.proofs.report.CupReport.end_with_lots.Goals as goal

pub is_on_side-requires-clause-finishes : goal.is_on_side-requires-clause-finishes
is_on_side-requires-clause-finishes c =
    let basis = c.args.self.now.basis in
    over_are_seasons basis.cup.groups basis.seasons c.args.finishes.now
    c.recall_invariant.ensures.of_groups c.requires.over

pub returns-then-branch : goal.returns-then-branch
returns-then-branch c =
    λ from token next given. joint_lots_end c.args.self.now from c.args.at token next
    c.args.side.claim c.args.side.club c.args.finishes.now (Some c.args.drawn.now)
    c.args.drawn.now c.in_ok-is_on_side.field-0 c.requires.over (sym given) refl
    c.in_ok-is_on_side.ensures c.if-branch.true

pub returns-else-branch : goal.returns-else-branch
returns-else-branch c =
    λ from token next given. joint_lots_fail c.args.self.now from c.args.at token next
    c.args.side.claim c.args.side.club c.args.finishes.now (Some c.args.drawn.now)
    c.args.drawn.now c.in_ok-is_on_side.field-0 c.requires.over (sym given) refl
    c.in_ok-is_on_side.ensures c.if-branch.false
