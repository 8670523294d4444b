-- The first group that has the club.
use Rattle.std.proofs.Common.{◌∙◌, arith, sym}
use Rattle.cup_grammar.specs.PlacedGroups.{placed_groups}
use Rattle.cup_check.proofs.PlaceLemmas.{length-placed, with_here, with_more, with_none}
use Rattle.cup_check.proofs.report.CupReport.group_with.Goals as goal

pub loop-number-preserved : goal.loop-number-preserved
loop-number-preserved c =
    c.loop-number.invariant
    ∙ with_more (placed_groups c.args.self.now.basis) c.loop-number.number c.group-group.result
    c.args.club c.group-group.ensures (sym c.has_club.ensures ∙ c.if-has_club.false)

pub returns-then-has_club-clause-value : goal.returns-then-has_club-clause-value
returns-then-has_club-clause-value c =
    sym (c.loop-number.invariant
    ∙ with_here (placed_groups c.args.self.now.basis) c.loop-number.number c.group-group.result
    c.args.club c.group-group.ensures (sym c.has_club.ensures ∙ c.if-has_club.true))

pub returns-clause-value : goal.returns-clause-value
returns-clause-value c =
    sym (c.loop-number.invariant
    ∙ with_none (placed_groups c.args.self.now.basis) c.loop-number.number c.args.club
    (omega (
      arith,
      length-placed c.args.self.now.basis c.recall_invariant.ensures.of_groups,
      c.group_count-number-end.ensures,
      c.loop-number-test.false,
    )))
