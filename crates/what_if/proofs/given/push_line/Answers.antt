use Rattle.std.proofs.Common.{◌∙◌, refl}
use Rattle.answer_rows.specs.Items.{answer_row}
use Rattle.answer_rows.proofs.RowItemLemmas.{adds_item, adds_nothing}
use Rattle.what_if.specs.inside.GivenParts.{IsRightGiven}
use Rattle.what_if.proofs.given.push_line.Goals as goal

pub loop-club-init : goal.loop-club-init
loop-club-init c = (
  adds_nothing answer_row
      (IsRightGiven c.args.stage.now.sheet c.args.stage.now.season c.args.base.now) c.args.line
      c.args.found.now.items,
  refl,
  refl,
)

pub loop-club-preserved : goal.loop-club-preserved
loop-club-preserved c = (
  adds_item answer_row
      (IsRightGiven c.args.stage.now.sheet c.args.stage.now.season c.args.base.now) c.args.line
      c.loop-club.club c.in_ok-verdict_given.field-0 _ _ _ c.loop-club.invariant.0
      c.in_ok-verdict_given.ensures.about c.in_ok-verdict_given.ensures.right
      c.in_ok-push.ensures.items,
  c.in_ok-verdict_given.ensures.same_sheet ∙ c.loop-club.invariant.1,
  c.in_ok-verdict_given.ensures.same_season ∙ c.loop-club.invariant.2,
)
