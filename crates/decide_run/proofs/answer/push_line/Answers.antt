use Rattle.std.proofs.Common.{◌∙◌, refl}
use Rattle.answer_rows.proofs.RowItemLemmas.{adds_nothing, adds_item}
use Rattle.answer_rows.specs.Items.{answer_row}
use Rattle.decide_run.specs.inside.WideParts.{IsRightDecided}
use Rattle.decide_run.proofs.answer.push_line.Goals as goal

pub loop-club-init : goal.loop-club-init
loop-club-init c = (
  adds_nothing answer_row (IsRightDecided c.args.played.now.sheet c.args.played.now.season)
      c.args.line c.args.found.now.items,
  refl,
  refl,
)

pub loop-club-preserved : goal.loop-club-preserved
loop-club-preserved c = (
  adds_item answer_row (IsRightDecided c.args.played.now.sheet c.args.played.now.season)
      c.args.line c.loop-club.club c.in_ok-decide_club.field-0 _ _ _ c.loop-club.invariant.0
      c.in_ok-decide_club.ensures.about c.in_ok-decide_club.ensures.right
      c.in_ok-push.ensures.items,
  c.in_ok-decide_club.ensures.same_sheet ∙ c.loop-club.invariant.1,
  c.in_ok-decide_club.ensures.same_season ∙ c.loop-club.invariant.2,
)
