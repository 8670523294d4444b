-- A rival marked after the club is one of the sheet's.
use Rattle.std.proofs.Common.{sym, ◌∙◌}
use Rattle.near_box.proofs.PressedLemmas.{after_of_sheet}
use Rattle.near_box.proofs.pressed.pressed_from_behind.Goals as goal

pub with_at_least-requires-clause-of_sheet : goal.with_at_least-requires-clause-of_sheet
with_at_least-requires-clause-of_sheet c club has =
    let box = c.args.zone_box.now in
    after_of_sheet box.sheet box.zone club c.requires.of_zone (sym (c.after.ensures club) ∙ has)
