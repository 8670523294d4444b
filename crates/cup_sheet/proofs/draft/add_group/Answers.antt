use Rattle.std.proofs.Common.{arith}
use Rattle.cup_sheet.proofs.CupDraftLemmas.{group-keeps}
use Rattle.cup_sheet.proofs.draft.add_group.Goals as goal

pub returns-clause-sound : goal.returns-clause-sound
returns-clause-sound c =
    rw (c.in_ok-with_group.ensures, c.in_ok-next.ensures)
    (group-keeps c.args.draft c.args.name.now c.requires.sound c.requires.named
    c.requires.complete
    (omega (arith, c.if-group_count-ge-MOST_GROUPS.false, c.group_count.ensures)))
