use Rattle.std.proofs.Common.{◌∙◌, arith, sym}
use Rattle.cup_sheet.proofs.CupDraftLemmas.{club-keeps-cup}
use Rattle.cup_sheet.proofs.draft.add_club.Goals as goal

pub returns-clause-sound : goal.returns-clause-sound
returns-clause-sound c =
    club-keeps-cup c.args.draft c.in-Some.group c.in_ok-with_club.field-0
    (record { name = c.args.name.now; rank = c.args.rank }) c.requires.sound c.in-Some.is
    c.requires.is (sym c.is_named_before.ensures ∙ c.if-is_named_before.false)
    (omega (arith, c.if-len-ge-MOST_GROUP_CLUBS.false, c.len.ensures)) c.requires.first
    (c.in_ok-with_club.ensures)
