use Rattle.cup_sheet.proofs.CupDraftLemmas.{cup-is-whole}
use Rattle.cup_sheet.proofs.draft.into_cup.Goals as goal

pub returns-clause-limits : goal.returns-clause-limits
returns-clause-limits c =
    rw (c.in_ok-with_group.ensures)
    (cup-is-whole c.args.draft c.requires.sound c.requires.complete c.requires.groups
    c.requires.quota)
