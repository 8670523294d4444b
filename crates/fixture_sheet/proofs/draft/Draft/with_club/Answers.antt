use Rattle.fixture_sheet.proofs.DraftLemmas.{club-keeps}
use Rattle.fixture_sheet.proofs.draft.Draft.with_club.Goals as goal

pub invariant_of-result : goal.invariant_of-result
invariant_of-result c =
    club-keeps c.args.self c.self.inside.sheet c.push.new.self
    (record { name = c.args.name.now; rank = c.args.rank })
    c.self.view_is c.self.invariant c.requires.is c.requires.fresh c.requires.room
    c.requires.first
    (cc (c.in_ok-push.ensures.ok, c.new-name.ensures, c.in_ok-from_str.ensures.ok))
