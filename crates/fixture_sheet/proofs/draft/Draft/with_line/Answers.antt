use Rattle.fixture_sheet.proofs.DraftLemmas.{line-keeps}
use Rattle.fixture_sheet.proofs.draft.Draft.with_line.Goals as goal

pub invariant_of-result : goal.invariant_of-result
invariant_of-result c =
    line-keeps c.args.self c.self.inside.sheet c.push.new.self c.args.line c.self.view_is
    c.self.invariant c.requires.is c.requires.fresh c.requires.room c.in_ok-push.ensures.ok
