-- The group of the club, if it plays in one.
use Rattle.std.proofs.Common.{Option, ◌∙◌, subst, sym}
use Rattle.club_keys.specs.inside.KeyEnds.{key_parts}
use Rattle.cup_grammar.specs.PlacedGroups.{PlacedGroup}
use Rattle.cup_grammar.specs.CupDues.{after_groups_in}
use Rattle.cup_check.specs.inside.CupSideCalls.{TakesNextInCup}
use Rattle.cup_check.proofs.report.CupReport.list_line.Goals as goal

pub returns-in-Some : goal.returns-in-Some
returns-in-Some c =
    let judged = c.args.self.now in
    let claim = c.args.side.claim in
    let club = c.args.side.club in
    let P : Option PlacedGroup → Type 0 = λ it. TakesNextInCup judged
    (after_groups_in judged.basis claim club (key_parts c.args.key) it c.args.line.now) c.args.at
    c.listed.result in
    subst P (sym c.in-Some.is ∙ c.group_with.ensures.value) c.listed.ensures
