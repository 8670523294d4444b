-- The groups that are listed, and the trees behind the list.
use Rattle.std.proofs.Common.{Bool, true, List, ℕ, Some, ◌∙◌, subst, sym}
use Rattle.std.specs.Prelude.{if◌then◌else◌}
use Rattle.club_keys.specs.inside.KeyEnds.{key_parts}
use Rattle.cert_check.specs.LineGrammars.{bad, go}
use Rattle.cup_text.specs.declared.cup_line.CupLine.{CupLine}
use Rattle.cup_grammar.specs.PlacedGroups.{groups_at, placed_groups}
use Rattle.cup_grammar.specs.CupDues.{after_groups_in, may_be_listed, side_trees_due}
use Rattle.cup_check.specs.inside.CupSideCalls.{TakesNextInCup}
use Rattle.cup_check.proofs.report.CupReport.listed.Goals as goal

pub returns-then-may_be_listed : goal.returns-then-may_be_listed
returns-then-may_be_listed c =
    let judged = c.args.self.now in
    let mine = c.args.mine.now in
    let claim = c.args.side.claim in
    let club = c.args.side.club in
    let key = key_parts c.args.key in
    let numbers = c.as_slice-numbers.result.now in
    let due : List ℕ → List _ = λ it. side_trees_due claim club key mine
    (groups_at (placed_groups judged.basis) it) in
    let T : Bool → Type 0 = λ test. TakesNextInCup judged
    (if test then go true (due numbers) else bad) c.args.at c.side_trees.result in
    let N : List ℕ → Type 0 = λ it. TakesNextInCup judged
    (if may_be_listed judged.basis claim mine it then go true (due it) else bad) c.args.at
    c.side_trees.result in
    let L : CupLine → Type 0 = λ it. TakesNextInCup judged
    (after_groups_in judged.basis claim club key (Some mine) it) c.args.at c.side_trees.result in
    let fits = sym c.if-may_be_listed.true ∙ c.may_be_listed.ensures in
    subst L (sym c.in-Groups.is)
    (subst N c.as_slice-numbers.ensures (subst T fits c.side_trees.ensures))
