use Rattle.std.proofs.Common.{◌||◌, sym, ◌∙◌}
use Rattle.std.proofs.lemmas.Bool.{and_parts}
use Rattle.branch_rules.proofs.OutcomeTestLemmas.{home_splits}
use Rattle.branch_rules.proofs.outcomes.rated_home.Goals as goal

pub returns-then-parts_by_home-clause-some : goal.returns-then-parts_by_home-clause-some
returns-then-parts_by_home-clause-some c =
    let left = c.args.left in
    let parts = and_parts left.wins (left.draws || left.losses)
    (sym c.parts_by_home.ensures ∙ c.if-parts_by_home.true) in
    home_splits c.args.zone_box.now c.args.question.now c.args.fixture left
    c.sides_of.ensures.of_sheet c.requires.has_finish c.requires.in_range c.requires.left parts.0
    parts.1
