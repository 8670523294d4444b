use Rattle.std.proofs.Common.{◌≡◌, IsTrue, false, ◌&&◌, ◌||◌}
use Rattle.league_core.specs.search.Options.{has_one_outcome}
use Rattle.branch_rules.specs.inside.Choices.{options_at_fixture}
use Rattle.branch_rules.proofs.RatedLemmas.{none_of_both}
use Rattle.branch_rules.proofs.OutcomeTestLemmas.{one_is_left}
use Rattle.branch_rules.proofs.outcomes.rated_outcome.Goals as goal

pub returns-clause-none : goal.returns-clause-none
returns-clause-none c =
    let left = c.args.left in
    let options = options_at_fixture c.args.zone_box.now c.args.fixture in
    none_of_both c.better.result c.rated_home-home.result c.rated_draw-draw.result
    (IsTrue (has_one_outcome options))
    ((left.wins && (left.draws || left.losses)) ≡ false)
    ((left.draws && (left.wins || left.losses)) ≡ false)
    c.better.ensures.none c.rated_home-home.ensures.none c.rated_draw-draw.ensures.none
    (one_is_left options left c.requires.left)
