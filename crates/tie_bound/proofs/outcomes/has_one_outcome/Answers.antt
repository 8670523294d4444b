-- No fixture has several outcomes exactly when each has one.
use Rattle.std.proofs.Common.{◌==◌, ap, ◌∙◌}
use Rattle.league_core.specs.search.Options.{has_one_outcome}
use Rattle.tie_bound.specs.inside.Boxes.{options_in_box}
use Rattle.tie_bound.proofs.outcomes.has_one_outcome.Goals as goal
use Rattle.league_core.proofs.plain.Counts.{all_counted}

pub returns : goal.returns
returns c =
    ap (λ n. n == 0) c.open_outcomes.ensures
    ∙ all_counted has_one_outcome (options_in_box c.args.zone_box.now)
