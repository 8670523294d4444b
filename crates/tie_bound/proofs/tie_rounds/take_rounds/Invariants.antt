use Rattle.std.proofs.Common.{◌-◌}
use Rattle.league_core.specs.game.ClubSets.{clubs_in}
use Rattle.tie_bound.specs.inside.Boxes.{options_in_box}
use Rattle.tie_bound.proofs.RoundLemmas.{IsJudged, task_in}
use Rattle.tie_bound.proofs.tie_rounds.take_rounds.Given as goal

-- each club's answer so far, and the rounds to come in the group of those that are level
abbrev pub invariant-smaller : goal.invariant-smaller
invariant-smaller l =
    IsJudged (task_in l.zone_box.sheet (options_in_box l.zone_box) (clubs_in l.initial.group) l.club
    l.fn.answers) (l.time-end - l.time) (clubs_in l.group) l.now
