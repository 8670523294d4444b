use Rattle.std.proofs.Common.{◌≡◌, [], length}
use Rattle.league_core.specs.search.Options.{options_from}
use Rattle.check_bounds.proofs.ScoreDomainLemmas.{HaveOptions}
use Rattle.check_bounds.proofs.zone.season_domains.Given as goal

-- one domain for each score so far, with the options of its fixture
abbrev pub invariant-loop-score : goal.invariant-loop-score
invariant-loop-score l =
    (length l.scopes.items ≡ l.score-index)
    × HaveOptions l.scopes.items (options_from l.goal_limit [] 0 l.scores)
