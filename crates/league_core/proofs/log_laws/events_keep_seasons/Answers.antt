use Rattle.league_core.proofs.LogLemmas.{IsEventOf-same, IsSeasonOf-applied, are_results-applied}
use Rattle.league_core.proofs.log_laws.events_keep_seasons.Goals as goal

pub returns-clause-sheet : goal.returns-clause-sheet
returns-clause-sheet c = IsSeasonOf-applied

pub returns-clause-results : goal.returns-clause-results
returns-clause-results c = are_results-applied

pub returns-clause-same_events : goal.returns-clause-same_events
returns-clause-same_events c = IsEventOf-same
