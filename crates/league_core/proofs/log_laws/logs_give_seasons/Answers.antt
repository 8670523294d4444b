use Rattle.league_core.proofs.LogLemmas.{AreEventsOf-push, epoch_of-push, season_after_of}
use Rattle.league_core.proofs.LogLemmas.{season_after_results}
use Rattle.league_core.proofs.log_laws.logs_give_seasons.Goals as goal

pub returns-clause-sheet : goal.returns-clause-sheet
returns-clause-sheet c = season_after_of

pub returns-clause-results : goal.returns-clause-results
returns-clause-results c = season_after_results

pub returns-clause-log : goal.returns-clause-log
returns-clause-log c = AreEventsOf-push

pub returns-clause-epoch : goal.returns-clause-epoch
returns-clause-epoch c = epoch_of-push
