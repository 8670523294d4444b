use Rattle.league_core.proofs.LogLemmas.{has_code-told, log_has_codes}
use Rattle.league_core.proofs.log_laws.events_have_codes.Goals as goal

pub returns-clause-event : goal.returns-clause-event
returns-clause-event c = has_code-told

pub returns-clause-log : goal.returns-clause-log
returns-clause-log c = log_has_codes
