use Rattle.league_core.proofs.FinishLemmas.{finish_is_of, finish_is_played}
use Rattle.league_core.proofs.finish_laws.finishes_are_played.Goals as goal

pub returns-clause-played : goal.returns-clause-played
returns-clause-played c = finish_is_played

pub returns-clause-sheet : goal.returns-clause-sheet
returns-clause-sheet c = finish_is_of
