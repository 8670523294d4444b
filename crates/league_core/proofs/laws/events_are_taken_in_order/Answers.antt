use Rattle.league_core.proofs.TableLemmas.{season_after-push}
use Rattle.league_core.proofs.laws.events_are_taken_in_order.Goals as goal

pub returns : goal.returns
returns c = season_after-push
