use Rattle.league_core.proofs.TimesLemmas.{standing_by-again}
use Rattle.league_core.proofs.laws.standing_is_the_recursion.Goals as goal

pub returns : goal.returns
returns c sheet = standing_by-again sheet.order sheet
