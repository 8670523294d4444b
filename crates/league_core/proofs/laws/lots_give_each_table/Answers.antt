use Rattle.league_core.proofs.LotTableLemmas.{table_of_itself}
use Rattle.league_core.proofs.laws.lots_give_each_table.Goals as goal

pub returns : goal.returns
returns c = table_of_itself
