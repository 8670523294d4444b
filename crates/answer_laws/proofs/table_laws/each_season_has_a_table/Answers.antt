use Rattle.answer_laws.proofs.TableLemmas.{table_there}
use Rattle.answer_laws.proofs.table_laws.each_season_has_a_table.Goals as goal

pub returns : goal.returns
returns c = table_there
