use Rattle.port_core.proofs.LineLemmas.{lines_of-concat}
use Rattle.port_core.proofs.laws.lines_are_the_only_split.Goals as goal

pub returns : goal.returns
returns c = lines_of-concat
