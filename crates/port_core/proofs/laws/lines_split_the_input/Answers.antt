use Rattle.port_core.proofs.LineLemmas.{concat-lines_of, AreLines-lines_of}
use Rattle.port_core.proofs.laws.lines_split_the_input.Goals as goal

pub returns : goal.returns
returns c = λ input. (concat-lines_of input, AreLines-lines_of input)
