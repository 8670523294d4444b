use Rattle.cup_grammar.proofs.CupTokenLemmas.{cup_token_there}
use Rattle.cup_grammar.proofs.token.cup_token_at.Goals as goal

pub returns : goal.returns
returns c =
    cup_token_there c.args.lines.now c.args.at c.read_cup_token.result c.requires
    (rw (← c.text.ensures) c.read_cup_token.ensures)
