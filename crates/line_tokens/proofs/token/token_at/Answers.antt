use Rattle.std.proofs.Common.{◌<◌, length, arith}
use Rattle.std.proofs.lemmas.List.{length-map}
use Rattle.line_tokens.specs.Tokens.{token_of}
use Rattle.kept_lines.specs.LineLists.{NumberedLine}
use Rattle.line_tokens.specs.Tokens.{tokens_of}
use Rattle.line_tokens.proofs.TokenLemmas.{token_there}
use Rattle.line_tokens.proofs.token.token_at.Goals as goal

pub returns : goal.returns
returns c =
    let shown = λ (it : NumberedLine). token_of it.text in
    let within : c.args.at < length (tokens_of c.args.lines.now) = omega
    (arith, c.requires, length-map c.args.lines.now shown) in
    token_there c.args.lines.now c.args.at c.read_token.result within
    (rw (← c.text.ensures) c.read_token.ensures)
