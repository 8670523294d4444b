use Rattle.std.proofs.Common.{◌∙◌, Some, ap}
use Rattle.cup_grammar.proofs.ScoreTextLemmas.{score_text}
use Rattle.cup_grammar.proofs.token.score_line.Goals as goal

pub returns-in-Ok-Score : goal.returns-in-Ok-Score
returns-in-Ok-Score c =
    let found = c.in-Ok-Score in
    score_text c.args.text.now found.fixture found.score
    (found.ensures.line ∙ ap (λ it. Some it) found.field-0-is)
