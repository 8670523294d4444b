use Rattle.std.proofs.Common.{◌+◌, ◌++◌, ◌∷◌, [], codes, decimal, ap, ◌∙◌}
use Rattle.cert_text.proofs.ScoreLineLemmas.{score_text}
use Rattle.cert_text.proofs.score_line.score_text.Goals as goal

pub returns : goal.returns
returns c =
    c.in_ok-push_number-3.ensures
    ∙ ap (λ front. front ++ (decimal c.from-3.result ++ 93 ∷ [])) (c.in_ok-push_number-2.ensures
    ∙ ap (λ front. front ++ (decimal c.from-2.result ++ 44 ∷ [])) (c.in_ok-push_number.ensures
    ∙ ap (λ front. front ++ (decimal (c.from.result + 1) ++ 44 ∷ []))
    (c.in_ok-extend_from_slice.ensures.items
    ∙ ap (λ front. front ++ codes "[\"score\",") c.in_ok-text.ensures.items)))
    ∙ rw (c.from.ensures, c.from-2.ensures, c.from-3.ensures)
    (score_text c.args.fixture c.args.score)
