-- A match with its score, piece by piece.
use Rattle.std.proofs.Common.{◌≡◌, ◌+◌, List, ℕ, [], ◌∷◌, ◌++◌, append_assoc, decimal, sym, ap, ◌∙◌}
use Rattle.std.proofs.Common.{codes}
use Rattle.league_core.specs.declared.season.Score.{Score}
use Rattle.cert_text.specs.declared.proof_line.ProofLine.TheVariants as line
use Rattle.cert_text.specs.Lines.{word, number_in_text, part_text, text_of_proof_line}
use Rattle.cert_text.proofs.LineLemmas.{join-more}

-- three numbers after a prefix, each with its mark
in_a_row : (front one two three : List ℕ)
    → ((front ++ (one ++ 44 ∷ [])) ++ (two ++ 44 ∷ [])) ++ (three ++ 93 ∷ [])
    ≡ front ++ (one ++ 44 ∷ (two ++ 44 ∷ (three ++ 93 ∷ [])))
in_a_row front one two three =
    let end = three ++ 93 ∷ [] in
    append_assoc (front ++ (one ++ 44 ∷ [])) (two ++ 44 ∷ []) end
    ∙ append_assoc front (one ++ 44 ∷ []) ((two ++ 44 ∷ []) ++ end)
    ∙ ap (λ rest. front ++ rest) (append_assoc one (44 ∷ []) ((two ++ 44 ∷ []) ++ end)
    ∙ ap (λ rest. one ++ 44 ∷ rest) (append_assoc two (44 ∷ []) end))

pub score_text : (fixture : ℕ) (score : Score)
    → ((codes "[\"score\"," ++ (decimal (fixture + 1) ++ 44 ∷ []))
    ++ (decimal score.home ++ 44 ∷ [])) ++ (decimal score.away ++ 93 ∷ [])
    ≡ text_of_proof_line (line.Score fixture score)
score_text fixture score =
    in_a_row (codes "[\"score\",") (decimal (fixture + 1)) (decimal score.home) (decimal score.away)
    ∙ sym (ap (λ rest. 91 ∷ rest) (join-more (part_text (word (codes "score")))
    (decimal (number_in_text fixture) ∷ decimal score.home ∷ decimal score.away ∷ [])))
