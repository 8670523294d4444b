-- The lines of an example, fixture by fixture.
use Rattle.std.proofs.Common.{◌≡◌, ℕ, ◌+◌, ◌<◌, List, [], ◌∷◌, ◌++◌, length, take}
use Rattle.std.proofs.Common.{get_or}
use Rattle.std.proofs.Common.{Option, None, ap, sym, ◌∙◌, arith}
use Rattle.std.proofs.lemmas.List.{append_assoc, append-nil, take_more, length-take-le}
use Rattle.league_core.specs.declared.season.Score.{Score}
use Rattle.cert_text.specs.declared.proof_line.ProofLine.{ProofLine}
use Rattle.cert_text.specs.ExampleLines.{score_line_if, score_lines}

-- one more fixture
score_lines-push : (fixture : ℕ) (season finish : List (Option Score))
    (played ended : Option Score) → length finish ≡ length season
    → score_lines fixture (season ++ played ∷ []) (finish ++ ended ∷ [])
    ≡ score_lines fixture season finish ++ score_line_if (fixture + length season) played ended
score_lines-push fixture [] [] played ended same =
    let here : fixture + 0 ≡ fixture = omega arith in
    append-nil (score_line_if fixture played ended)
    ∙ ap (λ n. score_line_if n played ended) (sym here)
score_lines-push fixture [] (other ∷ finish) played ended same = absurd (omega (arith, same))
score_lines-push fixture (other ∷ season) [] played ended same = absurd (omega (arith, same))
score_lines-push fixture (first ∷ season) (last ∷ finish) played ended same =
    let line = score_line_if fixture first last in
    let lines = score_lines (fixture + 1) season finish in
    let there : fixture + 1 + length season ≡ fixture + length (first ∷ season) = omega arith in
    ap (λ t. line ++ t)
    (score_lines-push (fixture + 1) season finish played ended (omega (arith, same)))
    ∙ sym (append_assoc line lines (score_line_if (fixture + 1 + length season) played ended))
    ∙ ap (λ n. (line ++ lines) ++ score_line_if n played ended) there

-- a fixture more comes after the lines so far
pub scores-step : (start before after : List ProofLine) (season finish : List (Option Score)) (i :
    ℕ)
    → i < length season → length finish ≡ length season
    → before ≡ start ++ score_lines 0 (take i season) (take i finish)
    → after ≡ before ++ score_line_if i (get_or season i None) (get_or finish i None)
    → after ≡ start ++ score_lines 0 (take (i + 1) season) (take (i + 1) finish)
scores-step start before after season finish i inside same before_is after_is =
    let few : length (take i season) ≡ i = length-take-le i season (omega arith) in
    let as_few : length (take i finish) ≡ i = length-take-le i finish (omega (arith, same)) in
    let lines = score_lines 0 (take i season) (take i finish) in
    let line = score_line_if i (get_or season i None) (get_or finish i None) in
    let number : 0 + length (take i season) ≡ i = omega (arith, few) in
    let more : score_lines 0 (take (i + 1) season) (take (i + 1) finish) ≡ lines ++ line =
    ap (λ xs. score_lines 0 xs (take (i + 1) finish)) (take_more season i None inside)
    ∙ ap (score_lines 0 (take i season ++ get_or season i None ∷ []))
    (take_more finish i None (omega (arith, same)))
    ∙ score_lines-push 0 (take i season) (take i finish) (get_or season i None)
    (get_or finish i None) (as_few ∙ sym few)
    ∙ ap (λ n. lines ++ score_line_if n (get_or season i None) (get_or finish i None)) number in
    after_is ∙ ap (λ t. t ++ line) before_is ∙ append_assoc start lines line
    ∙ ap (λ t. start ++ t) (sym more)
