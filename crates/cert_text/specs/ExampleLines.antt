-- Examples as proof lines: a finish of the season, given by the scores of the fixtures that the
-- season has none for, and a drawing of lots.
use Rattle.std.specs.Prelude.{◌≡◌, ℕ, ◌+◌, List, [], ◌∷◌, ◌++◌, Option, Some, None}
use Rattle.std.specs.List.{flat_map}
use Rattle.league_core.specs.declared.sheet.Sheet.{Sheet}
use Rattle.league_core.specs.declared.season.Score.{Score}
use Rattle.league_core.specs.declared.question.Claim.{Claim}
use Rattle.league_core.specs.declared.question.Question.{Question}
use Rattle.league_core.specs.game.Results.{Results}
use Rattle.league_core.specs.game.Questions.{IsExample}
use Rattle.cert_text.specs.declared.proof_line.ProofLine.{ProofLine}
use Rattle.cert_text.specs.declared.proof_line.ProofLine.TheVariants as line
use Rattle.cert_text.specs.Lines.{text_of_proof_line}

-- the line of a fixture in an example: none if the season has its score already
abbrev pub score_line_if : ℕ → Option Score → Option Score → List ProofLine
score_line_if fixture (Some played) ended = []
score_line_if fixture None None = []
score_line_if fixture None (Some ended) = line.Score fixture ended ∷ []

-- the lines of the fixtures from this number on, counted from 0, that the season has no score for,
-- with the scores of the finish
abbrev pub score_lines : ℕ → List (Option Score) → List (Option Score) → List ProofLine
score_lines fixture [] finish = []
score_lines fixture (played ∷ season) [] = []
score_lines fixture (played ∷ season) (ended ∷ finish) =
    score_line_if fixture played ended ++ score_lines (fixture + 1) season finish

-- the lots as a line, the first in them first
abbrev pub lots_line : List ℕ → ProofLine
lots_line lots = line.Lots (record { list = lots })

-- the lines of an example of a claim: its head, the scores, the lots
abbrev pub example_lines : Claim → Results → Results → List ℕ → List ProofLine
example_lines claim season finish lots =
    line.Finish claim
    ∷ (score_lines 0 season.scores finish.scores ++ lots_line lots ∷ [])

-- the lines are an example of the question
abbrev pub IsExampleInLines : Sheet → Results → Question → List ProofLine → Type 0
IsExampleInLines sheet season question lines =
    (finish : Results) × (lots : List ℕ) × IsExample sheet season question finish lots
    × (lines ≡ example_lines question.claim season finish lots)

-- the lines as a text: each on a line of its own, which a line feed ends
abbrev pub text_of_proof_lines : List ProofLine → List ℕ
text_of_proof_lines lines = flat_map (λ shown. text_of_proof_line shown ++ 10 ∷ []) lines
