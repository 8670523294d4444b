-- The rows of the output. A row of fields is written as csv writes a record, with quotes where they
-- are needed; a row that shows a part of an example or a tree is a proof line. Each ends with LF.
use Rattle.std.specs.Prelude.{ℕ, List, [], ◌∷◌, ◌++◌, codes, decimal, ℤ}
use Rattle.std.specs.List.{flat_map}
use Rattle.cert_text.specs.Rows.{text_of_row}
use Rattle.std.specs.Fmt.{signed_decimal}
use Rattle.answer_rows.specs.declared.word.Word.{Word}
use Rattle.answer_rows.specs.declared.word.Word.TheVariants.{Clinched, Lost, Possible, Unsettled}
use Rattle.answer_rows.specs.declared.table_row.TableRow.{TableRow}
use Rattle.answer_rows.specs.declared.bound.Bound.{Bound}
use Rattle.answer_rows.specs.declared.bound.Bound.TheVariants.{Known, None, Between}
use Rattle.answer_rows.specs.declared.bound.Score2.{Score2}

-- `ask,E`
abbrev pub ask_row : ℕ → List ℕ
ask_row epoch = text_of_row (codes "ask" ∷ decimal epoch ∷ [])

-- a line of a proof alone on its row, by the text of such a line
abbrev pub line_row : {L : Type 0} → (L → List ℕ) → L → List ℕ
line_row text shown = text shown ++ 10 ∷ []

-- the lines of a proof, each on a row of its own
abbrev pub text_of_lines : {L : Type 0} → (L → List ℕ) → List L → List ℕ
text_of_lines text lines = flat_map (line_row text) lines

-- how a word is written
abbrev pub word_text : Word → List ℕ
word_text Clinched = codes "clinched"
word_text Lost = codes "lost"
word_text Possible = codes "possible"
word_text Unsettled = codes "unsettled"

-- `verdict,K,CLUB,WORD`
abbrev pub verdict_row : ℕ → List ℕ → Word → List ℕ
verdict_row line name word =
    text_of_row (codes "verdict" ∷ decimal line ∷ name ∷ word_text word ∷ [])

-- `place,BEST,WORST,CLUB,PLAYED,POINTS,DIFF,SCORED`
abbrev pub place_row : List ℕ → TableRow → List ℕ
place_row name row =
    text_of_row (codes "place" ∷ decimal row.best ∷ decimal row.worst ∷ name
    ∷ decimal row.played ∷ signed_decimal row.points
    ∷ signed_decimal row.difference ∷ signed_decimal row.scored ∷ [])

-- `LOW..HIGH`
abbrev pub range_text : ℤ → ℤ → List ℕ
range_text low high = signed_decimal low ++ codes ".." ++ signed_decimal high

-- a number, `none`, or `LOW..HIGH`
abbrev pub bound_text : Bound → List ℕ
bound_text (Known number) = signed_decimal number
bound_text None = codes "none"
bound_text (Between low high spent) = range_text low high

-- `score,K,CLUB,PQS,GQS`
abbrev pub score_row : ℕ → List ℕ → Score2 → List ℕ
score_row line name scores =
    text_of_row (codes "score" ∷ decimal line ∷ name ∷ bound_text scores.pqs
    ∷ bound_text scores.gqs ∷ [])
