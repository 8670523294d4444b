-- The rows of a report, by their fields.
use Rattle.std.specs.Prelude.{ℕ, List, [], ◌∷◌, codes, decimal}
use Rattle.line_tokens.specs.declared.row_word.RowWord.{RowWord}
use Rattle.line_tokens.specs.declared.row_word.RowWord.TheVariants.{Clinched, Lost, Possible}
use Rattle.line_tokens.specs.declared.row_word.RowWord.TheVariants.{Unsettled}

-- `ask,E`
abbrev pub ask_fields : ℕ → List (List ℕ)
ask_fields epoch = codes "ask" ∷ decimal epoch ∷ []

-- the word in a row
abbrev pub text_of_word : RowWord → List ℕ
text_of_word Clinched = codes "clinched"
text_of_word Lost = codes "lost"
text_of_word Possible = codes "possible"
text_of_word Unsettled = codes "unsettled"

-- `verdict,K,CLUB,WORD`
abbrev pub verdict_fields : ℕ → List ℕ → RowWord → List (List ℕ)
verdict_fields line name word =
    codes "verdict" ∷ decimal line ∷ name ∷ text_of_word word ∷ []
