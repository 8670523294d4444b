-- The lines of a text in their order, each with its number in the input.
use Rattle.std.specs.Prelude.{ℕ, List, [], map, slice_index_or}

-- a line without its end, and its number
pub record NumberedLine : Type 0 where
  pub number : ℕ
  pub text : List ℕ

-- the same of a pair
abbrev pub numbered : ℕ × List ℕ → NumberedLine
numbered line = record { number = line.0; text = line.1 }

-- the number of the line at a position
abbrev pub line_number_at : List NumberedLine → ℕ → ℕ
line_number_at lines at = slice_index_or (map (λ line. line.number) lines) at 0

-- the text of the line at a position
abbrev pub text_at : List NumberedLine → ℕ → List ℕ
text_at lines at =
    slice_index_or (map (λ line. line.text) lines) at []
