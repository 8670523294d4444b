-- The lines of an input, as every text tool cuts it: a line ends at its LF, which belongs to it, or
-- at the end of the input.
use Rattle.std.specs.Prelude.{◌≡◌, ◌≢◌, ℕ, List, [], ◌∷◌, ◌++◌, All, if◌then◌else◌, ◌==◌}

-- the byte that ends a line
abbrev pub line_feed : ℕ
line_feed = 10

-- the most bytes that a line may have before its LF
abbrev pub line_limit : ℕ
line_limit = 1024

-- a byte before the first line of a list of lines
abbrev pub onto_first : ℕ → List (List ℕ) → List (List ℕ)
onto_first byte [] = (byte ∷ []) ∷ []
onto_first byte (line ∷ lines) = (byte ∷ line) ∷ lines

-- the lines of an input, each with its LF; what comes after the last LF is a line if it is not
-- empty
abbrev pub lines_of : List ℕ → List (List ℕ)
lines_of [] = []
lines_of (byte ∷ bytes) =
    if byte == line_feed then (byte ∷ []) ∷ lines_of bytes else onto_first byte (lines_of bytes)

-- the bytes of a line before its LF
abbrev pub text_of_line : List ℕ → List ℕ
text_of_line [] = []
text_of_line (byte ∷ bytes) = if byte == line_feed then [] else byte ∷ text_of_line bytes

-- no LF stands among these bytes
abbrev pub HasNoLineFeed : List ℕ → Type 0
HasNoLineFeed bytes = All (λ byte. byte ≢ line_feed) bytes

-- a line that ended: a text and its LF
abbrev pub IsEndedLine : List ℕ → Type 0
IsEndedLine line = (text : List ℕ) × HasNoLineFeed text × (line ≡ text ++ line_feed ∷ [])

-- each of these lines ended
abbrev pub AreEndedLines : List (List ℕ) → Type 0
AreEndedLines lines = All IsEndedLine lines
