-- The lines of an input joined are the input, and no other lines are.
use Rattle.std.specs.Prelude.{◌≡◌, ℕ, ◌<◌, ◌⊎◌, List, [], ◌∷◌, length}
use Rattle.std.specs.List.{concat}
use Rattle.port_core.specs.Lines.{lines_of, HasNoLineFeed, IsEndedLine}

-- a line that the end of the input cut off: a text that is not empty, and no LF
abbrev pub IsOpenLine : List ℕ → Type 0
IsOpenLine line = HasNoLineFeed line × (0 < length line)

-- each line ended, and the last one may be open
abbrev pub AreLines : List (List ℕ) → Type 0
AreLines [] = Unit {0}
AreLines (line ∷ []) = IsEndedLine line ⊎ IsOpenLine line
AreLines (line ∷ next ∷ lines) = IsEndedLine line × AreLines (next ∷ lines)

-- the lines of an input joined are the input, and each of them is a line
abbrev pub LinesSplitInput : Type 0
LinesSplitInput = (input : List ℕ) → (concat (lines_of input) ≡ input) × AreLines (lines_of input)

-- no other lines joined are the input
abbrev pub LinesAreTheOnlySplit : Type 0
LinesAreTheOnlySplit = (lines : List (List ℕ)) → AreLines lines → lines_of (concat lines) ≡ lines
