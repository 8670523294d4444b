-- How some lines of a report are kept: the bytes of all of them one after another, each line behind
-- its head, and the places of some lines, from which the others are found.
use Rattle.std.specs.Prelude.{◌≡◌, ℕ, zero, suc, ◌+◌, ◌*◌, ◌<◌, ◌≤◌, List, [], ◌∷◌, ◌++◌, length}
use Rattle.std.specs.Prelude.{All, slice_index, slice_range}
use Rattle.std.specs.List.{flat_map}
use Rattle.kept_lines.specs.declared.line_head.LineHead.{LineHead}
use Rattle.kept_lines.specs.declared.line_head.LinePlace.{LinePlace}
use Rattle.kept_lines.specs.LineLists.{NumberedLine}
use Rattle.kept_lines.specs.inside.LineHeads.{head_at}

-- the place behind a line of which its head says this
abbrev pub place_behind : LineHead → LinePlace
place_behind head = record { start = head.end; number = head.number }

-- the place so many lines behind another
abbrev pub place_after : ℕ → LinePlace → List ℕ → LinePlace
place_after zero place bytes = place
place_after (suc count) place bytes = place_behind (head_at bytes (place_after count place bytes))

-- the place of the first line
abbrev pub first_place : LinePlace
first_place = record { start = 0; number = 0 }

-- what the head of the line at a position, from 0, says
abbrev pub head_of_line : List ℕ → ℕ → LineHead
head_of_line bytes at = head_at bytes (place_after at first_place bytes)

-- the line of which its head says this
abbrev pub line_of_head : List ℕ → LineHead → NumberedLine
line_of_head bytes head =
    record { number = head.number; text = slice_range bytes head.text head.end }

-- the first lines of these bytes, so many of them
abbrev pub lines_in : ℕ → List ℕ → List NumberedLine
lines_in zero bytes = []
lines_in (suc count) bytes =
    lines_in count bytes ++ line_of_head bytes (head_of_line bytes count) ∷ []

-- a line with this number and text was put behind the bytes, the last of which has this number
abbrev pub WritesLine : List ℕ → List ℕ → ℕ → ℕ → List ℕ → Type 0
WritesLine old new last number text =
    (more : List ℕ) × (new ≡ old ++ more)
    × (place_behind (head_at new (record { start = length old; number = last }))
    ≡ record { start = length new; number = number })
    × (line_of_head new (head_at new (record { start = length old; number = last }))
    ≡ record { number = number; text = text })

-- every eighth line has a mark
abbrev pub stride : ℕ
stride = 8

-- these say where the first line begins and each eighth from it
abbrev pub AreLineMarks : List ℕ → List ℕ → Type 0
AreLineMarks bytes marks = (at : ℕ) → at < length marks
    → slice_index marks at ≡ (place_after (stride * at) first_place bytes).start

-- so many lines are kept in these bytes, and marks find them
pub record AreLinesKept (bytes marks : List ℕ) (count : ℕ) : Type 0 where
  pub ends : (place_after count first_place bytes).start ≡ length bytes
  pub marked : AreLineMarks bytes marks
  pub all : count ≤ stride * length marks
  pub none_more : stride * length marks ≤ count + stride

-- the number of the last of the first so many lines
abbrev pub last_number : ℕ → List ℕ → ℕ
last_number count bytes = (place_after count first_place bytes).number

-- the lines of full blocks and of the one behind them
abbrev pub lines_of_blocks : List (List NumberedLine) → List NumberedLine → List NumberedLine
lines_of_blocks full latest = flat_map (λ block. block) full ++ latest

-- how many lines a full block has
abbrev pub block_length : ℕ
block_length = 4096

-- each of the blocks is full, the one behind them has no more lines, and there are so many in all
pub record IsFilled (full : List (List NumberedLine)) (latest : List NumberedLine) (count : ℕ)
    : Type 0 where
  pub alike : All (λ block. length block ≡ block_length) full
  pub no_longer : length latest ≤ block_length
  pub all : count ≡ length full * block_length + length latest
