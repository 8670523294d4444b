-- An input as its readers see it: which bytes of a line count, which lines are passed over, and
-- where an input stops because a line of it, or all of it, is too long. This is the project's own
-- rule, made for tables that editors and spreadsheets write.
use Rattle.std.specs.Prelude.{ℕ, ◌+◌, ◌-◌, Bool, true, false, not, ◌&&◌, ◌||◌, ◌==◌, nat_eq, nat_lt}
use Rattle.std.specs.Prelude.{nat_le, List, [], ◌∷◌, ◌++◌, length, take, drop, Option, Some, None}
use Rattle.std.specs.Prelude.{is_some, Result, Ok, Err, if◌then◌else◌}
use Rattle.std.specs.List.{starts_with, ends_with, list_any}
use Rattle.port_core.specs.declared.line.ReadStop.{ReadStop}
use Rattle.port_core.specs.declared.line.ReadStop.TheVariants.{LineTooLong, InputTooLong}
use Rattle.port_core.specs.Lines.{lines_of, text_of_line, line_limit, line_feed}

-- the most bytes that an input may have
abbrev pub input_limit : ℕ
input_limit = 67108864

-- ---- what counts of a line

-- where a line stands: how many lines come before it, and how many bytes
pub record Position : Type 0 where
  pub lines : ℕ
  pub bytes : ℕ

-- the position of an input's first line
abbrev pub start : Position
start = record { lines = 0; bytes = 0 }

-- the position after a line of so many bytes
abbrev pub position_after : Position → ℕ → Position
position_after position size = record { lines = position.lines + 1; bytes = position.bytes + size }

-- the number of the line at a position; lines are numbered from 1
abbrev pub number_at : Position → ℕ
number_at position = position.lines + 1

-- the byte order mark, U+FEFF in UTF-8
abbrev pub byte_order_mark : List ℕ
byte_order_mark = 0xEF ∷ 0xBB ∷ 0xBF ∷ []

-- a text without the byte order mark at its start, if it has one
abbrev pub without_mark : List ℕ → List ℕ
without_mark text = if starts_with nat_eq text byte_order_mark then drop 3 text else text

-- a text without one CR at its end, if it has one
abbrev pub without_return : List ℕ → List ℕ
without_return text = if ends_with nat_eq text (13 ∷ []) then take (length text - 1) text else text

-- what counts of the text of a line at a position: a CR directly before the line's end does not,
-- nor does the byte order mark at the very start of the input
abbrev pub content_at : Position → List ℕ → List ℕ
content_at position text =
    if position.lines == 0 then without_mark (without_return text) else without_return text

-- a line with nothing in it, or that begins with `#`, is passed over
abbrev pub is_skipped : List ℕ → Bool
is_skipped [] = true
is_skipped (byte ∷ bytes) = byte == 35

-- ---- where an input stops

-- a line has more bytes before its LF than a line may have
abbrev pub is_long_line : List ℕ → Bool
is_long_line line = nat_lt line_limit (length (text_of_line line))

-- the input's first byte too many stands in the line at this position
abbrev pub is_past_limit : Position → List ℕ → Bool
is_past_limit position line = nat_lt input_limit (position.bytes + length line)

-- the first byte too many of a line at this position comes before the input's, or is the same byte
abbrev pub is_line_limit_first : Position → Bool
is_line_limit_first position = nat_le (position.bytes + line_limit) input_limit

-- why the input stops at this line, if it does: of two bytes too many, the first one decides
abbrev pub line_stop : Position → List ℕ → Option ReadStop
line_stop position line =
    if is_long_line line && is_line_limit_first position then Some (LineTooLong (number_at
    position))
    else if is_past_limit position line then Some (InputTooLong (number_at position))
    else None

-- the same of the first of these lines
abbrev pub stop_due : Position → List (List ℕ) → Option ReadStop
stop_due position [] = None
stop_due position (line ∷ lines) = line_stop position line

-- ---- what an input gives

-- the contents of the lines that are not passed over, with their numbers, and then the number of
-- the input's end, one more than its last line's, or the stop in its position
pub record Contents : Type 0 where
  pub lines : List (ℕ × List ℕ)
  pub ending : Result ℕ ReadStop

-- no line, and this ending
abbrev pub ended : Result ℕ ReadStop → Contents
ended ending = record { lines = []; ending = ending }

-- one more line before them
abbrev pub with_line : ℕ → List ℕ → Contents → Contents
with_line number content rest =
    record { lines = (number, content) ∷ rest.lines; ending = rest.ending }

-- these lines before them
abbrev pub with_lines : List (ℕ × List ℕ) → Contents → Contents
with_lines given rest = record { lines = given ++ rest.lines; ending = rest.ending }

-- what a content adds to what the lines after it give: nothing if its line is passed over
abbrev pub with_content : ℕ → List ℕ → Contents → Contents
with_content number content rest =
    if is_skipped content then rest else with_line number content rest

-- what a line and those after it give: nothing but the stop, if the input stops there
abbrev pub contents_by : Option ReadStop → Contents → Contents
contents_by (Some stop) contents = ended (Err stop)
contents_by None contents = contents

-- what the lines from a position on give
abbrev pub contents_from : Position → List (List ℕ) → Contents
contents_from position [] = ended (Ok (number_at position))
contents_from position (line ∷ lines) =
    contents_by (line_stop position line)
    (with_content (number_at position) (content_at position (text_of_line line))
    (contents_from (position_after position (length line)) lines))

-- what an input gives
abbrev pub contents_of : List ℕ → Contents
contents_of input = contents_from start (lines_of input)

-- ---- what bytes in hand are enough for

-- a line ended
abbrev pub is_whole : List ℕ → Bool
is_whole line = list_any (nat_eq line_feed) line

-- among the bytes in hand, from a position on, stands the next line to be given, whole, or the stop
abbrev pub has_answer : Position → List (List ℕ) → Bool
has_answer position [] = false
has_answer position (line ∷ lines) =
    is_some (line_stop position line)
    || is_whole line && (not (is_skipped (content_at position (text_of_line line)))
    || has_answer (position_after position (length line)) lines)
