-- An input read line by line: what the reader of lines has in hand, and what is still to come.
use Rattle.std.specs.Prelude.{◌≡◌, ℕ, ◌+◌, IsTrue, List, length, Option, option_map}
use Rattle.std.specs.Io.KnownBytes.{prepend_known}
use Rattle.port_core.specs.Lines.{lines_of}
use Rattle.port_core.specs.Contents.{Position, has_answer, Contents, contents_from}

-- what a reader of lines has: bytes read and not yet passed, the content last given, and the
-- position of the line that is due
pub record LineReaderView : Type 0 where
  pub held : List ℕ
  pub text : List ℕ
  pub position : Position

-- what is still to come of an input, if the source shows it: the bytes in hand, then those left
abbrev pub stream_of : LineReaderView → Option (List ℕ) → Option (List ℕ)
stream_of reader left = prepend_known reader.held left

-- what these bytes give from a position on, if they are known
abbrev pub contents_after : Position → Option (List ℕ) → Option Contents
contents_after position known = option_map (λ bytes. contents_from position (lines_of bytes)) known

-- the contents still to come, if the source shows its bytes
abbrev pub contents_to_come : LineReaderView → Option (List ℕ) → Option Contents
contents_to_come reader left = contents_after reader.position (stream_of reader left)

-- how many bytes the reader has taken
abbrev pub bytes_taken : LineReaderView → ℕ
bytes_taken reader = reader.position.bytes + length reader.held

-- bytes went from the source to the reader
abbrev pub TakesInput :
    LineReaderView → LineReaderView → Option (List ℕ) → Option (List ℕ) → Type 0
TakesInput old new left left' =
    (bytes : List ℕ) × (left ≡ prepend_known bytes left')
    × (bytes_taken new ≡ bytes_taken old + length bytes)

-- no more bytes are needed for the next answer
abbrev pub HasAnswer : LineReaderView → Type 0
HasAnswer reader = IsTrue (has_answer reader.position (lines_of reader.held))
