-- The way of a session: from the whole input to where it stands, with what was written so far.
use Rattle.std.specs.Prelude.{◌≡◌, ℕ, Bool, List, Option, Some, None}
use Rattle.std.specs.Io.KnownBytes.{append_known}
use Rattle.port_core.specs.Contents.{Position, start, Contents, with_lines}
use Rattle.port_core.specs.Readers.{LineReaderView, TakesInput, contents_to_come}
use Rattle.port_core.specs.inside.ReaderCalls.{Passes}
use Rattle.fixture_sheet.specs.LastReads.{ReadsOnWay}
use Rattle.answer_rows.specs.Parts.{IsMadeOf}
use Rattle.run_ends.specs.Courses.{CourseOf, with_asks}
use Rattle.run_ends.specs.Texts.{SessionKind}
use Rattle.run_ends.specs.LastReads.{Stands, fresh_reader}

-- lines already taken wrote whole answers to these asks: whatever follows these lines, the course
-- is these asks, and then what follows from there on
pub record LeadsOn {Play : Type 0} (kind : SessionKind Play) (taken : List (ℕ × List ℕ))
    (written : List ℕ) (from : Contents → CourseOf Play) : Type 0 where
  pub asks : List Play
  pub answers : IsMadeOf kind.IsAnswer asks written
  pub course : (rest : Contents)
      → kind.course (with_lines taken rest) ≡ with_asks asks (from rest)

-- the way from the whole input to a position in it and what stands from there on, with the sink's
-- bytes before and now, and whether the source has told its end, before and now; nothing is said
-- if the source does not show its bytes
abbrev pub Path : {Play : Type 0} → SessionKind Play → Option (List ℕ) → Bool → Option (List ℕ)
    → Bool → Position → (Contents → CourseOf Play) → Option (List ℕ) → Option (List ℕ) → Type 0
Path kind None ended left ended' position from old now = Unit {0}
Path kind (Some input) ended None ended' position from old now = ⊥
Path kind (Some input) ended (Some left) ended' position from old now =
    (taken : List (ℕ × List ℕ)) × (written : List ℕ) × (now ≡ append_known old written)
    × Passes start input ended position left ended' taken
    × LeadsOn kind taken written from

-- a session that began at a source in its first state has come to where the contents lead on like
-- this, and its last read came on a way that leads it on
pub record HasCome {S : Type 0} (left : S → Option (List ℕ)) (reads : S → List ℕ → S → Type 0)
    (Way : List (ℕ × List ℕ) → Type 0) (first : S) (reader : LineReaderView) (now : S)
    (Leads : List (ℕ × List ℕ) → Type 0) : Type 0 where
  pub way : Stands Leads (contents_to_come fresh_reader (left first))
      (contents_to_come reader (left now))
  pub takes : TakesInput fresh_reader reader (left first) (left now)
  pub last : ReadsOnWay left reads (Stands Way) fresh_reader reader first now
