-- Where the reading of a session stops: at the read that completes the line at which it ends. What
-- was given before that read led the session on, and did not end it.
use Rattle.std.specs.Prelude.{◌≡◌, ℕ, List, [], Option, Some, None}
use Rattle.port_core.specs.Contents.{Contents, start, with_lines}
use Rattle.port_core.specs.Readers.{LineReaderView}
use Rattle.fixture_sheet.specs.LastReads.{ReadsOnWay}
use Rattle.run_ends.specs.declared.status.Status.{Status}
use Rattle.run_ends.specs.declared.status.Status.TheVariants.{ReadFault}
use Rattle.run_ends.specs.Courses.{CourseOf, with_asks}

-- a reader that has given nothing
abbrev pub fresh_reader : LineReaderView
fresh_reader = record { held = []; text = []; position = start }

-- lines lead on to what stands from there on, whatever follows them: the course of all is some
-- asks, and then the course of what follows
abbrev pub LeadToCourse : {Play : Type 0} → (Contents → CourseOf Play) → List (ℕ × List ℕ)
    → (Contents → CourseOf Play) → Type 0
LeadToCourse {Play} course lines from =
    (asks : List Play)
    × ((rest : Contents) → course (with_lines lines rest) ≡ with_asks asks (from rest))

-- lines were given that lead on so; nothing is said if the source shows none
abbrev pub Stands : (List (ℕ × List ℕ) → Type 0) → Option Contents → Option Contents → Type 0
Stands Leads None after = Unit {0}
Stands Leads (Some before) None = ⊥
Stands Leads (Some before) (Some after) =
    (taken : List (ℕ × List ℕ)) × (before ≡ with_lines taken after) × Leads taken

-- reading stops at the read that completes the line at which the session ends, unless the source
-- failed: what was given before led it on so
abbrev pub StopsSession : {S : Type 0} → (S → Option (List ℕ)) → (S → List ℕ → S → Type 0)
    → (List (ℕ × List ℕ) → Type 0) → S → S → Status → Type 0
StopsSession left reads Leads before after ReadFault = Unit {0}
StopsSession left reads Leads before after _ =
    (reader : LineReaderView)
    × ReadsOnWay left reads (Stands Leads) fresh_reader reader before after
