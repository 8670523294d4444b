-- Which lines lead a session on, and do not end it: its reading stops at the read that completes
-- the line at which it ends.
use Rattle.std.specs.Prelude.{◌≡◌, ◌⊎◌, ℕ, List, Option, None}
use Rattle.league_core.specs.declared.sheet.Sheet.{Sheet}
use Rattle.league_core.specs.declared.season.Event.{Event}
use Rattle.port_core.specs.Contents.{Contents, with_lines}
use Rattle.fixture_sheet.specs.Sheets.{sheet_reading_of}
use Rattle.pool_save.specs.SavedReadings.{SaveState}
use Rattle.command_words.specs.declared.command.Mode.{Mode}
use Rattle.session_turns.specs.Courses.{Origin, course_from, course_from_saved, course_of}
use Rattle.run_ends.specs.LastReads.{LeadToCourse}

-- lines lead to some sheet so far, whatever follows them
abbrev pub LeadToDraft : List (ℕ × List ℕ) → Type 0
LeadToDraft lines =
    (draft : Option Sheet)
    × ((rest : Contents)
    → sheet_reading_of (with_lines lines rest) None ≡ sheet_reading_of rest draft)

-- lines lead on from an origin, after these events, whatever follows them: the course is some asks,
-- and then what follows from there on
abbrev pub LeadToFeed : Mode → List (ℕ × List ℕ) → Origin → List Event → Type 0
LeadToFeed mode lines origin events =
    LeadToCourse (course_of mode) lines (course_from mode origin events)

-- lines lead into a saved text after these events, of which so much is read, whatever follows
-- them: the course is some asks, and then what follows from there on
abbrev pub LeadToSavedBy : Mode → List (ℕ × List ℕ) → Sheet → List Event → SaveState → Type 0
LeadToSavedBy mode lines sheet events state =
    LeadToCourse (course_of mode) lines (course_from_saved mode sheet events state)

-- the same after some events
abbrev pub LeadToSaved : Mode → List (ℕ × List ℕ) → Type 0
LeadToSaved mode lines =
    (sheet : Sheet) × (events : List Event) × (state : SaveState)
    × LeadToSavedBy mode lines sheet events state

-- lines lead a session on, and do not end it: to some sheet so far, on from an origin, or into a
-- saved text
abbrev pub LeadSession : Mode → List (ℕ × List ℕ) → Type 0
LeadSession mode lines =
    LeadToDraft lines
    ⊎ ((origin : Origin) × (events : List Event) × LeadToFeed mode lines origin events)
    ⊎ LeadToSaved mode lines
