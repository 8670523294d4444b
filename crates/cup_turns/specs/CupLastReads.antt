-- Which lines lead the session of a cup on, and do not end it: reading stops at the read that
-- completes the line at which it ends.
use Rattle.std.specs.Prelude.{◌≡◌, ◌⊎◌, ℕ, List, Option, None}
use Rattle.league_core.specs.declared.season.Event.{Event}
use Rattle.port_core.specs.Contents.{Contents, with_lines}
use Rattle.cup_sheet.specs.declared.cup.Cup.{Cup}
use Rattle.cup_sheet.specs.declared.cup.CupDraft.{CupDraft}
use Rattle.cup_sheet.specs.CupReadings.{cup_reading_of}
use Rattle.run_ends.specs.LastReads.{LeadToCourse}
use Rattle.cup_turns.specs.CupCourses.{cup_course_from, cup_course_of}

-- lines lead to some cup so far, whatever follows them
abbrev pub LeadToSomeCup : List (ℕ × List ℕ) → Type 0
LeadToSomeCup lines =
    (draft : Option CupDraft)
    × ((rest : Contents)
    → cup_reading_of (with_lines lines rest) None ≡ cup_reading_of rest draft)

-- lines lead on from a cup's sheet, after these events, whatever follows them
abbrev pub LeadToCupFeed : List (ℕ × List ℕ) → Cup → List Event → Type 0
LeadToCupFeed lines cup events = LeadToCourse cup_course_of lines (cup_course_from cup events)

-- lines lead a session on, and do not end it: to some cup so far, or on from its sheet
abbrev pub LeadCup : List (ℕ × List ℕ) → Type 0
LeadCup lines =
    LeadToSomeCup lines
    ⊎ ((cup : Cup) × (events : List Event) × LeadToCupFeed lines cup events)
