-- The course of any contents is that of the feed that they are.
use Rattle.std.proofs.Common.{◌≡◌, ℕ, false, List, [], ◌∷◌, ◌++◌, Option, Some, None, Result}
use Rattle.std.proofs.Common.{Ok, Err, refl, ap, ap₂, ◌∙◌, if◌then◌else◌}
use Rattle.std.specs.Prelude.{All}
use Rattle.std.proofs.lemmas.List.Elements.{All-nil, All-cons, All-head, All-tail}
use Rattle.league_core.specs.declared.season.Event.{Event}
use Rattle.league_core.specs.game.Seasons.{epoch_of, season_after}
use Rattle.port_core.specs.declared.line.ReadStop.{ReadStop}
use Rattle.port_core.specs.Contents.{Contents}
use Rattle.result_log.specs.declared.entry.Entry.{Entry}
use Rattle.result_log.specs.declared.entry.Entry.TheVariants.{Change, Ask, Proofs, End}
use Rattle.result_log.specs.declared.fault.FeedFault.{FeedFault}
use Rattle.result_log.specs.Feeds.{entry_in, feed_by, feed_from, feed_of}
use Rattle.result_log.specs.inside.Rounds.{live_entry}
use Rattle.what_if.proofs.StepLemmas.{other-same}
use Rattle.pool_save.specs.SavedReadings.{nothing_saved}
use Rattle.command_words.specs.declared.command.Mode.{Mode}
use Rattle.command_words.specs.declared.command.Mode.TheVariants.{WhatIf}
use Rattle.run_ends.specs.declared.run_end.RunEnd.TheVariants.{Complete, Refused}
use Rattle.session_turns.specs.Courses.{Origin, about_in, asks_about, awaits_saved}
use Rattle.session_turns.specs.Courses.{course_after_proofs, course_closed}
use Rattle.session_turns.specs.Courses.{course_from, course_from_saved}
use Rattle.run_ends.specs.InputEnds.{save_fault}
use Rattle.session_turns.specs.inside.FeedCourses.{IsFeedIn, course_of_feed}
use Rattle.session_turns.specs.inside.Progress.{line_after}
use Rattle.run_ends.proofs.FeedCourseLemmas.{asks-joined}
use Rattle.run_ends.specs.Courses.{course_by, course_ended, course_in, with_asks}
use Rattle.session_turns.specs.Courses.{feed_kind}

-- a line that asks about no fixture is read as in every feed, where no saved text must come
feed-line : (mode : Mode) (origin : Origin) (events : List Event) (content : List ℕ)
    → about_in mode content ≡ None → awaits_saved mode origin.saved ≡ false
    → line_after mode origin events content ≡ live_entry origin.sheet events content
feed-line WhatIf origin events content none plain =
    other-same origin.sheet (season_after origin.sheet events) (epoch_of events) content none
feed-line mode origin events content none plain =
    ap (λ proofs. entry_in origin.sheet (season_after origin.sheet events) (epoch_of events) proofs
    content) plain

-- a line more
feed-by : (mode : Mode) (origin : Origin) (line : ℕ × List ℕ)
    (lines : List (ℕ × List ℕ)) (ending : Result ℕ ReadStop)
    → about_in mode line.1 ≡ None → awaits_saved mode origin.saved ≡ false
    → ((events : List Event)
    → course_from mode origin events (record { lines = lines; ending = ending })
    ≡ course_of_feed mode origin events (feed_from origin.sheet false lines ending events))
    → (events : List Event) (found : Result (Option Entry) FeedFault)
    → course_by (feed_kind mode origin) line
    (λ next. course_after_proofs mode origin next (record { lines = lines; ending = ending }))
    (course_in (feed_kind mode origin) (course_after_proofs mode origin) lines ending) events found
    ≡ course_of_feed mode origin events (feed_by line.0 (record { lines = lines; ending = ending })
    (feed_from origin.sheet false lines ending) events found)
feed-by mode origin line lines ending none plain behind events (Ok None) = behind events
feed-by mode origin line lines ending none plain behind events (Ok (Some (Change event))) =
    behind (events ++ event ∷ [])
feed-by mode origin line lines ending none plain behind events (Ok (Some Ask)) =
    ap₂ (λ about course. with_asks (asks_about mode origin events about) course) none
    (behind events)
    ∙ asks-joined (asks_about mode origin events None) _ _
feed-by mode origin line lines ending none plain behind events (Ok (Some Proofs)) =
    ap (λ awaits.
    if awaits then course_from_saved mode origin.sheet events nothing_saved
    (record { lines = lines; ending = ending }) else course_ended Complete) plain
feed-by mode origin line lines ending none plain behind events (Ok (Some End)) = refl
feed-by mode origin line lines ending none plain behind events (Err fault) = refl

-- a line asks about no fixture
abbrev pub IsAboutNone : Mode → ℕ × List ℕ → Type 0
IsAboutNone mode line = about_in mode line.1 ≡ None

-- the course of lines is that of the feed that they are
feed-from : (mode : Mode) (origin : Origin) (lines : List (ℕ × List ℕ))
    (ending : Result ℕ ReadStop) → awaits_saved mode origin.saved ≡ false
    → All (IsAboutNone mode) lines → (events : List Event)
    → course_in (feed_kind mode origin) (course_after_proofs mode origin) lines ending events
    ≡ course_of_feed mode origin events (feed_from origin.sheet false lines ending events)
feed-from mode origin [] (Ok number) plain none events =
    ap (λ awaits.
    if awaits then course_ended (Refused (save_fault number))
    else course_closed mode origin events) plain
feed-from mode origin [] (Err stop) plain none events = refl
feed-from mode origin (line ∷ lines) ending plain none events =
    let first = All-head (IsAboutNone mode) line lines none in
    ap (course_by (feed_kind mode origin) line
    (λ next. course_after_proofs mode origin next (record { lines = lines; ending = ending }))
    (course_in (feed_kind mode origin) (course_after_proofs mode origin) lines ending) events)
    (feed-line mode origin events line.1 first plain)
    ∙ feed-by mode origin line lines ending first plain
    (feed-from mode origin lines ending plain (All-tail (IsAboutNone mode) line lines none)) events
    (live_entry origin.sheet events line.1)

-- in the other modes no line does
all-none : (mode : Mode) (lines : List (ℕ × List ℕ))
    → ((content : List ℕ) → about_in mode content ≡ None) → All (IsAboutNone mode) lines
all-none mode [] plain = All-nil (IsAboutNone mode)
all-none mode (line ∷ lines) plain =
    All-cons (IsAboutNone mode) line lines (plain line.1) (all-none mode lines plain)

feed-none : (mode : Mode) (origin : Origin) (rest : Contents) → IsFeedIn mode origin rest
    → All (IsAboutNone mode) rest.lines
feed-none WhatIf origin rest feed = feed
feed-none mode origin rest feed = all-none mode rest.lines (λ content. refl)

feed-plain : (mode : Mode) (origin : Origin) (rest : Contents) → IsFeedIn mode origin rest
    → awaits_saved mode origin.saved ≡ false
feed-plain WhatIf origin rest feed = refl
feed-plain mode origin rest feed = feed

pub course-of_feed : (mode : Mode) (origin : Origin) (events : List Event) (contents : Contents)
    → IsFeedIn mode origin contents
    → course_from mode origin events contents
    ≡ course_of_feed mode origin events (feed_of origin.sheet false contents events)
course-of_feed mode origin events contents feed =
    feed-from mode origin contents.lines contents.ending (feed-plain mode origin contents feed)
    (feed-none mode origin contents feed) events
