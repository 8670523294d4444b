-- The law of courses: what is asked line by line is what the whole feed asks.
use Rattle.std.specs.Prelude.{◌≡◌, false, List, [], ◌∷◌, ◌++◌, All, None, Result, Ok, Err}
use Rattle.league_core.specs.declared.season.Event.{Event}
use Rattle.port_core.specs.Contents.{Contents}
use Rattle.result_log.specs.declared.entry.Entry.{Entry}
use Rattle.result_log.specs.declared.entry.Entry.TheVariants as entry
use Rattle.result_log.specs.declared.fault.FeedStop.{FeedStop}
use Rattle.result_log.specs.declared.fault.FeedStop.TheVariants as feed_stop
use Rattle.result_log.specs.Feeds.{Feed, feed_of}
use Rattle.result_log.specs.inside.FeedParts.{events_after}
use Rattle.command_words.specs.declared.command.Mode.{Mode}
use Rattle.command_words.specs.declared.command.Mode.TheVariants.{WhatIf}
use Rattle.run_ends.specs.declared.run_end.Cause.TheVariants as cause
use Rattle.run_ends.specs.declared.run_end.RunEnd.{RunEnd}
use Rattle.run_ends.specs.declared.run_end.RunEnd.TheVariants.{Complete, Refused}
use Rattle.session_turns.specs.Plays.{Played}
use Rattle.session_turns.specs.Courses.{Course, Origin, about_in, asks_about, awaits_saved}
use Rattle.session_turns.specs.Courses.{course_closed, course_from}
use Rattle.run_ends.specs.InputEnds.{outcome_at_stop}
use Rattle.run_ends.specs.Courses.{course_ended, with_asks}

-- where the feed ends: it may end anywhere
abbrev pub outcome_at_feed : Result Entry FeedStop → RunEnd
outcome_at_feed (Ok entry) = Complete
outcome_at_feed (Err (feed_stop.Fault number fault)) =
    Refused (record { number = number; cause = cause.Feed fault })
outcome_at_feed (Err (feed_stop.Read stop)) = outcome_at_stop stop
outcome_at_feed (Err feed_stop.OutOfMemory) = Complete

-- what an entry asks after these events; `onward` is what the entries after it ask, by the events
-- before them
abbrev pub asks_by : Mode → Origin → List Event → (List Event → List Played) → Entry → List Played
asks_by mode origin events onward (entry.Change event) = onward (events ++ event ∷ [])
asks_by mode origin events onward entry.Ask = asks_about mode origin events None ++ onward events
asks_by mode origin events onward entry.Proofs = onward events
asks_by mode origin events onward entry.End = onward events

-- what these entries ask, after these events
abbrev pub asks_in : Mode → Origin → List Entry → List Event → List Played
asks_in mode origin [] events = []
asks_in mode origin (entry ∷ entries) events =
    asks_by mode origin events (asks_in mode origin entries) entry

-- the course where a feed ends after these events
abbrev pub course_at_close : Mode → Origin → Result Entry FeedStop → List Event → Course
course_at_close mode origin (Ok entry.End) events = course_closed mode origin events
course_at_close mode origin close events = course_ended (outcome_at_feed close)

-- the course of a feed after these events
abbrev pub course_of_feed : Mode → Origin → List Event → Feed → Course
course_of_feed mode origin events feed =
    with_asks (asks_in mode origin feed.entries events)
    (course_at_close mode origin feed.close (events_after events feed.entries))

-- no saved text must come before these contents, and they are a feed, whose lines ask about no
-- fixture: only where a `when` may stand that has to be said
abbrev pub IsFeedIn : Mode → Origin → Contents → Type 0
IsFeedIn WhatIf origin contents = All (λ line. about_in WhatIf line.1 ≡ None) contents.lines
IsFeedIn mode origin contents = awaits_saved mode origin.saved ≡ false

-- the course of any contents from an origin is that of the feed that they are
abbrev pub CoursesAreOfFeeds : Type 0
CoursesAreOfFeeds =
    (mode : Mode) (origin : Origin) (events : List Event) (contents : Contents)
    → IsFeedIn mode origin contents
    → course_from mode origin events contents
    ≡ course_of_feed mode origin events (feed_of origin.sheet false contents events)
