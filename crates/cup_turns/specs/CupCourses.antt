-- The course of a cup's input: the sheet of the cup comes first, and then the feed of all its
-- groups, line after line, each read in the season of the events before it. Each ask is about what
-- was played of all groups so far; nothing is asked at the end.
use Rattle.std.specs.Prelude.{◌≡◌, ℕ, false, IsTrue, List, [], ◌∷◌, All, None, Result, Ok, Err}
use Rattle.league_core.specs.declared.season.Event.{Event}
use Rattle.league_core.specs.game.Results.{Results, are_results}
use Rattle.league_core.specs.game.Seasons.{epoch_of, season_after}
use Rattle.port_core.specs.Contents.{Contents}
use Rattle.result_log.specs.Feeds.{entry_in}
use Rattle.cup_sheet.specs.declared.cup.Cup.{Cup}
use Rattle.cup_sheet.specs.Cups.{AreSeasonsOf, IsCup}
use Rattle.cup_sheet.specs.CupFeeds.{joint_sheet, seasons_after}
use Rattle.cup_sheet.specs.CupReadings.{CupReading, CupStop, cup_reading_of}
use Rattle.run_ends.specs.declared.run_end.RunEnd.TheVariants.{Complete}
use Rattle.run_ends.specs.InputEnds.{outcome_at_cup}
use Rattle.run_ends.specs.Courses.{CourseOf, FeedKind, course_ended, feed_course, nothing_after}
use Rattle.run_ends.specs.Texts.{SessionKind}

-- ---- what is asked about

-- what an ask is of: a cup, the season of each of its groups so far, and how many events there were
pub record CupPlayed : Type 0 where
  pub cup : Cup
  pub seasons : List Results
  pub epoch : ℕ

-- what was played of a cup after these events
abbrev pub cup_played : Cup → List Event → CupPlayed
cup_played cup events =
    record { cup = cup; seasons = seasons_after cup events; epoch = epoch_of events }

-- a cup that may be played, with a season of each of its groups, such as may be
pub record IsPlayedCup (played : CupPlayed) : Type 0 where
  pub cup : IsCup played.cup
  pub of_groups : AreSeasonsOf played.cup.groups played.seasons
  pub results : All (λ (season : Results). IsTrue (are_results season)) played.seasons

-- ---- courses

-- how the lines after a cup's sheet make a course: they are a feed over all clubs and fixtures of
-- the cup, which no proofs follow
abbrev pub cup_feed_kind : Cup → FeedKind CupPlayed
cup_feed_kind cup = record {
  line = λ events.
      let sheet = joint_sheet cup in
      entry_in sheet (season_after sheet events) (epoch_of events) false;
  asks = λ events content. cup_played cup events ∷ [];
  closed = λ events. course_ended Complete;
  ending = λ number events. course_ended Complete;
}

-- the course of contents after a cup's sheet and these events
abbrev pub cup_course_from : Cup → List Event → Contents → CourseOf CupPlayed
cup_course_from cup events contents =
    feed_course (cup_feed_kind cup) nothing_after events contents

-- the course after what came of the sheet
abbrev pub cup_course_after : Result Cup CupStop → Contents → CourseOf CupPlayed
cup_course_after (Ok cup) rest = cup_course_from cup [] rest
cup_course_after (Err stop) rest = course_ended (outcome_at_cup stop)

-- the course of a reading of a cup's sheet, and of what comes after it
abbrev pub cup_course_of_reading : CupReading → CourseOf CupPlayed
cup_course_of_reading reading = cup_course_after reading.gives reading.rest

-- the course of all contents of an input
abbrev pub cup_course_of : Contents → CourseOf CupPlayed
cup_course_of contents = cup_course_of_reading (cup_reading_of contents None)

-- ---- the session

-- no text is written where the input ends
abbrev pub IsUnwritten : CupPlayed → List ℕ → Type 0
IsUnwritten played text = text ≡ []

-- the session of a cup whose asks have these answers
abbrev pub cup_kind : (CupPlayed → List ℕ → Type 0) → SessionKind CupPlayed
cup_kind IsAnswer =
    record { course = cup_course_of; IsAnswer = IsAnswer; IsClosing = IsUnwritten }
