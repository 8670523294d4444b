-- Each course of a cup has a whole text, where each ask about a played cup has an answer.
use Rattle.std.proofs.Common.{ℕ, List, [], None, Result, Ok, Err, length}
use Rattle.std.proofs.lemmas.List.Elements.{All-nil}
use Rattle.std.proofs.Common.{false}
use Rattle.league_core.specs.declared.season.Event.{Event}
use Rattle.league_core.specs.game.Seasons.{AreEventsOf, IsEventOf}
use Rattle.league_core.specs.game.Seasons.{unplayed_season}
use Rattle.port_core.specs.Contents.{Contents}
use Rattle.cup_sheet.specs.declared.cup.Cup.{Cup}
use Rattle.cup_sheet.specs.Cups.{IsCup}
use Rattle.cup_sheet.specs.CupFeeds.{joint_sheet}
use Rattle.cup_sheet.specs.CupReadings.{CupStop, cup_reading_of}
use Rattle.cup_feed.proofs.FeedLawLemmas.{results_each, seasons_each}
use Rattle.run_ends.specs.declared.run_end.RunEnd.TheVariants.{Complete}
use Rattle.run_ends.specs.InputEnds.{outcome_at_cup}
use Rattle.run_ends.specs.Courses.{nothing_after}
use Rattle.run_ends.proofs.AnsweredCourseLemmas.{course-there, entry-may_come}
use Rattle.run_ends.proofs.RunTextLemmas.{HasText, IsAnswered, answers-one, ended-there}
use Rattle.cup_turns.specs.CupCourses.{CupPlayed, IsPlayedCup, cup_course_after, cup_course_from}
use Rattle.cup_turns.specs.CupCourses.{cup_feed_kind, cup_kind, cup_played}
use Rattle.cup_turns.proofs.CupLimitLemmas.{GivesCup, cup-limits}

-- what was played of a cup after events of it is a played cup
pub played-cup : (cup : Cup) (events : List Event) → IsCup cup
    → AreEventsOf (joint_sheet cup) events → IsPlayedCup (cup_played cup events)
played-cup cup events is of_cup = record {
  cup = is;
  of_groups = seasons_each cup events;
  results = results_each cup events of_cup;
}

module _ (IsAnswer : CupPlayed → List ℕ → Type 0)
    (there : (played : CupPlayed) → IsPlayedCup played → (text : List ℕ) × IsAnswer played text)
  where
    -- the course after a cup has a whole text
    feed-there : (cup : Cup) → IsCup cup → (rest : Contents)
        → HasText (cup_kind IsAnswer) (cup_course_from cup [] rest)
    feed-there cup is rest =
        course-there (cup_kind IsAnswer) (cup_feed_kind cup) (AreEventsOf (joint_sheet cup))
        (λ events content event of_cup told.
        entry-may_come false (joint_sheet cup) events content event of_cup told)
        (λ events content of_cup asked.
        let found = there (cup_played cup events) (played-cup cup events is of_cup) in
        (found.0, answers-one IsAnswer (cup_played cup events) found.0 found.1))
        (λ events of_cup. ended-there (cup_kind IsAnswer) Complete)
        (λ number events of_cup. ended-there (cup_kind IsAnswer) Complete)
        nothing_after rest.lines rest.ending
        (λ more events of_cup. ended-there (cup_kind IsAnswer) Complete) []
        (All-nil (IsEventOf (unplayed_season (length (joint_sheet cup).clubs)
        (length (joint_sheet cup).fixtures))))

    -- so has each course
    pub cup-answered : IsAnswered (cup_kind IsAnswer)
    cup-answered contents =
        let reading = cup_reading_of contents None in
        by_gives reading.gives reading.rest (cup-limits contents)
      where
        by_gives : (gives : Result Cup CupStop) (rest : Contents) → GivesCup gives
            → HasText (cup_kind IsAnswer) (cup_course_after gives rest)
        by_gives (Ok cup) rest is = feed-there cup is rest
        by_gives (Err stop) rest is = ended-there (cup_kind IsAnswer) (outcome_at_cup stop)
