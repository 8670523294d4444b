-- The course of the lines after a cup's sheet is that of the feed of its joint sheet; and a text
-- that is made of an answer for each ask on it is the answers of the asks of that feed.
use Rattle.std.proofs.Common.{◌≡◌, ℕ, ◌+◌, true, false, List, [], ◌∷◌, ◌++◌, Option, Some, None}
use Rattle.std.proofs.Common.{Result, Ok, Err, refl, ap, subst}
use Rattle.league_core.specs.declared.season.Event.{Event}
use Rattle.league_core.specs.game.Results.{Results}
use Rattle.league_core.specs.game.Seasons.{epoch_of, season_after}
use Rattle.port_core.specs.declared.line.ReadStop.{ReadStop}
use Rattle.port_core.specs.Contents.{Contents}
use Rattle.result_log.specs.declared.entry.Entry.{Entry}
use Rattle.result_log.specs.declared.entry.Entry.TheVariants.{Change, Ask, Proofs, End}
use Rattle.result_log.specs.declared.fault.FeedFault.{FeedFault}
use Rattle.result_log.specs.Feeds.{Feed, entry_in, feed_by, feed_from, feed_of, season_with}
use Rattle.result_log.proofs.FeedLemmas.{season_after-entry}
use Rattle.answer_rows.specs.Parts.{IsMadeOf}
use Rattle.cup_sheet.specs.declared.cup.Cup.{Cup}
use Rattle.cup_sheet.specs.Cups.{clubs_together}
use Rattle.cup_sheet.specs.CupFeeds.{joint_sheet, seasons_after}
use Rattle.cup_turns.specs.CupCourses.{CupPlayed, cup_course_from, cup_feed_kind, cup_played}
use Rattle.run_ends.specs.Courses.{CourseOf, course_by, course_in, nothing_after, with_asks}
use Rattle.session_turns.specs.inside.FeedCourses.{outcome_at_feed}
use Rattle.futmax_main.specs.CupModes.{IsGroupsAnswer}
use Rattle.report_laws.specs.inside.AcceptedCupTexts.{rows_of_cup_asks, unsettled_in_cup_text}
use Rattle.report_laws.specs.inside.WrittenCupReports.{AreCupAnswers, rows_in_answers}
use Rattle.report_laws.specs.inside.WrittenCupReports.{unsettled_in_answer, unsettled_in_answers}

-- ---- the course of a feed

-- what these entries ask, after these events
abbrev pub cup_asks_in : Cup → List Entry → List Event → List CupPlayed
cup_asks_in cup [] events = []
cup_asks_in cup (Change event ∷ entries) events = cup_asks_in cup entries (events ++ event ∷ [])
cup_asks_in cup (Ask ∷ entries) events = cup_played cup events ∷ cup_asks_in cup entries events
cup_asks_in cup (Proofs ∷ entries) events = cup_asks_in cup entries events
cup_asks_in cup (End ∷ entries) events = cup_asks_in cup entries events

-- the course of a feed after these events
abbrev pub cup_course_of_feed : Cup → List Event → Feed → CourseOf CupPlayed
cup_course_of_feed cup events feed = record {
  asks = cup_asks_in cup feed.entries events;
  outcome = outcome_at_feed feed.close;
  closing = None;
}

module _ (cup : Cup) where
  -- a line more
  cup_feed_line : (line : ℕ × List ℕ) (lines : List (ℕ × List ℕ)) (ending : Result ℕ ReadStop)
      → ((events : List Event)
      → course_in (cup_feed_kind cup) nothing_after lines ending events
      ≡ cup_course_of_feed cup events (feed_from (joint_sheet cup) false lines ending events))
      → (events : List Event) (found : Result (Option Entry) FeedFault)
      → course_by (cup_feed_kind cup) line
      (λ log. nothing_after log (record { lines = lines; ending = ending }))
      (course_in (cup_feed_kind cup) nothing_after lines ending) events found
      ≡ cup_course_of_feed cup events (feed_by line.0 (record { lines = lines; ending = ending })
      (feed_from (joint_sheet cup) false lines ending) events found)
  cup_feed_line line lines ending behind events (Ok None) = behind events
  cup_feed_line line lines ending behind events (Ok (Some (Change event))) =
      behind (events ++ event ∷ [])
  cup_feed_line line lines ending behind events (Ok (Some Ask)) =
      ap (with_asks (cup_played cup events ∷ [])) (behind events)
  cup_feed_line line lines ending behind events (Ok (Some Proofs)) = refl
  cup_feed_line line lines ending behind events (Ok (Some End)) = refl
  cup_feed_line line lines ending behind events (Err fault) = refl

  -- all lines
  cup_feed_lines : (lines : List (ℕ × List ℕ)) (ending : Result ℕ ReadStop) (events : List Event)
      → course_in (cup_feed_kind cup) nothing_after lines ending events
      ≡ cup_course_of_feed cup events (feed_from (joint_sheet cup) false lines ending events)
  cup_feed_lines [] (Ok number) events = refl
  cup_feed_lines [] (Err stop) events = refl
  cup_feed_lines (line ∷ lines) ending events =
      cup_feed_line line lines ending (cup_feed_lines lines ending) events
      (entry_in (joint_sheet cup) (season_after (joint_sheet cup) events) (epoch_of events) false
      line.1)

  pub cup_course_fed : (events : List Event) (contents : Contents)
      → cup_course_from cup events contents
      ≡ cup_course_of_feed cup events (feed_of (joint_sheet cup) false contents events)
  cup_course_fed events contents = cup_feed_lines contents.lines contents.ending events

-- ---- answers

-- a text as the answers of entries, with so many unsettled clubs
pub record AnswersTold (cup : Cup) (entries : List Entry) (season : Results) (epoch : ℕ)
    (text : List ℕ) (unsettled : ℕ) : Type 0 where
  pub told : AreCupAnswers cup entries season epoch text
  pub same : unsettled_in_answers cup entries season epoch text told ≡ unsettled

-- one more event before them
event_told : (cup : Cup) (entries : List Entry) (events : List Event) (event : Event)
    (text : List ℕ) (unsettled : ℕ)
    → AnswersTold cup entries (season_after (joint_sheet cup) (events ++ event ∷ []))
    (epoch_of (events ++ event ∷ [])) text unsettled
    → AnswersTold cup (Change event ∷ entries) (season_after (joint_sheet cup) events)
    (epoch_of events) text unsettled
event_told cup entries events event text unsettled behind =
    let grown = season_after-entry (joint_sheet cup) events (Change event) in
    let Of : Results → Type 0 = λ season. AnswersTold cup entries season
    (epoch_of (events ++ event ∷ [])) text unsettled in
    let At : ℕ → Type 0 = λ epoch. AnswersTold cup entries
    (season_with (season_after (joint_sheet cup) events) (Change event)) epoch text unsettled in
    let found : AnswersTold cup entries
    (season_with (season_after (joint_sheet cup) events) (Change event)) (epoch_of events + 1)
    text unsettled =
    subst At grown.1 (subst Of grown.0 behind) in
    record { told = found.told; same = found.same }

-- all of them
pub answers_told : (cup : Cup) (entries : List Entry) (events : List Event) (text : List ℕ)
    (made : IsMadeOf (IsGroupsAnswer true) (cup_asks_in cup entries events) text)
    → AnswersTold cup entries (season_after (joint_sheet cup) events) (epoch_of events) text
    (unsettled_in_cup_text (cup_asks_in cup entries events) text made)
answers_told cup [] events text made = record { told = made; same = refl }
answers_told cup (Change event ∷ entries) events text made =
    event_told cup entries events event text
    (unsettled_in_cup_text (cup_asks_in cup entries (events ++ event ∷ [])) text made)
    (answers_told cup entries (events ++ event ∷ []) text made)
answers_told cup (Ask ∷ entries) events text made =
    let behind = answers_told cup entries events made.1 made.4 in
    record {
      told = (made.0, made.1, made.2, made.3, behind.told);
      same = ap (λ (more : ℕ).
          unsettled_in_answer cup (seasons_after cup events) (epoch_of events) made.0 made.3
          + more) behind.same;
    }
answers_told cup (Proofs ∷ entries) events text made =
    let behind = answers_told cup entries events text made in
    record { told = behind.told; same = behind.same }
answers_told cup (End ∷ entries) events text made =
    let behind = answers_told cup entries events text made in
    record { told = behind.told; same = behind.same }

-- they have a row for each club at each ask
pub cup_rows_same : (cup : Cup) (entries : List Entry) (events : List Event)
    → rows_in_answers cup entries ≡ rows_of_cup_asks (cup_asks_in cup entries events)
cup_rows_same cup [] events = refl
cup_rows_same cup (Change event ∷ entries) events =
    cup_rows_same cup entries (events ++ event ∷ [])
cup_rows_same cup (Ask ∷ entries) events =
    ap (λ (rest : ℕ). clubs_together cup.groups + rest) (cup_rows_same cup entries events)
cup_rows_same cup (Proofs ∷ entries) events = cup_rows_same cup entries events
cup_rows_same cup (End ∷ entries) events = cup_rows_same cup entries events
