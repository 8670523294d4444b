-- A text that a complete session of a cup writes is accepted, with its input.
use Rattle.std.proofs.Common.{◌≡◌, ℕ, ◌≤◌, true, false, List, [], ◌∷◌, ◌++◌, length, None, Some}
use Rattle.std.proofs.Common.{Result, Ok, Err, refl, sym, ap, subst, ◌∙◌, append_assoc, append-nil}
use Rattle.std.proofs.Common.{arith}
use Rattle.std.specs.Prelude.{codes, option_map}
use Rattle.std.proofs.lemmas.List.Elements.{All-nil}
use Rattle.league_core.specs.game.Results.{Results}
use Rattle.league_core.specs.game.Seasons.{IsEventOf, unplayed_season}
use Rattle.port_core.specs.declared.line.ReadStop.{ReadStop}
use Rattle.port_core.specs.Lines.{lines_of}
use Rattle.port_core.specs.Contents.{Contents, contents_from, contents_of, input_limit, start}
use Rattle.result_log.specs.Feeds.{feed_of}
use Rattle.result_log.proofs.FeedLemmas.{feed_of-log}
use Rattle.answer_rows.specs.Parts.{IsMadeOf}
use Rattle.cert_check.specs.declared.outcome.CheckOutcome.TheVariants.{Accepted}
use Rattle.cup_sheet.specs.declared.cup.Cup.{Cup}
use Rattle.cup_sheet.specs.CupReadings.{CupStop}
use Rattle.cup_sheet.specs.Cups.{IsCup}
use Rattle.cup_sheet.specs.CupFeeds.{joint_sheet}
use Rattle.cup_sheet.specs.CupReadings.{CupReading, cup_reading_from, cup_reading_of}
use Rattle.cup_check.specs.declared.outcome.CupOutcome.TheVariants.{Judged}
use Rattle.cup_check.specs.CupOutcomes.{outcome_of_cup_feed, outcome_of_cup_reading}
use Rattle.cup_check.specs.CupOutcomes.{outcome_of_cup_report}
use Rattle.cup_check.proofs.CupReadingLemmas.{cup_read}
use Rattle.cup_turns.specs.CupCourses.{CupPlayed, IsUnwritten, cup_course_after, cup_course_of}
use Rattle.cup_turns.proofs.CupLimitLemmas.{GivesCup, cup-limits}
use Rattle.run_ends.specs.declared.run_end.RunEnd.{RunEnd}
use Rattle.run_ends.specs.declared.run_end.RunEnd.TheVariants.{Complete}
use Rattle.run_ends.specs.Courses.{CourseOf}
use Rattle.run_ends.specs.Texts.{IsLastText}
use Rattle.session_turns.specs.inside.FeedCourses.{outcome_at_feed}
use Rattle.futmax_main.specs.Checks.{ComesTo}
use Rattle.futmax_main.specs.CupModes.{IsGroupsAnswer, cup_judge}
use Rattle.report_laws.specs.inside.AcceptedCupTexts.{CupTextsAreAccepted, rows_of_cup_asks}
use Rattle.report_laws.specs.inside.AcceptedCupTexts.{unsettled_in_cup_text}
use Rattle.report_laws.specs.inside.AcceptedTexts.{input_with_answers}
use Rattle.report_laws.specs.inside.WrittenCupReports.{rows_in_answers, unsettled_in_answers}
use Rattle.report_laws.proofs.CupCourseTextLemmas.{answers_told, cup_asks_in, cup_course_fed}
use Rattle.report_laws.proofs.CupCourseTextLemmas.{cup_rows_same}
use Rattle.report_laws.proofs.CupGivenLemmas.{GivesCupReport, cup_report_given}
use Rattle.report_laws.proofs.CupReportLemmas.{answers_read, written_cup_reports}
use Rattle.report_laws.proofs.FeedProofsLemmas.{GoesBefore, contents-before}
use Rattle.report_laws.proofs.KnownEndLemmas.{cup-refused, done-complete, feed-unrefused}

-- ---- what they come to

-- a season of a cup in which nothing was played yet
abbrev unplayed_cup : Cup → Results
unplayed_cup cup =
    unplayed_season (length (joint_sheet cup).clubs) (length (joint_sheet cup).fixtures)

-- a report after the sheet of a cup and its feed
comes_to : (input text : List ℕ) (cup : Cup) (rest : Contents) (unsettled : ℕ)
    → cup_reading_of (contents_of input) None ≡ record { gives = Ok cup; rest = rest }
    → GoesBefore (joint_sheet cup) rest.lines rest.ending [] → (given : GivesCupReport input text)
    → outcome_of_cup_report cup (feed_of (joint_sheet cup) false rest []).entries
    (contents_from given.position (lines_of text)).lines (Ok given.end)
    ≡ Some (Accepted (rows_in_answers cup (feed_of (joint_sheet cup) false rest []).entries)
    unsettled)
    → ComesTo cup_judge (input_with_answers input text)
    (Judged (Accepted (rows_in_answers cup (feed_of (joint_sheet cup) false rest []).entries)
    unsettled))
comes_to input text cup rest unsettled is before given accepted =
    let entries = (feed_of (joint_sheet cup) false rest []).entries in
    let found = cup_read (contents_of input) cup rest is in
    let tail = contents_from given.position (lines_of text) in
    let more = (given.number, codes "proofs") ∷ tail.lines in
    let other : Contents = record { lines = rest.lines ++ more; ending = tail.ending } in
    let lines : (contents_of input).lines ++ more ≡ found.0 ++ other.lines =
    ap (λ (c : Contents). c.lines ++ more) found.1 ∙ append_assoc found.0 rest.lines more in
    let reading : cup_reading_of (contents_of (input_with_answers input text)) None
    ≡ record { gives = Ok cup; rest = other } =
    ap (λ (c : Contents). cup_reading_of c None) given.gives
    ∙ ap (λ (these : List (ℕ × List ℕ)). cup_reading_from these tail.ending None) lines
    ∙ found.2 other in
    ap outcome_of_cup_reading reading
    ∙ ap (option_map Judged)
    (ap (outcome_of_cup_feed cup) (before.goes given.number tail.lines tail.ending)
    ∙ ap (outcome_of_cup_report cup entries tail.lines) given.ends ∙ accepted)

-- ---- sessions

-- a session that is complete, and has nothing answered at its end, has nothing more to write
nothing_last : (outcome : RunEnd) (last : List ℕ) → outcome ≡ Complete
    → IsLastText IsUnwritten outcome None last → last ≡ []
nothing_last outcome last complete is =
    let P : RunEnd → Type 0 = λ ends. IsLastText IsUnwritten ends None last in
    subst P complete is

module _ (input text : List ℕ) (inside : length (input_with_answers input text) ≤ input_limit) where
  abbrev contents : Contents
  contents = contents_of input

  -- a text with so many rows, and so many unsettled clubs, is accepted
  abbrev IsAccepted : ℕ → ℕ → Type 0
  IsAccepted rows unsettled =
      ComesTo cup_judge (input_with_answers input text) (Judged (Accepted rows unsettled))

  -- a session of this course that is complete writes only what is accepted
  abbrev WritesAccepted : CourseOf CupPlayed → Type 0
  WritesAccepted course =
      (answers last : List ℕ) (made : IsMadeOf (IsGroupsAnswer true) course.asks answers)
      → course.outcome ≡ Complete
      → IsLastText IsUnwritten course.outcome course.closing last → text ≡ answers ++ last
      → IsAccepted (rows_of_cup_asks course.asks) (unsettled_in_cup_text course.asks answers made)

  -- one whose text is all of the answers
  with_text : (cup : Cup) (rest : Contents)
      → cup_reading_of contents None ≡ record { gives = Ok cup; rest = rest }
      → outcome_at_feed (feed_of (joint_sheet cup) false rest []).close ≡ Complete
      → (made : IsMadeOf (IsGroupsAnswer true)
      (cup_asks_in cup (feed_of (joint_sheet cup) false rest []).entries []) text)
      → IsAccepted
      (rows_of_cup_asks (cup_asks_in cup (feed_of (joint_sheet cup) false rest []).entries []))
      (unsettled_in_cup_text (cup_asks_in cup (feed_of (joint_sheet cup) false rest []).entries [])
      text made)
  with_text cup rest is complete made =
      let sheet = joint_sheet cup in
      let entries = (feed_of sheet false rest []).entries in
      let asks = cup_asks_in cup entries [] in
      let found = cup_read contents cup rest is in
      let is_cup : IsCup cup =
      subst GivesCup (ap (λ (r : CupReading). r.gives) is) (cup-limits contents) in
      let before = contents-before sheet rest []
      (feed-unrefused sheet rest.lines start (lines_of input) rest.ending
      (ap (λ (c : Contents). c.ending) found.1) complete) in
      let kept = feed_of-log sheet false rest [] (All-nil (IsEventOf (unplayed_cup cup)))
      (omega arith) in
      let answers = answers_told cup entries [] text made in
      let read = answers_read cup is_cup [] entries (unplayed_cup cup) 0 text kept.0 kept.1 refl
      refl answers.told in
      let given = cup_report_given input before.end read.tokens text
      (ap (λ (c : Contents). c.ending) found.1 ∙ before.read) read.bytes read.bodies inside in
      let tail = contents_from given.position (lines_of text) in
      let whole = written_cup_reports cup entries text given.position tail.lines given.end is_cup
      kept.0 kept.1 answers.told given.behind
      (ap (λ (e : Result ℕ ReadStop). record { lines = tail.lines; ending = e }) given.ends) in
      let own = unsettled_in_answers cup entries (unplayed_cup cup) 0 text answers.told in
      let comes : IsAccepted (rows_in_answers cup entries) own =
      comes_to input text cup rest own is before given whole in
      let Rows : ℕ → Type 0 = λ rows. IsAccepted rows own in
      let Counts : ℕ → Type 0 = λ count. IsAccepted (rows_of_cup_asks asks) count in
      subst Counts answers.same (subst Rows (cup_rows_same cup entries []) comes)

  -- by what comes of the sheet
  by_gives : (gives : Result Cup CupStop) (rest : Contents)
      → cup_reading_of contents None ≡ record { gives = gives; rest = rest }
      → WritesAccepted (cup_course_after gives rest)
  by_gives (Ok cup) rest is =
      let feed = feed_of (joint_sheet cup) false rest [] in
      let asks = cup_asks_in cup feed.entries [] in
      let Writes : CourseOf CupPlayed → Type 0 = λ course. WritesAccepted course in
      subst Writes (sym (cup_course_fed cup [] rest))
      (λ answers last made complete is_last same.
      let ended = nothing_last (outcome_at_feed feed.close) last complete is_last in
      let whole : text ≡ answers =
      same ∙ ap (λ more. answers ++ more) ended ∙ append-nil answers in
      let Told : List ℕ → Type 0 = λ these. (told : IsMadeOf (IsGroupsAnswer true) asks these)
      → IsAccepted (rows_of_cup_asks asks) (unsettled_in_cup_text asks these told) in
      subst Told whole (with_text cup rest is complete) made)
  by_gives (Err stop) rest is = λ answers last made complete is_last same.
      absurd (cup-refused (lines_of input) start stop (ap (λ (r : CupReading). r.gives) is)
      complete)

pub cup_texts_accepted : CupTextsAreAccepted
cup_texts_accepted input text done told inside =
    let reading = cup_reading_of (contents_of input) None in
    let course = cup_course_of (contents_of input) in
    let complete : course.outcome ≡ Complete = done-complete course.outcome done in (
      Judged (Accepted (rows_of_cup_asks course.asks)
          (unsettled_in_cup_text course.asks told.0 told.2)),
      by_gives input text inside reading.gives reading.rest refl told.0 told.1 told.2 complete
          told.3 told.4,
      refl,
      refl,
    )
