-- A text that a complete session writes is accepted, with its input.
use Rattle.std.proofs.Common.{◌≡◌, ℕ, ◌*◌, ◌≤◌, false, List, [], ◌∷◌, ◌++◌, map, length, Some}
use Rattle.std.proofs.Common.{None, Result, Ok, Err, refl, sym, ap, subst, ◌∙◌, append_assoc}
use Rattle.std.proofs.Common.{append-nil, arith}
use Rattle.std.specs.Prelude.{codes}
use Rattle.std.proofs.lemmas.List.Elements.{All-nil}
use Rattle.league_core.specs.declared.sheet.Sheet.{Sheet}
use Rattle.league_core.specs.declared.season.Event.{Event}
use Rattle.league_core.specs.game.Seasons.{IsEventOf, unplayed_season}
use Rattle.port_core.specs.Lines.{lines_of}
use Rattle.port_core.specs.Contents.{Contents, contents_of, input_limit, start}
use Rattle.fixture_sheet.specs.Sheets.{SheetStop}
use Rattle.fixture_sheet.specs.Sheets.{SheetReading, sheet_reading_from, sheet_reading_of}
use Rattle.result_log.specs.declared.entry.Entry.{Entry}
use Rattle.result_log.specs.declared.entry.Entry.TheVariants.{Change, Ask, Proofs, End}
use Rattle.result_log.specs.declared.fault.FeedStop.{FeedStop}
use Rattle.result_log.specs.Feeds.{feed_of}
use Rattle.result_log.specs.inside.FeedParts.{events_after}
use Rattle.result_log.proofs.FeedLemmas.{feed_of-log}
use Rattle.line_tokens.specs.declared.token.Token.{Token}
use Rattle.cert_check.specs.declared.outcome.CheckOutcome.TheVariants.{Accepted}
use Rattle.cert_check.specs.declared.expected.ReportKind.{ReportKind}
use Rattle.cert_check.specs.declared.expected.ReportKind.TheVariants.{Plain, Wide}
use Rattle.kept_lines.specs.LineLists.{numbered}
use Rattle.cert_check.specs.Outcomes.{outcome_of_feed}
use Rattle.cert_check.specs.Outcomes.{outcome_of_report, outcome_of_sheet}
use Rattle.cert_check.proofs.ReadingLemmas.{sheet_read}
use Rattle.run_ends.specs.declared.run_end.RunEnd.{RunEnd}
use Rattle.run_ends.specs.declared.run_end.RunEnd.TheVariants.{Complete}
use Rattle.futmax_main.specs.Checks.{ComesTo, report_judge}
use Rattle.session_turns.specs.Courses.{Course, Origin, course_after, course_of, first_origin}
use Rattle.session_turns.specs.Plays.{Played}
use Rattle.session_turns.specs.Texts.{AreAnswers}
use Rattle.session_turns.specs.inside.FeedCourses.{IsFeedIn, asks_in, course_at_close}
use Rattle.session_turns.specs.inside.FeedCourses.{outcome_at_feed}
use Rattle.session_turns.proofs.CourseLemmas.{course-of_feed}
use Rattle.session_turns.proofs.LimitLemmas.{GivesLimits, sheet-limits}
use Rattle.report_laws.specs.inside.AcceptedReports.{rows_written}
use Rattle.report_laws.specs.inside.AcceptedTexts.{TextsAreAccepted, input_with_answers}
use Rattle.report_laws.specs.inside.AcceptedTexts.{mode_of_kind, rows_of_asks, unsettled_told}
use Rattle.report_laws.proofs.CourseTextLemmas.{TextRead, rows-same, text-read}
use Rattle.report_laws.proofs.FeedProofsLemmas.{GoesBefore, contents-before}
use Rattle.report_laws.proofs.GivenReportLemmas.{GivesReport, report-given}
use Rattle.report_laws.proofs.KnownEndLemmas.{done-complete, feed-unrefused, sheet-refused}
use Rattle.report_laws.proofs.ReportLemmas.{ArePartsRead, report_of_parts}
use Rattle.run_ends.specs.Texts.{IsLastText}
use Rattle.session_turns.specs.Texts.{IsSavedText}

-- ---- what they come to

-- a report after a sheet and its feed
comes-to : (kind : ReportKind) (input text : List ℕ) (sheet : Sheet) (rest : Contents)
    (unsettled : ℕ) (read : TextRead kind sheet (feed_of sheet false rest []).entries
    (unplayed_season (length sheet.clubs) (length sheet.fixtures)) 0 text unsettled)
    → sheet_reading_of (contents_of input) None ≡ record { gives = Ok sheet; rest = rest }
    → GoesBefore sheet rest.lines rest.ending [] → GivesReport input text read.told
    → ComesTo (report_judge kind) (input_with_answers input text)
    (Accepted (rows_written (length sheet.lines * length sheet.clubs)
    (feed_of sheet false rest []).entries) unsettled)
comes-to kind input text sheet rest unsettled read is before given =
    let entries = (feed_of sheet false rest []).entries in
    let found = sheet_read (contents_of input) sheet rest is in
    let tail = given.tail in
    let more = (given.number, codes "proofs") ∷ tail.lines in
    let other : Contents = record { lines = rest.lines ++ more; ending = tail.ending } in
    let lines : (contents_of input).lines ++ more ≡ found.0 ++ other.lines =
    ap (λ (c : Contents). c.lines ++ more) found.1 ∙ append_assoc found.0 rest.lines more in
    let reading : sheet_reading_of (contents_of (input_with_answers input text)) None
    ≡ record { gives = Ok sheet; rest = other } =
    ap (λ (c : Contents). sheet_reading_of c None) given.gives
    ∙ ap (λ (these : List (ℕ × List ℕ)). sheet_reading_from these tail.ending None) lines
    ∙ found.2 other in
    let Of : List Token → Type 0 = λ told. ArePartsRead kind sheet entries
    (unplayed_season (length sheet.clubs) (length sheet.fixtures)) 0 told unsettled in
    ap (λ (r : SheetReading). outcome_of_sheet kind r.rest r.gives) reading
    ∙ ap (outcome_of_feed kind sheet) (before.goes given.number tail.lines tail.ending)
    ∙ ap (outcome_of_report kind sheet entries tail.lines) given.reads.ending
    ∙ ap Some (report_of_parts
    (record {
      kind = kind;
      sheet = sheet;
      lines = map numbered tail.lines;
      end = given.reads.end;
    }) entries unsettled (subst Of (sym given.reads.lines) read.parts))

-- ---- where a feed ends

-- a session that is complete, of such a feed, has nothing more to write
last_none : (kind : ReportKind) (origin : Origin) (close : Result Entry FeedStop)
    (events : List Event) (last : List ℕ)
    → (course_at_close (mode_of_kind kind) origin close events).outcome ≡ Complete
    → IsLastText IsSavedText (course_at_close (mode_of_kind kind) origin close events).outcome
    (course_at_close (mode_of_kind kind) origin close events).closing last
    → (outcome_at_feed close ≡ Complete) × (last ≡ [])
last_none kind origin (Ok (Change event)) events last complete is = (refl, is)
last_none kind origin (Ok Ask) events last complete is = (refl, is)
last_none kind origin (Ok Proofs) events last complete is = (refl, is)
last_none Plain origin (Ok End) events last complete is = (refl, is)
last_none Wide origin (Ok End) events last complete is = (refl, is)
last_none kind origin (Err stop) events last complete is =
    let P : RunEnd → Type 0 = λ outcome. IsLastText IsSavedText outcome None last in
    (complete, subst P complete is)

-- and nothing more to answer
none_asked : (kind : ReportKind) (origin : Origin) (close : Result Entry FeedStop)
    (events : List Event) → (course_at_close (mode_of_kind kind) origin close events).asks ≡ []
none_asked kind origin (Ok (Change event)) events = refl
none_asked kind origin (Ok Ask) events = refl
none_asked kind origin (Ok Proofs) events = refl
none_asked Plain origin (Ok End) events = refl
none_asked Wide origin (Ok End) events = refl
none_asked kind origin (Err stop) events = refl

-- its lines are those of a feed
is_feed : (kind : ReportKind) (sheet : Sheet) (rest : Contents)
    → IsFeedIn (mode_of_kind kind) (first_origin sheet) rest
is_feed Plain sheet rest = refl
is_feed Wide sheet rest = refl

-- ---- sessions

module _ (kind : ReportKind) (input text : List ℕ)
    (inside : length (input_with_answers input text) ≤ input_limit) where
  abbrev contents : Contents
  contents = contents_of input

  -- a text with so many rows, and so many unsettled ones, is accepted
  abbrev IsAccepted : ℕ → ℕ → Type 0
  IsAccepted rows unsettled =
      ComesTo (report_judge kind) (input_with_answers input text) (Accepted rows unsettled)

  -- a session of this course that is complete writes only what is accepted
  abbrev WritesAccepted : Course → Type 0
  WritesAccepted course =
      (answers last : List ℕ) (made : AreAnswers (mode_of_kind kind) course.asks answers)
      → course.outcome ≡ Complete → IsLastText IsSavedText course.outcome course.closing last
      → text ≡ answers ++ last
      → IsAccepted (rows_of_asks course.asks) (unsettled_told kind course.asks answers made)

  -- what these entries ask
  abbrev asked : Sheet → List Entry → List Played
  asked sheet entries = asks_in (mode_of_kind kind) (first_origin sheet) entries []

  -- one whose text is all of the answers
  with_text : (sheet : Sheet) (rest : Contents)
      → sheet_reading_of contents None ≡ record { gives = Ok sheet; rest = rest }
      → outcome_at_feed (feed_of sheet false rest []).close ≡ Complete
      → (made : AreAnswers (mode_of_kind kind) (asked sheet (feed_of sheet false rest []).entries)
      text)
      → IsAccepted (rows_of_asks (asked sheet (feed_of sheet false rest []).entries))
      (unsettled_told kind (asked sheet (feed_of sheet false rest []).entries) text made)
  with_text sheet rest is complete made =
      let entries = (feed_of sheet false rest []).entries in
      let unsettled = unsettled_told kind (asked sheet entries) text made in
      let found = sheet_read contents sheet rest is in
      let limits = subst GivesLimits (ap (λ (r : SheetReading). r.gives) is)
      (sheet-limits contents) in
      let before = contents-before sheet rest []
      (feed-unrefused sheet rest.lines start (lines_of input) rest.ending
      (ap (λ (c : Contents). c.ending) found.1) complete) in
      let kept = feed_of-log sheet false rest []
      (All-nil (IsEventOf (unplayed_season (length sheet.clubs) (length sheet.fixtures))))
      (omega arith) in
      let read = text-read kind sheet entries [] text limits kept.0 kept.1 made in
      let given = report-given input before.end read.told text
      (ap (λ (c : Contents). c.ending) found.1 ∙ before.read) read.bytes read.put inside in
      comes-to kind input text sheet rest unsettled read is before given
      ∙ ap (λ (rows : ℕ). Some (Accepted rows unsettled)) (rows-same kind sheet entries [])

  -- by what comes of the sheet
  by_gives : (gives : Result Sheet SheetStop) (rest : Contents)
      → sheet_reading_of contents None ≡ record { gives = gives; rest = rest }
      → WritesAccepted (course_after (mode_of_kind kind) gives rest)
  by_gives (Ok sheet) rest is =
      let origin = first_origin sheet in
      let feed = feed_of sheet false rest [] in
      let asks = asked sheet feed.entries in
      let Writes : Course → Type 0 = λ c. WritesAccepted c in
      subst Writes (sym (course-of_feed (mode_of_kind kind) origin [] rest
      (is_feed kind sheet rest)))
      (λ answers last made complete is_last same.
      let ended = last_none kind origin feed.close (events_after [] feed.entries) last complete
      is_last in
      let whole : text ≡ answers =
      same ∙ ap (λ more. answers ++ more) ended.1 ∙ append-nil answers in
      let All : List ℕ → Type 0 = λ these. (told : AreAnswers (mode_of_kind kind) asks these)
      → IsAccepted (rows_of_asks asks) (unsettled_told kind asks these told) in
      let Of : List Played → Type 0 = λ plays. (told : AreAnswers (mode_of_kind kind) plays answers)
      → IsAccepted (rows_of_asks plays) (unsettled_told kind plays answers told) in
      let same_asks : asks ++ (course_at_close (mode_of_kind kind) origin feed.close
      (events_after [] feed.entries)).asks ≡ asks =
      ap (λ more. asks ++ more) (none_asked kind origin feed.close (events_after [] feed.entries))
      ∙ append-nil asks in
      subst Of (sym same_asks) (subst All whole (with_text sheet rest is ended.0)) made)
  by_gives (Err stop) rest is = λ answers last made complete is_last same.
      absurd (sheet-refused (lines_of input) start stop
      (ap (λ (r : SheetReading). r.gives) is) complete)

pub texts_accepted : TextsAreAccepted
texts_accepted kind input text done told inside =
    let contents = contents_of input in
    let reading = sheet_reading_of contents None in
    let course = course_of (mode_of_kind kind) contents in
    let complete : course.outcome ≡ Complete = done-complete course.outcome done in (
      Accepted (rows_of_asks course.asks) (unsettled_told kind course.asks told.0 told.2),
      by_gives kind input text inside reading.gives reading.rest refl told.0 told.1 told.2 complete
          told.3 told.4,
      refl,
      refl,
    )
