-- Each course has a whole text: what was played at an ask is a season of a sheet within the limits,
-- and each such season has an answer, whatever is answered; and so has the end of an input.
use Rattle.std.proofs.Common.{◌≡◌, ℕ, ◌<◌, Bool, true, false, eqb, List, [], ◌∷◌, ◌++◌, length, map}
use Rattle.std.proofs.Common.{Option, None, Some, Result, Ok, Err, refl, sym, ◌∙◌, subst, arith}
use Rattle.std.proofs.Common.{if◌then◌else◌}
use Rattle.std.specs.Prelude.{All, IfSome}
use Rattle.std.specs.List.{range_with_len}
use Rattle.std.proofs.lemmas.Bool.{or_left, or_right, eq-eqb}
use Rattle.std.proofs.lemmas.List.Elements.{All-nil, All-head, All-tail}
use Rattle.league_core.specs.declared.sheet.Sheet.{Sheet}
use Rattle.league_core.specs.declared.season.Event.{Event}
use Rattle.league_core.specs.declared.question.Claim.TheVariants.{Inside}
use Rattle.league_core.specs.game.Results.{Results, are_results}
use Rattle.league_core.specs.search.Trees.{Tree}
use Rattle.league_core.specs.game.Sheets.{IsWithinLimits, clubs_of}
use Rattle.league_core.specs.game.Seasons.{AreEventsOf, IsEventOf, IsLeague, epoch_of}
use Rattle.league_core.specs.game.Seasons.{season_after, unplayed_season}
use Rattle.league_core.specs.game.Sums.{has_club, points_of, sum_of, goal_difference, goals}
use Rattle.league_core.specs.inside.LotsFor.{best_place_of, worst_place_of}
use Rattle.league_core.specs.game.Ranking.{are_lots}
use Rattle.league_core.proofs.LotsLemmas.{lots_for_claim-are_lots}
use Rattle.league_core.proofs.LogLemmas.{season_after_of, season_after_results}
use Rattle.port_core.specs.declared.line.ReadStop.{ReadStop}
use Rattle.port_core.specs.Contents.{Contents}
use Rattle.fixture_sheet.specs.Sheets.{SheetStop}
use Rattle.fixture_sheet.specs.Sheets.{sheet_reading_of}
use Rattle.result_log.specs.declared.entry.Entry.{Entry}
use Rattle.result_log.specs.declared.entry.Entry.TheVariants.{Change, Ask}
use Rattle.result_log.specs.declared.fault.FeedFault.{FeedFault}
use Rattle.result_log.specs.Feeds.{entry_in}
use Rattle.cert_text.specs.ExampleLines.{text_of_proof_lines}
use Rattle.final_rank.proofs.PlaceLemmas.{best_is, worst_is}
use Rattle.final_rank.proofs.TierLemmas.{below_clubs}
use Rattle.answer_rows.specs.Items.{AnswerRow, answer_rows}
use Rattle.answer_laws.specs.inside.SeasonAnswers.{AnswerItem, IsKnownItem}
use Rattle.answer_laws.proofs.AnswerLemmas.{season_answered}
use Rattle.qual_scores.proofs.SeasonScoreLemmas.{scores_there}
use Rattle.answer_laws.proofs.TableLemmas.{table_there}
use Rattle.answer_rows.specs.declared.table_row.TableRow.{TableRow}
use Rattle.answer_rows.specs.Parts.{IsMadeOf, club_name}
use Rattle.answer_rows.specs.Rows.{ask_row}
use Rattle.answer_rows.specs.Rows.{place_row, verdict_row}
use Rattle.answer_rows.specs.Tables.{IsPlaceRow, IsTableRow, IsTableText, count_played}
use Rattle.answer_rows.proofs.TableLemmas.{first_lots-range}
use Rattle.answer_rows.specs.ScoreTexts.{text_of_scores}
use Rattle.command_words.specs.declared.command.Mode.{Mode}
use Rattle.what_if.specs.inside.StepCalls.{IsUnplayedFixture}
use Rattle.what_if.specs.declared.step.Step.{Step as AskStep}
use Rattle.what_if.specs.declared.step.Step.TheVariants as step
use Rattle.what_if.specs.Steps.{about_of, forgotten, step_in, step_line}
use Rattle.what_if.proofs.StepLemmas.{asks-unplayed, other-same, step-about}
use Rattle.what_if.proofs.WhenLemmas.{when_there}
use Rattle.command_words.specs.declared.command.Mode.TheVariants.{Verdicts, Table, Scores, WhatIf}
use Rattle.command_words.specs.declared.command.Mode.TheVariants.{Save, Resume, Decide, Check}
use Rattle.command_words.specs.declared.command.Mode.TheVariants.{Groups, GroupsCheck, Sample}
use Rattle.answer_rows.specs.AskedQuestions.{questions_of}
use Rattle.pool_save.specs.declared.stop.SaveStop.{SaveStop}
use Rattle.pool_save.specs.SavedReadings.{nothing_saved, saved_reading_of}
use Rattle.session_turns.proofs.SavedThereLemmas.{saved_there}
use Rattle.session_turns.proofs.DecidedThereLemmas.{decided_there}
use Rattle.pool_save.proofs.UnspentItemLemmas.{unspent_items_there}
use Rattle.pool_save.specs.SavedAnswers.{IsItemText}
use Rattle.run_ends.specs.declared.run_end.RunEnd.TheVariants.{Complete, Refused}
use Rattle.session_turns.specs.Plays.{Played}
use Rattle.session_turns.specs.Courses.{Course, Origin, about_in, asked_about, asks_about}
use Rattle.session_turns.specs.Courses.{awaits_saved, course_after, course_after_saved}
use Rattle.session_turns.specs.Courses.{course_at_ending}
use Rattle.session_turns.specs.Courses.{course_after_proofs, course_closed}
use Rattle.session_turns.specs.Courses.{course_of, course_of_saved, first_origin}
use Rattle.session_turns.specs.Courses.{outcome_at_save}
use Rattle.run_ends.specs.InputEnds.{outcome_at_sheet}
use Rattle.session_turns.specs.Courses.{saved_origin}
use Rattle.run_ends.specs.InputEnds.{save_fault}
use Rattle.session_turns.specs.inside.Progress.{line_after}
use Rattle.session_turns.specs.Answers.{IsAnswerTo, IsScoresText, IsVerdictsText, IsWhatIfText}
use Rattle.session_turns.proofs.LimitLemmas.{GivesLimits, sheet-limits}
use Rattle.run_ends.proofs.AnsweredCourseLemmas.{course-there}
use Rattle.run_ends.proofs.RunTextLemmas.{HasAnswers, HasText, answers-one, ended-there}
use Rattle.run_ends.specs.Courses.{course_ended, course_in, nothing_after}
use Rattle.session_turns.specs.Courses.{feed_kind}
use Rattle.session_turns.specs.Texts.{session_kind}
use Rattle.run_ends.proofs.AnsweredCourseLemmas.{entry-may_come}

-- ---- verdicts

-- known items make a text
items-there : (proofs : Bool) (sheet : Sheet) (season : Results) (items : List AnswerItem)
    → All (IsKnownItem proofs sheet season) items
    → (text : List ℕ) × IsMadeOf (IsItemText proofs sheet season None)
    (map (λ (item : AnswerItem). item.about) items) text
items-there proofs sheet season [] known = ([], refl)
items-there proofs sheet season (item ∷ items) known =
    let shown = (All-head (IsKnownItem proofs sheet season) item items known).shown in
    let rest = items-there proofs sheet season items
    (All-tail (IsKnownItem proofs sheet season) item items known) in
    let part =
    verdict_row item.about.line (club_name sheet item.about.club) item.word
    ++ text_of_proof_lines item.lines in (
      part ++ rest.0,
      (part, rest.0, refl, (item.word, item.lines, shown, tt, refl), rest.1),
    )

-- so there are items, whatever trees were saved
all_items-there : (proofs : Bool) (sheet : Sheet) (season : Results)
    (saved : Option (List (Option Tree))) → IsLeague sheet season → are_results season ≡ true
    → (items : List ℕ) × IsMadeOf (IsItemText proofs sheet season saved) (answer_rows sheet) items
all_items-there proofs sheet season None league results =
    let found = season_answered proofs sheet season league results in
    let made = items-there proofs sheet season found.0 found.1.each in
    let P : List AnswerRow → Type 0 =
    λ rows. IsMadeOf (IsItemText proofs sheet season None) rows made.0 in
    (made.0, subst P found.1.rows made.1)
all_items-there proofs sheet season (Some trees) league results =
    unspent_items_there proofs sheet season trees league results

verdicts-there : (proofs : Bool) (sheet : Sheet) (season : Results) (epoch : ℕ)
    (saved : Option (List (Option Tree))) → IsLeague sheet season → are_results season ≡ true
    → (text : List ℕ) × IsVerdictsText proofs sheet season epoch saved text
verdicts-there proofs sheet season epoch saved league results =
    let items = all_items-there proofs sheet season saved league results in
    (ask_row epoch ++ items.0, (items.0, refl, items.1))

-- ---- the table

-- what a table says of a club
row-there : (sheet : Sheet) (season : Results) (club : ℕ) → club < length sheet.clubs
    → (row : TableRow) × IsTableRow sheet season club row
row-there sheet season club inside =
    let row : TableRow = record {
      best = best_place_of sheet season club;
      worst = worst_place_of sheet season club;
      played = count_played club sheet.fixtures season.scores;
      points = points_of sheet season club;
      difference = sum_of goal_difference sheet season club;
      scored = sum_of goals sheet season club;
    } in (
      row,
      record {
        best = best_is sheet season club row.best inside refl;
        worst = worst_is sheet season club row.worst inside refl;
        played = refl;
        points = refl;
        difference = refl;
        scored = refl;
      },
    )

-- the rows of some clubs of the sheet
rows-there : (sheet : Sheet) (season : Results) (order : List ℕ)
    → ((club : ℕ) → has_club order club ≡ true → club < length sheet.clubs)
    → (text : List ℕ) × IsMadeOf (IsPlaceRow sheet season) order text
rows-there sheet season [] within = ([], refl)
rows-there sheet season (club ∷ order) within =
    let row = row-there sheet season club
    (within club (or_left (eqb club club) (has_club order club) (eq-eqb club club refl))) in
    let rest = rows-there sheet season order
    (λ other has. within other (or_right (eqb club other) (has_club order other) has)) in
    let part = place_row (club_name sheet club) row.0 in
    (part ++ rest.0, (part, rest.0, refl, (row.0, row.1, refl), rest.1))

-- the clubs in the order of the sheet are lots
sheet-lots : (clubs : ℕ) → 0 < clubs → are_lots clubs (range_with_len 0 clubs) ≡ true
sheet-lots clubs some =
    let P : List ℕ → Type 0 = λ lots. are_lots clubs lots ≡ true in
    subst P (first_lots-range clubs some) (lots_for_claim-are_lots clubs 0 Inside some)

table-there : (sheet : Sheet) (season : Results) (epoch : ℕ) → IsWithinLimits sheet
    → (text : List ℕ) × IsTableText sheet season epoch text
table-there sheet season epoch limits =
    let two = limits.two_clubs in
    let found = table_there sheet season (clubs_of sheet)
    (sheet-lots (length sheet.clubs) (omega (arith, two))) in
    let rows = rows-there sheet season found.0
    (λ club has. below_clubs sheet club (sym (found.1.clubs club) ∙ has)) in
    (ask_row epoch ++ rows.0, (found.0, rows.0, found.1, refl, rows.1))

-- ---- any answer

scores-there : (sheet : Sheet) (season : Results) (epoch : ℕ) → IsLeague sheet season
    → are_results season ≡ true → (text : List ℕ) × IsScoresText sheet season epoch text
scores-there sheet season epoch league results =
    let found = scores_there sheet season league results in
    (text_of_scores sheet epoch found.0, (found.0, found.1, refl))

-- what is asked about is an unplayed fixture, if it is one
abbrev pub CanBeAsked : Sheet → Results → Option ℕ → Type 0
CanBeAsked sheet season about = IfSome about (IsUnplayedFixture sheet season)

-- the text of what is asked about
what_if-there : (sheet : Sheet) (season : Results) (epoch : ℕ) (about : Option ℕ)
    → IsLeague sheet season → are_results season ≡ true → CanBeAsked sheet season about
    → (text : List ℕ) × IsWhatIfText sheet season epoch about text
what_if-there sheet season epoch None league results can = ([], refl)
what_if-there sheet season epoch (Some fixture) league results can =
    when_there sheet season epoch fixture league results can.0 can.1

-- there is an answer to an ask of a league
answer-there : (mode : Mode) (asked : Played) → IsLeague asked.sheet asked.season
    → are_results asked.season ≡ true → CanBeAsked asked.sheet asked.season asked.about
    → (text : List ℕ) × IsAnswerTo mode asked text
answer-there (Verdicts proofs) asked league results can =
    verdicts-there proofs asked.sheet asked.season asked.epoch None league results
answer-there Table asked league results can =
    table-there asked.sheet asked.season asked.epoch league.limits
answer-there Scores asked league results can =
    scores-there asked.sheet asked.season asked.epoch league results
answer-there WhatIf asked league results can =
    what_if-there asked.sheet asked.season asked.epoch asked.about league results can
answer-there Save asked league results can = ([], refl)
answer-there (Resume proofs) asked league results can =
    verdicts-there proofs asked.sheet asked.season asked.epoch asked.saved league results
answer-there (Decide proofs) asked league results can =
    decided_there proofs asked.sheet asked.season asked.epoch league results
answer-there (Check wide) asked league results can = ([], refl)
answer-there (Groups proofs) asked league results can = ([], refl)
answer-there GroupsCheck asked league results can = ([], refl)
answer-there (Sample seed) asked league results can = ([], refl)

-- ---- the asks of a course

-- a line that tells an event is no `when`, and is read as in every feed
change-back : (line : Result (Option AskStep) FeedFault) (event : Event)
    → forgotten line ≡ Ok (Some (Change event)) → line ≡ Ok (Some (step.Entry (Change event)))
change-back (Ok None) event is = cc
change-back (Ok (Some (step.Entry entry))) event is = cc
change-back (Ok (Some (step.When fixture))) event is = cc
change-back (Err fault) event is = cc

change-told : (sheet : Sheet) (season : Results) (events : ℕ) (content : List ℕ) (event : Event)
    → step_line sheet season events content ≡ Ok (Some (Change event))
    → entry_in sheet season events false content ≡ Ok (Some (Change event))
change-told sheet season events content event is =
    let none : about_of content ≡ None =
    step-about sheet season events content (step.Entry (Change event))
    (change-back (step_in sheet season events content) event is) in
    sym (other-same sheet season events content none) ∙ is

-- so may a line's event
event-may_come : (mode : Mode) (origin : Origin) (events : List Event) (content : List ℕ)
    (event : Event) → AreEventsOf origin.sheet events
    → line_after mode origin events content ≡ Ok (Some (Change event))
    → AreEventsOf origin.sheet (events ++ event ∷ [])
event-may_come WhatIf origin events content event of_sheet is =
    entry-may_come false origin.sheet events content event of_sheet
    (change-told origin.sheet (season_after origin.sheet events) (epoch_of events) content event is)
event-may_come mode origin events content event of_sheet is =
    entry-may_come (awaits_saved mode origin.saved) origin.sheet events content event of_sheet is

-- what a line asks about is an unplayed fixture, if it is one
line-can : (mode : Mode) (origin : Origin) (events : List Event) (content : List ℕ)
    → line_after mode origin events content ≡ Ok (Some Ask)
    → CanBeAsked origin.sheet (season_after origin.sheet events) (about_in mode content)
line-can WhatIf origin events content is =
    asks-unplayed origin.sheet (season_after origin.sheet events) (epoch_of events) content
    (season_after_of origin.sheet events) is
line-can mode origin events content is = tt

module _ (mode : Mode) (origin : Origin) (events : List Event)
    (limits : IsWithinLimits origin.sheet)
    (of_sheet : AreEventsOf origin.sheet events) where
  -- the events lead to a season of the sheet
  league-there : IsLeague origin.sheet (season_after origin.sheet events)
  league-there = record { limits = limits; of_sheet = season_after_of origin.sheet events }

  -- one answer, if there is to be one
  ask-if : (silent : Bool) (about : Option ℕ)
      → CanBeAsked origin.sheet (season_after origin.sheet events) about
      → HasAnswers (IsAnswerTo mode) (if silent then [] else asked_about origin events about ∷ [])
  ask-if true about can = ([], refl)
  ask-if false about can =
      let asked = asked_about origin events about in
      let found = answer-there mode asked league-there
      (season_after_results origin.sheet events of_sheet) can in
      (found.0, answers-one (IsAnswerTo mode) asked found.0 found.1)

  -- the end of the input, where no saved text must come
  closed-save : HasText (session_kind Save) (course_closed Save origin events)
  closed-save = (
    ([], refl),
    saved_there origin.sheet (season_after origin.sheet events) league-there
        (season_after_results origin.sheet events of_sheet),
  )

-- what an ask has answered has answers
asks-there : (mode : Mode) (origin : Origin) (events : List Event) → IsWithinLimits origin.sheet
    → AreEventsOf origin.sheet events → (about : Option ℕ)
    → CanBeAsked origin.sheet (season_after origin.sheet events) about
    → HasAnswers (IsAnswerTo mode) (asks_about mode origin events about)
asks-there Save origin events limits of_sheet about can = ([], refl)
asks-there mode origin events limits of_sheet about can =
    ask-if mode origin events limits of_sheet (awaits_saved mode origin.saved) about can

-- so has the end of the input
closed-there : (mode : Mode) (origin : Origin) (events : List Event) → IsWithinLimits origin.sheet
    → AreEventsOf origin.sheet events → HasText (session_kind mode) (course_closed mode origin
    events)
closed-there Save origin events limits of_sheet = closed-save Save origin events limits of_sheet
closed-there mode origin events limits of_sheet = ended-there (session_kind mode) Complete

-- a course that goes on by what comes or does not
text-if : (mode : Mode) (is : Bool) (one other : Course) → HasText (session_kind mode) one
    → HasText (session_kind mode) other
    → HasText (session_kind mode) (if is then one else other)
text-if mode true one other first second = first
text-if mode false one other first second = second

-- where the lines end
ending-there : (mode : Mode) (origin : Origin) (number : ℕ) (events : List Event)
    → IsWithinLimits origin.sheet → AreEventsOf origin.sheet events
    → HasText (session_kind mode) (course_at_ending mode origin number events)
ending-there mode origin number events limits of_sheet =
    text-if mode (awaits_saved mode origin.saved) (course_ended (Refused (save_fault number)))
    (course_closed mode origin events)
    (ended-there (session_kind mode) (Refused (save_fault number)))
    (closed-there mode origin events limits of_sheet)

-- after any events of the sheet there is a whole text
abbrev pub HasTexts : Mode → Sheet → (List Event → Course) → Type 0
HasTexts mode sheet onward =
    (events : List Event) → AreEventsOf sheet events → HasText (session_kind mode) (onward events)

-- the course of these lines has a whole text
lines-there : (mode : Mode) (origin : Origin) (behind : List Event → Contents → Course)
    (lines : List (ℕ × List ℕ)) (ending : Result ℕ ReadStop) → IsWithinLimits origin.sheet
    → ((rest : Contents) → HasTexts mode origin.sheet (λ next. behind next rest))
    → HasTexts mode origin.sheet (course_in (feed_kind mode origin) behind lines ending)
lines-there mode origin behind lines ending limits saved events of_sheet =
    course-there (session_kind mode) (feed_kind mode origin) (AreEventsOf origin.sheet)
    (λ log content event are is. event-may_come mode origin log content event are is)
    (λ log content are is. asks-there mode origin log limits are (about_in mode content)
    (line-can mode origin log content is))
    (λ log are. closed-there mode origin log limits are)
    (λ number log are. ending-there mode origin number log limits are)
    behind lines ending saved events of_sheet

-- after a saved text
saved-there_behind : (mode : Mode) (sheet : Sheet) → IsWithinLimits sheet → (events : List Event)
    → AreEventsOf sheet events → (rest : Contents) (gives : Result (List (Option Tree)) SaveStop)
    → HasText (session_kind mode) (course_after_saved mode sheet events rest gives)
saved-there_behind mode sheet limits events of_sheet rest (Ok trees) =
    lines-there mode (saved_origin sheet events trees) nothing_after rest.lines rest.ending limits
    (λ more next are. ended-there (session_kind mode) Complete) events of_sheet
saved-there_behind mode sheet limits events of_sheet rest (Err stop) =
    ended-there (session_kind mode) (outcome_at_save stop)

-- after a record `proofs`
behind-there : (mode : Mode) (origin : Origin) → IsWithinLimits origin.sheet → (rest : Contents)
    → HasTexts mode origin.sheet (λ next. course_after_proofs mode origin next rest)
behind-there mode origin limits rest events of_sheet =
    let reading = saved_reading_of origin.sheet (questions_of origin.sheet) rest nothing_saved in
    text-if mode (awaits_saved mode origin.saved)
    (course_of_saved mode origin.sheet events reading) (course_ended Complete)
    (saved-there_behind mode origin.sheet limits events of_sheet reading.rest reading.gives)
    (ended-there (session_kind mode) Complete)

-- the course of any contents has a whole text
pub session-answered : (mode : Mode) (contents : Contents)
    → HasText (session_kind mode) (course_of mode contents)
session-answered mode contents =
    let reading = sheet_reading_of contents None in
    by_gives reading.gives reading.rest (sheet-limits contents)
  where
    by_gives : (gives : Result Sheet SheetStop) (rest : Contents) → GivesLimits gives
        → HasText (session_kind mode) (course_after mode gives rest)
    by_gives (Ok sheet) rest limits =
        let origin = first_origin sheet in
        lines-there mode origin (course_after_proofs mode origin) rest.lines rest.ending limits
        (behind-there mode origin limits) []
        (All-nil (IsEventOf (unplayed_season (length sheet.clubs) (length sheet.fixtures))))
    by_gives (Err stop) rest limits = ended-there (session_kind mode) (outcome_at_sheet stop)
