-- The text of all answers of a feed is the bytes of parts that are read one after the other.
use Rattle.std.proofs.Common.{◌≡◌, ℕ, ◌+◌, ◌*◌, ◌≤◌, List, [], ◌∷◌, ◌++◌, length, refl, sym}
use Rattle.std.proofs.Common.{ap, ap₂, subst, ◌∙◌, arith, None}
use Rattle.std.proofs.lemmas.List.{length-append}
use Rattle.std.specs.List.{flat_map}
use Rattle.std.proofs.lemmas.List.Elements.{All-take}
use Rattle.std.proofs.Math.Seq.{take-append_seam}
use Rattle.league_core.specs.declared.sheet.Sheet.{Sheet}
use Rattle.league_core.specs.declared.season.Event.{Event}
use Rattle.league_core.specs.game.Limits.{most_events}
use Rattle.league_core.specs.game.Results.{Results}
use Rattle.league_core.specs.game.Seasons.{AreEventsOf, IsEventOf, epoch_of, season_after}
use Rattle.league_core.specs.game.Seasons.{unplayed_season}
use Rattle.league_core.specs.game.Sheets.{IsWithinLimits}
use Rattle.league_core.proofs.LogLemmas.{season_after_of, season_after_results}
use Rattle.result_log.specs.declared.entry.Entry.{Entry}
use Rattle.result_log.specs.declared.entry.Entry.TheVariants.{Change, Ask, Proofs, End}
use Rattle.result_log.specs.Feeds.{season_with}
use Rattle.result_log.specs.inside.FeedParts.{events_after}
use Rattle.result_log.proofs.FeedLemmas.{season_after-entry}
use Rattle.line_tokens.specs.declared.token.Token.{Token}
use Rattle.cert_check.specs.declared.expected.ReportKind.{ReportKind}
use Rattle.cert_check.specs.declared.expected.ReportKind.TheVariants.{Plain, Wide}
use Rattle.session_turns.specs.Answers.{IsAnswerTo}
use Rattle.session_turns.specs.Courses.{asked_about, first_origin}
use Rattle.session_turns.specs.Plays.{Played}
use Rattle.session_turns.specs.Texts.{AreAnswers}
use Rattle.session_turns.specs.inside.FeedCourses.{asks_in}
use Rattle.report_lines.specs.inside.WrittenReports.{written}
use Rattle.report_laws.specs.inside.AcceptedReports.{rows_written}
use Rattle.report_laws.specs.inside.AcceptedTexts.{mode_of_kind, rows_of_asks}
use Rattle.report_laws.specs.inside.AcceptedTexts.{unsettled_answered, unsettled_told}
use Rattle.report_laws.proofs.AnswerTextLemmas.{bytes-append}
use Rattle.report_laws.proofs.AskTextLemmas.{answer-read}
use Rattle.report_laws.proofs.PutLemmas.{ArePut, put-append}
use Rattle.report_laws.proofs.ReportLemmas.{ArePartsRead}

-- a text as the lines of parts for the asks among these entries, with so many unsettled rows
pub record TextRead (kind : ReportKind) (sheet : Sheet) (entries : List Entry) (season : Results)
    (epoch : ℕ) (text : List ℕ) (unsettled : ℕ) : Type 0 where
  pub told : List Token
  pub parts : ArePartsRead kind sheet entries season epoch told unsettled
  pub bytes : text ≡ flat_map written told
  pub put : ArePut told

-- the events before entries are of the sheet, and as few, if those after them are
events-before : (sheet : Sheet) (entries : List Entry) (events : List Event)
    → AreEventsOf sheet (events_after events entries)
    → AreEventsOf sheet events × (epoch_of events ≤ epoch_of (events_after events entries))
events-before sheet [] events are = (are, omega arith)
events-before sheet (Change event ∷ entries) events are =
    let found = events-before sheet entries (events ++ event ∷ []) are in
    let Of : List Event → Type 0 = λ these. AreEventsOf sheet these in
    let unplayed = unplayed_season (length sheet.clubs) (length sheet.fixtures) in
    let fewer = found.1 in (
      subst Of (take-append_seam events (event ∷ []))
          (All-take (IsEventOf unplayed) (length events) (events ++ event ∷ []) found.0),
      omega (arith, fewer, length-append events (event ∷ [])),
    )
events-before sheet (Ask ∷ entries) events are = events-before sheet entries events are
events-before sheet (Proofs ∷ entries) events are = events-before sheet entries events are
events-before sheet (End ∷ entries) events are = events-before sheet entries events are

-- one more event before them
event-read : (kind : ReportKind) (sheet : Sheet) (entries : List Entry) (events : List Event)
    (event : Event) (text : List ℕ) (unsettled : ℕ)
    → TextRead kind sheet entries (season_after sheet (events ++ event ∷ []))
    (epoch_of (events ++ event ∷ [])) text unsettled
    → TextRead kind sheet (Change event ∷ entries) (season_after sheet events) (epoch_of events)
    text unsettled
event-read kind sheet entries events event text unsettled read =
    let grown = season_after-entry sheet events (Change event) in
    let Of : Results → Type 0 = λ season. ArePartsRead kind sheet entries season
    (epoch_of (events ++ event ∷ [])) read.told unsettled in
    let At : ℕ → Type 0 = λ epoch. ArePartsRead kind sheet entries
    (season_with (season_after sheet events) (Change event)) epoch read.told unsettled in
    record {
      told = read.told;
      parts = subst At grown.1 (subst Of grown.0 read.parts);
      bytes = read.bytes;
      put = read.put;
    }

-- what an ask there is of
abbrev asked_after : Sheet → List Event → Played
asked_after sheet events = asked_about (first_origin sheet) events None

-- one more answer before them
ask-read : (kind : ReportKind) (sheet : Sheet) (entries : List Entry) (events : List Event)
    (text part rest : List ℕ) (unsettled : ℕ) → IsWithinLimits sheet → AreEventsOf sheet events
    → epoch_of events ≤ most_events → text ≡ part ++ rest
    → (told : IsAnswerTo (mode_of_kind kind) (asked_after sheet events) part)
    → TextRead kind sheet entries (season_after sheet events) (epoch_of events) rest unsettled
    → TextRead kind sheet (Ask ∷ entries) (season_after sheet events) (epoch_of events) text
    (unsettled_answered kind (asked_after sheet events) part told + unsettled)
ask-read kind sheet entries events text part rest unsettled limits are few is told behind =
    let here = answer-read kind (asked_after sheet events) part
    (record { limits = limits; of_sheet = season_after_of sheet events })
    (season_after_results sheet events are) few told in
    record {
      told = here.part ++ behind.told;
      parts = (
        here.part,
        unsettled_answered kind (asked_after sheet events) part told,
        behind.told,
        unsettled,
        here.whole,
        refl,
        refl,
        behind.parts,
      );
      bytes = is
          ∙ ap₂ (λ (front back : List ℕ). front ++ back) here.bytes behind.bytes
          ∙ sym (bytes-append here.part behind.told);
      put = put-append here.part behind.told here.put behind.put;
    }

-- all answers
pub text-read : (kind : ReportKind) (sheet : Sheet) (entries : List Entry) (events : List Event)
    (text : List ℕ) → IsWithinLimits sheet → AreEventsOf sheet (events_after events entries)
    → epoch_of (events_after events entries) ≤ most_events
    → (made : AreAnswers (mode_of_kind kind)
    (asks_in (mode_of_kind kind) (first_origin sheet) entries events) text)
    → TextRead kind sheet entries (season_after sheet events) (epoch_of events) text
    (unsettled_told kind (asks_in (mode_of_kind kind) (first_origin sheet) entries events) text
    made)
text-read kind sheet [] events text limits are few made = record {
  told = [];
  parts = (refl, refl);
  bytes = made;
  put = tt;
}
text-read kind sheet (Change event ∷ entries) events text limits are few made =
    event-read kind sheet entries events event text
    (unsettled_told kind (asks_in (mode_of_kind kind) (first_origin sheet) entries
    (events ++ event ∷ [])) text made)
    (text-read kind sheet entries (events ++ event ∷ []) text limits are few made)
text-read Plain sheet (Ask ∷ entries) events text limits are few made =
    let before = events-before sheet entries events are in
    let fewer = before.1 in
    ask-read Plain sheet entries events text made.0 made.1
    (unsettled_told Plain (asks_in (mode_of_kind Plain) (first_origin sheet) entries events) made.1
    made.4)
    limits before.0 (omega (arith, fewer, few)) made.2 made.3
    (text-read Plain sheet entries events made.1 limits are few made.4)
text-read Wide sheet (Ask ∷ entries) events text limits are few made =
    let before = events-before sheet entries events are in
    let fewer = before.1 in
    ask-read Wide sheet entries events text made.0 made.1
    (unsettled_told Wide (asks_in (mode_of_kind Wide) (first_origin sheet) entries events) made.1
    made.4)
    limits before.0 (omega (arith, fewer, few)) made.2 made.3
    (text-read Wide sheet entries events made.1 limits are few made.4)
text-read kind sheet (Proofs ∷ entries) events text limits are few made =
    let read = text-read kind sheet entries events text limits are few made in
    record {
      told = read.told;
      parts = read.parts;
      bytes = read.bytes;
      put = read.put;
    }
text-read kind sheet (End ∷ entries) events text limits are few made =
    let read = text-read kind sheet entries events text limits are few made in
    record {
      told = read.told;
      parts = read.parts;
      bytes = read.bytes;
      put = read.put;
    }

-- they have a row for each line and each club at each ask
pub rows-same : (kind : ReportKind) (sheet : Sheet) (entries : List Entry) (events : List Event)
    → rows_written (length sheet.lines * length sheet.clubs) entries
    ≡ rows_of_asks (asks_in (mode_of_kind kind) (first_origin sheet) entries events)
rows-same kind sheet [] events = refl
rows-same kind sheet (Change event ∷ entries) events =
    rows-same kind sheet entries (events ++ event ∷ [])
rows-same Plain sheet (Ask ∷ entries) events =
    ap (λ (rest : ℕ). length sheet.lines * length sheet.clubs + rest)
    (rows-same Plain sheet entries events)
rows-same Wide sheet (Ask ∷ entries) events =
    ap (λ (rest : ℕ). length sheet.lines * length sheet.clubs + rest)
    (rows-same Wide sheet entries events)
rows-same kind sheet (Proofs ∷ entries) events = rows-same kind sheet entries events
rows-same kind sheet (End ∷ entries) events = rows-same kind sheet entries events
