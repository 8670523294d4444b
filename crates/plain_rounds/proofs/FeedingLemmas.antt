-- What a feeder has read and reported: the season so far, the next entry, and the way through a
-- round.
use Rattle.std.proofs.Common.{◌≡◌, ℕ, Bool, List, ◌++◌, ◌∷◌, [], Option, Result, Ok, false, ap}
use Rattle.std.proofs.Common.{sym, refl, ◌∙◌, inl, subst, length}
use Rattle.league_core.specs.declared.sheet.Sheet.{Sheet}
use Rattle.league_core.specs.declared.season.Event.{Event}
use Rattle.league_core.specs.game.Results.{Results}
use Rattle.league_core.specs.game.Seasons.{IsSeasonOf, epoch_of, season_after}
use Rattle.league_core.proofs.LogLemmas.{season_after_of}
use Rattle.port_core.specs.Readers.{LineReaderView, TakesInput, contents_to_come}
use Rattle.port_core.specs.inside.ReaderCalls.{LeavesReader}
use Rattle.result_log.specs.declared.entry.Entry.TheVariants.{Change, Proofs}
use Rattle.result_log.specs.declared.entry.Entry.{Entry}
use Rattle.result_log.specs.declared.fault.FeedFault.{FeedFault}
use Rattle.result_log.specs.declared.fault.FeedStop.{FeedStop}
use Rattle.result_log.specs.Feeds.{entry_in, line_as}
use Rattle.result_log.specs.inside.Readings.{IsParsedThere, answer_as, live_as}
use Rattle.fixture_sheet.specs.LastReads.{ReadsOnWay}
use Rattle.result_log.specs.inside.FeedParts.{LineEntry, LiveReading, entry_after}
use Rattle.result_log.specs.inside.Calls.{CountsEntry, MovesToEntry, PassesToEntry, ReadsEntry}
use Rattle.result_log.specs.inside.Calls.{entry_answer_after}
use Rattle.result_log.specs.inside.LastReads.{GivesEvents, StopsAtClose, StopsAtEntry}
use Rattle.result_log.specs.inside.Rounds.{BreaksOff, EndsRound, live_entry, spot_of}
use mathlib.Core.Path.{fun_ext}
use Rattle.std.specs.Prelude.{IfOk}
use Rattle.std.proofs.lemmas.Bool.{false≢true}
use Rattle.result_log.specs.Records.{IsEntryAt, entry_of}
use Rattle.result_log.proofs.FeedLemmas.{there_may_come}
use Rattle.result_log.proofs.PassedLemmas.{answer-same, entries-same}
use Rattle.result_log.proofs.LiveLemmas.{goes-further, goes-nowhere, round-ends}
use Rattle.result_log.proofs.LastReadLemmas.{round-further, round-stops}
use Rattle.result_log.proofs.StopLemmas.{stops-there}
use Rattle.plain_rounds.specs.inside.Feeding.{HasComeOn, IsSeasonReported, ReadsNext}

-- ---- the season reported so far

-- a line in the season of these events
pub live-as : (own sheet : Sheet) (log : List Event) (season : Results) (events : ℕ)
    → own ≡ sheet → IsSeasonReported sheet log season events
    → entry_in own season events false ≡ live_entry sheet log
live-as own sheet log season events same reported =
    ap (λ (s : Sheet). entry_in s season events false) same
    ∙ ap (λ (r : Results). entry_in sheet r events false) reported.0
    ∙ ap (λ (n : ℕ). entry_in sheet (season_after sheet log) n false) reported.1

-- the same whatever records tell
module _ {T : Type 0} (entry : T → Entry)
    (tells : Sheet → Results → ℕ → List (List ℕ) → Result T FeedFault) (own sheet : Sheet)
    (log : List Event) (season : Results) (events : ℕ) (same : own ≡ sheet)
    (reported : IsSeasonReported sheet log season events) where
  pub live-parsed : line_as entry (tells own season events) ≡ live_as entry tells sheet log
  live-parsed =
      ap (λ (s : Sheet). line_as entry (tells s season events)) same
      ∙ ap (λ (r : Results). line_as entry (tells sheet r events)) reported.0
      ∙ ap (λ (n : ℕ). line_as entry (tells sheet (season_after sheet log) n)) reported.1

  pub parsed-there-as : (kept : Results) → season ≡ kept → (text : List ℕ)
      (result : Result T FeedStop)
      → IsParsedThere entry (tells own season events) text result
      → IsParsedThere entry (tells sheet kept (length log)) text result
  parsed-there-as kept is text result there =
      let P : Sheet → Type 0 = λ s. IsParsedThere entry (tells s season events) text result in
      let Q : ℕ → Type 0 = λ n. IsParsedThere entry (tells sheet season n) text result in
      let R : Results → Type 0 =
      λ r. IsParsedThere entry (tells sheet r (length log)) text result in
      subst R is (subst Q reported.1 (subst P same there))

-- it is one of the sheet
pub reported-of-sheet : (own sheet : Sheet) (log : List Event) (season : Results) (events : ℕ)
    → own ≡ sheet → IsSeasonReported sheet log season events → IsSeasonOf own season
reported-of-sheet own sheet log season events same reported =
    let P : Sheet → Type 0 = λ s. IsSeasonOf s season in
    let Q : Results → Type 0 = λ r. IsSeasonOf sheet r in
    subst P (sym same) (subst Q (sym reported.0) (season_after_of sheet log))

-- ---- a round of entries

-- what is said of a round of them, whatever records tell, holds of it
pub as-rounds : (proofs : Bool) (IsSaid : LiveReading → Result Entry FeedStop → Type 0)
    (sheet : Sheet) (close last : Result Entry FeedStop) → close ≡ answer_as (λ told. told) last
    → IsSaid
    (live_as (λ told. told) (λ s season events. entry_of s season events proofs) sheet)
    (answer_as (λ told. told) last)
    → IsSaid (entry_after sheet proofs) close
as-rounds proofs IsSaid sheet close last is said =
    let same : live_as (λ told. told) (λ s season events. entry_of s season events proofs) sheet
    ≡ entry_after sheet proofs =
    fun_ext (λ log. entries-same (entry_of sheet (season_after sheet log) (epoch_of log) proofs)) in
    let P : LiveReading → Type 0 = λ live. IsSaid live (answer_as (λ told. told) last) in
    subst (IsSaid (entry_after sheet proofs)) (sym is) (subst P same said)

-- no proofs follow a live feed
pub no-proofs : (sheet : Sheet) (season : Results) (log : List Event) (text : List ℕ)
    (last : Result Entry FeedStop) → season ≡ season_after sheet log
    → IsParsedThere (λ told. told) (entry_of sheet season (length log) false) text last
    → answer_as (λ told. told) last ≡ Ok Proofs → ⊥
no-proofs sheet season log text last same there is =
    let of_sheet = subst (IsSeasonOf sheet) (sym same) (season_after_of sheet log) in
    let P : Result Entry FeedStop → Type 0 =
    λ r. IfOk r (λ entry. IsEntryAt season (length log) false entry) in
    false≢true (subst P (sym (answer-same last) ∙ is)
    (there_may_come sheet season (length log) false text last of_sheet there))

-- ---- through a round

module _ {S : Type 0} {left : S → Option (List ℕ)} {ended : S → Bool} {faults : S → ℕ}
    {reads : S → List ℕ → S → Type 0} where
  -- what a call for the next entry says
  pub next-read : {found : LineEntry} {old new : LineReaderView} {before after : S}
      {result : Result Entry FeedStop}
      → PassesToEntry found old new (left before) (left after) (ended before) (ended after) result
      → LeavesReader new (left after) (entry_answer_after new result)
      → ReadsEntry found (contents_to_come old (left before)) (contents_to_come new (left after))
      result
      → TakesInput old new (left before) (left after) → MovesToEntry old new result
      → CountsEntry (faults before) (faults after) result
      → StopsAtEntry left reads found old new before after result
      → ReadsNext left ended faults reads found old new before after result
  next-read {found = found} {old = old} {new = new} {before = before} {after = after}
      {result = result} passes leaves read takes moves cause last = record {
        next = record {
          passes = passes;
          leaves = leaves;
          stops = stops-there found (contents_to_come old (left before))
              (contents_to_come new (left after)) result read;
          takes = takes;
          moves = moves;
          cause = cause;
        };
        last = last;
      }

  -- the same of the same entries
  pub next-read-as : {found same : LineEntry} {old new : LineReaderView} {before after : S}
      {result : Result Entry FeedStop} → found ≡ same
      → ReadsNext left ended faults reads found old new before after result
      → ReadsNext left ended faults reads same old new before after result
  next-read-as {old = old} {new = new} {before = before} {after = after} {result = result} is next =
      let P : LineEntry → Type 0 =
      λ entry. ReadsNext left ended faults reads entry old new before after result in
      subst P is next

  -- nothing is read yet
  pub come-nowhere : (live : LiveReading) (log : List Event) (old : LineReaderView) (before : S)
      → HasComeOn left ended faults reads live log log old old before before
  come-nowhere live log old before = record {
    goes = goes-nowhere live log (spot_of old (left before) (ended before) (faults before));
    last = inl (refl, refl);
  }

  module _ {live : LiveReading} {log mid : List Event} {a b c : LineReaderView}
      {first second third : S}
      (come : HasComeOn left ended faults reads live log mid a b first second) where
    -- one event more
    pub come-further : (event : Event)
        → ReadsNext left ended faults reads (live mid) b c second third (Ok (Change event))
        → HasComeOn left ended faults reads live log (mid ++ event ∷ []) a c first third
    come-further event read = record {
      goes = goes-further live log mid event (spot_of a (left first) (ended first) (faults first))
          (spot_of b (left second) (ended second) (faults second))
          (spot_of c (left third) (ended third) (faults third)) come.goes read.next;
      last = round-further left reads live log mid a b c first second third (ended first)
          (ended second) (faults first) (faults second) come.goes come.last read.last;
    }

    -- what ends the round
    pub come-over : (close : Result Entry FeedStop)
        → ReadsNext left ended faults reads (live mid) b c second third close
        → EndsRound live log mid (spot_of a (left first) (ended first) (faults first))
        (spot_of c (left third) (ended third) (faults third)) close
        × StopsAtClose left reads live log a c first third close
    come-over close read = (
      round-ends live log mid close (spot_of a (left first) (ended first) (faults first))
          (spot_of b (left second) (ended second) (faults second))
          (spot_of c (left third) (ended third) (faults third)) come.goes read.next,
      round-stops left reads live log mid a b c first second third (ended first)
          (ended second) (faults first) (faults second) come.goes come.last close read.last,
    )

    -- or it breaks off after an event
    pub come-off : (event : Event)
        → ReadsNext left ended faults reads (live mid) b c second third (Ok (Change event))
        → BreaksOff live log (spot_of a (left first) (ended first) (faults first))
        (spot_of c (left third) (ended third) (faults third))
        × ReadsOnWay left reads (GivesEvents live log) a c first third
    come-off event read =
        let further = come-further event read in ((mid ++ event ∷ [], further.goes), further.last)
