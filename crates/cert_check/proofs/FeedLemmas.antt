-- A feed that is read entry by entry: what is known of it after each entry, and where it ends.
use Rattle.std.proofs.Common.{◌≡◌, ℕ, true, List, [], ◌∷◌, ◌++◌, Option, Some, option_map, Result}
use Rattle.std.proofs.Common.{Ok, Err, refl, sym, ap, subst, ◌∙◌, append_assoc, append-nil}
use Rattle.std.proofs.lemmas.List.Elements.{All-nil, All-push}
use Rattle.league_core.specs.declared.sheet.Sheet.{Sheet}
use Rattle.league_core.specs.declared.season.Event.{Event}
use Rattle.league_core.specs.game.Results.{Results}
use Rattle.league_core.specs.game.Seasons.{IsSeasonOf, season_after, epoch_of}
use Rattle.league_core.proofs.LogLemmas.{IsEventOf-same, season_after_of, unplayed_of}
use Rattle.port_core.specs.declared.line.ReadStop.TheVariants.{ReadFault, LineTooLong, InputTooLong}
use Rattle.port_core.specs.Contents.{Contents, with_lines}
use Rattle.result_log.specs.declared.entry.Entry.{Entry}
use Rattle.result_log.specs.declared.entry.Entry.TheVariants.{Change, Ask, Proofs, End}
use Rattle.result_log.specs.declared.fault.FeedStop.{FeedStop}
use Rattle.result_log.specs.declared.fault.FeedStop.TheVariants.{Fault, Read, OutOfMemory}
use Rattle.result_log.specs.Records.{IsEntryAt}
use Rattle.result_log.specs.inside.FeedParts.{LineEntry, EntryReading, entry_reading_of}
use Rattle.result_log.specs.inside.FeedParts.{events_after, events_with}
use Rattle.result_log.specs.inside.Calls.{ReadsEntry, ReadsEntryAs}
use Rattle.result_log.specs.Feeds.{Feed, entry_in, feed_of, with_entry}
use Rattle.result_log.specs.inside.Laws.{feed_after}
use Rattle.result_log.proofs.FeedLemmas.{feed_of-first, season_after-entry}
use Rattle.cert_check.specs.inside.InputCalls.{FeedSoFarView, IsEntryOf, IsStateOf, LeadsFeed}
use Rattle.cert_check.specs.inside.InputCalls.{LeadsTo}
use Rattle.cert_check.specs.inside.InputCalls.{ReadsFeedAs, EndsFeed, StopsFeed, feed_ended}
use Rattle.cert_check.specs.inside.InputCalls.{state_unread}
use Rattle.cert_check.specs.inside.InputCalls.{state_with, with_entries}
use Rattle.port_core.proofs.ContentLemmas.{with_lines-append}
use Rattle.cert_check.proofs.ReadingLemmas.{read_after, told_after, told_both, entry_read}

-- ---- entries and their events

-- the events after one entry more
events_after-push : (events : List Event) (entries : List Entry) (entry : Entry)
    → events_after events (entries ++ entry ∷ [])
    ≡ events_with (events_after events entries) entry
events_after-push events [] entry = refl
events_after-push events (first ∷ entries) entry =
    events_after-push (events_with events first) entries entry

-- nothing is read
pub state-start : (sheet : Sheet) → IsStateOf sheet (state_unread sheet)
state-start sheet = record { season = refl; events = refl; entries = All-nil (IsEntryOf sheet) }

-- an entry that may come in a season of the sheet is one of the sheet
entry-of : (sheet : Sheet) (season : Results) (events : ℕ) (entry : Entry)
    → IsSeasonOf sheet season → IsEntryAt season events true entry → IsEntryOf sheet entry
entry-of sheet season events (Change event) of_sheet may_come =
    IsEventOf-same sheet season _ event of_sheet (unplayed_of sheet) may_come.0
entry-of sheet season events Ask of_sheet may_come = tt
entry-of sheet season events Proofs of_sheet may_come = tt
entry-of sheet season events End of_sheet may_come = tt

-- the season of a state is one of the sheet
pub state-season : (sheet : Sheet) (state : FeedSoFarView) → IsStateOf sheet state
    → IsSeasonOf sheet state.season
state-season sheet state is =
    subst (IsSeasonOf sheet) (sym is.season)
    (season_after_of sheet (events_after [] state.entries))

-- an entry more
pub state-more : (sheet : Sheet) (state : FeedSoFarView) (entry : Entry) → IsStateOf sheet state
    → IsEntryAt state.season state.events true entry
    → IsStateOf sheet (state_with state entry)
state-more sheet state entry is may_come =
    let events = events_after [] state.entries in
    let pushed = events_after-push [] state.entries entry in
    let grown = season_after-entry sheet events entry in
    record {
      season = ap (λ (s : Results). Rattle.result_log.specs.Feeds.season_with s entry) is.season
          ∙ sym grown.0 ∙ ap (season_after sheet) (sym pushed);
      events = ap (λ (n : ℕ). Rattle.result_log.specs.Feeds.count_with n entry) is.events
          ∙ sym grown.1 ∙ ap epoch_of (sym pushed);
      entries = All-push (IsEntryOf sheet) state.entries entry is.entries
          (entry-of sheet state.season state.events entry (state-season sheet state is) may_come);
    }

-- ---- feeds

-- no entry at the start
pub leads-start : (sheet : Sheet) (contents : Contents)
    → LeadsFeed sheet contents (Some contents) []
leads-start sheet contents = ([], refl, λ rest. refl)

module _ (sheet : Sheet) (start : Contents) (before after : Option Contents)
    (entries : List Entry) (leads : LeadsFeed sheet start before entries) where
  -- the events so far, and what a line is after them
  abbrev events : List Event
  events = events_after [] entries

  abbrev entry : LineEntry
  entry = entry_in sheet (season_after sheet events) (epoch_of events) true

  -- what was still to come before the entry
  mid : (rest : Contents) × (before ≡ Some rest) × (start ≡ with_lines leads.0 rest)
  mid = told_after leads.0 before start leads.1

  -- the reading of the next entry makes the feed
  by_reading : (rest : Contents)
      → feed_of sheet true rest events
      ≡ feed_after sheet true events (entry_reading_of entry rest).rest
      (entry_reading_of entry rest).gives
  by_reading rest = feed_of-first sheet true rest events

  -- the same if the reading is known
  by_known : (rest behind : Contents) (result : Result Entry FeedStop)
      → entry_reading_of entry rest ≡ record { gives = result; rest = behind }
      → feed_of sheet true rest events ≡ feed_after sheet true events behind result
  by_known rest behind result is =
      by_reading rest
      ∙ ap (λ (r : EntryReading). feed_after sheet true events r.rest r.gives) is

  -- lines more that hold an entry
  more-lines : (told : Entry) (close : Contents → Feed) → (End ≡ told → ⊥)
      → ((rest : Contents) → with_entries entries (feed_after sheet true events rest (Ok told))
      ≡ close rest)
      → ReadsEntryAs entry before after (Ok told) → LeadsTo sheet start after close
  unfolding mid
  more-lines told close other closes reads =
      let there = read_after (entry_reading_of entry)
      (λ (rest : Contents). record { gives = Ok told; rest = rest }) before after mid.0 mid.1
      reads in
      let found = entry_read entry mid.0 told there.0 other there.2 in (
        leads.0 ++ found.0,
        ap Some (mid.2 ∙ ap (with_lines leads.0) found.1
            ∙ sym (with_lines-append leads.0 found.0 there.0))
            ∙ sym (ap (option_map (with_lines (leads.0 ++ found.0))) there.1),
        λ rest.
            ap (λ (c : Contents). feed_of sheet true c [])
            (with_lines-append leads.0 found.0 rest)
            ∙ leads.2 (with_lines found.0 rest)
            ∙ ap (with_entries entries)
            (by_known (with_lines found.0 rest) rest (Ok told) (found.2 rest))
            ∙ closes rest,
      )

  -- an entry more before a feed
  entry-front : (told : Entry) (rest : Contents)
      → with_entries entries (with_entry told (feed_of sheet true rest (events_with events told)))
      ≡ with_entries (entries ++ told ∷ [])
      (feed_of sheet true rest (events_after [] (entries ++ told ∷ [])))
  entry-front told rest =
      ap (λ (more : List Event).
      with_entries entries (with_entry told (feed_of sheet true rest more)))
      (sym (events_after-push [] entries told))
      ∙ ap (λ (all : List Entry). record {
        entries = all;
        close = (feed_of sheet true rest (events_after [] (entries ++ told ∷ []))).close;
        rest = (feed_of sheet true rest (events_after [] (entries ++ told ∷ []))).rest;
      })
      (sym (append_assoc entries (told ∷ [])
      (feed_of sheet true rest (events_after [] (entries ++ told ∷ []))).entries))

  -- the feed goes on after an event
  pub change-more : (event : Event) → ReadsEntryAs entry before after (Ok (Change event))
      → LeadsFeed sheet start after (entries ++ Change event ∷ [])
  change-more event reads =
      more-lines (Change event) _ (λ same. absurd cc) (entry-front (Change event)) reads

  -- and after an ask
  pub ask-more : ReadsEntryAs entry before after (Ok Ask)
      → LeadsFeed sheet start after (entries ++ Ask ∷ [])
  ask-more reads = more-lines Ask _ (λ same. absurd cc) (entry-front Ask) reads

  -- nothing more is before what ends the feed
  close-front : (close : Result Entry FeedStop) (rest : Contents)
      → with_entries entries (record { entries = []; close = close; rest = rest })
      ≡ feed_ended entries close rest
  close-front close rest =
      ap (λ (all : List Entry). feed_ended all close rest) (append-nil entries)

  -- the record `proofs` ends it
  pub proofs-end : ReadsEntryAs entry before after (Ok Proofs)
      → EndsFeed sheet start after entries true
  proofs-end reads =
      more-lines Proofs (feed_ended entries (Ok Proofs)) (λ same. absurd cc)
      (close-front (Ok Proofs)) reads

  -- a feed that is closed otherwise
  closed-end : (result : Result Entry FeedStop)
      → ((rest : Contents) → feed_after sheet true events rest result
      ≡ record { entries = []; close = result; rest = rest })
      → ReadsEntryAs entry before after result → ReadsFeedAs sheet start after entries result
  unfolding mid
  closed-end result closes reads =
      let there = read_after (entry_reading_of entry)
      (λ (rest : Contents). record { gives = result; rest = rest }) before after mid.0 mid.1
      reads in (
        there.0,
        there.1,
        ap (λ (c : Contents). feed_of sheet true c []) mid.2 ∙ leads.2 mid.0
            ∙ ap (with_entries entries)
            (by_known mid.0 there.0 result there.2 ∙ closes there.0)
            ∙ close-front result there.0,
      )

  -- the input's end does
  pub input-end : ReadsEntryAs entry before after (Ok End)
      → EndsFeed sheet start after entries Rattle.std.specs.Prelude.false
  input-end reads = closed-end (Ok End) (λ rest. refl) reads

  -- it stops
  pub feed-stops : (stop : FeedStop) → ReadsEntry entry before after (Err stop)
      → StopsFeed sheet start after entries stop
  unfolding mid
  feed-stops (Fault number fault) reads =
      closed-end (Err (Fault number fault)) (λ rest. refl) reads
  feed-stops (Read ReadFault) reads = (
    leads.0 ++ reads.0,
    leads.1 ∙ ap (option_map (with_lines leads.0)) reads.1 ∙ told_both leads.0 reads.0 after,
    λ rest.
        ap (λ (c : Contents). feed_of sheet true c []) (with_lines-append leads.0 reads.0 rest)
        ∙ leads.2 (with_lines reads.0 rest)
        ∙ ap (with_entries entries)
        (by_reading (with_lines reads.0 rest)
        ∙ ap (λ (r : EntryReading). feed_after sheet true events r.rest r.gives) (reads.2 rest)
        ∙ sym (by_reading rest)),
  )
  feed-stops (Read (LineTooLong number)) reads =
      closed-end (Err (Read (LineTooLong number))) (λ rest. refl) reads
  feed-stops (Read (InputTooLong number)) reads =
      closed-end (Err (Read (InputTooLong number))) (λ rest. refl) reads
  feed-stops OutOfMemory reads = tt

-- ---- one step

-- what is read in a state is read after its events
reads_in : (sheet : Sheet) (state : FeedSoFarView) (before after : Option Contents)
    (result : Result Entry FeedStop) → IsStateOf sheet state
    → ReadsEntry (entry_in sheet state.season state.events true) before after result
    → ReadsEntry (entry_in sheet (season_after sheet (events_after [] state.entries))
    (epoch_of (events_after [] state.entries)) true) before after result
reads_in sheet state before after result is reads =
    let P : Results → Type 0 =
    λ s. ReadsEntry (entry_in sheet s state.events true) before after result in
    let Q : ℕ → Type 0 =
    λ n. ReadsEntry (entry_in sheet (season_after sheet (events_after [] state.entries)) n true)
    before after result in
    subst Q is.events (subst P is.season reads)

module _ (sheet : Sheet) (start : Contents) (before after : Option Contents) (state : FeedSoFarView)
    (is : IsStateOf sheet state) (leads : LeadsFeed sheet start before state.entries) where
  -- an event
  pub step-change : (new : FeedSoFarView) (event : Event)
      → ReadsEntry (entry_in sheet state.season state.events true) before after
      (Ok (Change event))
      → new ≡ state_with state (Change event) → LeadsFeed sheet start after new.entries
  step-change new event reads same =
      let P : FeedSoFarView → Type 0 = λ s. LeadsFeed sheet start after s.entries in
      subst P (sym same) (change-more sheet start before after state.entries leads event
      (reads_in sheet state before after (Ok (Change event)) is reads))

  -- an ask
  pub step-ask : (new : FeedSoFarView)
      → ReadsEntry (entry_in sheet state.season state.events true) before after (Ok Ask)
      → new ≡ state_with state Ask → LeadsFeed sheet start after new.entries
  step-ask new reads same =
      let P : FeedSoFarView → Type 0 = λ s. LeadsFeed sheet start after s.entries in
      subst P (sym same) (ask-more sheet start before after state.entries leads
      (reads_in sheet state before after (Ok Ask) is reads))

  -- the record `proofs`
  pub step-proofs : ReadsEntry (entry_in sheet state.season state.events true) before after
      (Ok Proofs)
      → EndsFeed sheet start after state.entries true
  step-proofs reads =
      proofs-end sheet start before after state.entries leads
      (reads_in sheet state before after (Ok Proofs) is reads)

  -- the input's end
  pub step-end : ReadsEntry (entry_in sheet state.season state.events true) before after (Ok End)
      → EndsFeed sheet start after state.entries Rattle.std.specs.Prelude.false
  step-end reads =
      input-end sheet start before after state.entries leads
      (reads_in sheet state before after (Ok End) is reads)

  -- a stop
  pub step-stop : (stop : FeedStop)
      → ReadsEntry (entry_in sheet state.season state.events true) before after (Err stop)
      → StopsFeed sheet start after state.entries stop
  step-stop stop reads =
      feed-stops sheet start before after state.entries leads stop
      (reads_in sheet state before after (Err stop) is reads)
