-- Lemmas on the last read of a call for the next entry, and of a round.
use Rattle.std.proofs.Common.{◌≡◌, ℕ, Bool, List, ◌++◌, Option, None, Some, option_map, Result, Ok}
use Rattle.std.proofs.Common.{Err, ap, inl, inr, subst}
use Rattle.league_core.specs.declared.season.Event.{Event}
use Rattle.port_core.specs.declared.line.ReadStop.{ReadStop}
use Rattle.port_core.specs.declared.line.ReadStop.TheVariants.{ReadFault, LineTooLong, InputTooLong}
use Rattle.port_core.specs.Contents.{Contents, with_lines}
use Rattle.port_core.specs.Readers.{LineReaderView, TakesInput, contents_to_come}
use Rattle.port_core.specs.inside.ReaderCalls.{ReadsInNeed, StopsAtAnswer}
use Rattle.fixture_sheet.specs.LastReads.{ReadsOnWay}
use Rattle.fixture_sheet.proofs.LastReadLemmas.{passed-to-come, way-more, way-need}
use Rattle.result_log.specs.declared.entry.Entry.{Entry}
use Rattle.result_log.specs.declared.fault.FeedFault.{FeedFault}
use Rattle.result_log.specs.declared.fault.FeedStop.{FeedStop}
use Rattle.result_log.specs.declared.fault.FeedStop.TheVariants.{Fault, Read, OutOfMemory}
use Rattle.result_log.specs.inside.FeedParts.{LineEntry, LiveReading}
use Rattle.result_log.specs.inside.Calls.{AnswersLine, PassesBlank}
use Rattle.result_log.specs.inside.Rounds.{IsUnderWay, spot_of}
use Rattle.result_log.specs.inside.LastReads.{GivesBlank, GivesEvents, StopsAtClose, StopsAtEntry}
use Rattle.result_log.specs.inside.LastReads.{StopsAtRecord}
use Rattle.result_log.proofs.CallLemmas.{with_lines-append}
use Rattle.result_log.proofs.LiveLemmas.{tells-append, tells-blank}

module _ {S : Type 0} (left : S → Option (List ℕ)) (reads : S → List ℕ → S → Type 0) where
  -- an answer of the reader is a line's, whatever it holds
  pub text-stops : (old new : LineReaderView) (before after : S) (number : ℕ)
      (line : Result (Option Entry) FeedFault) (result : Option (Result Entry FeedStop))
      → AnswersLine number line result → ReadsInNeed left reads old new before after
      → StopsAtRecord left reads old new before after result
  text-stops old new before after number line None answer need = need
  text-stops old new before after number line (Some (Ok entry)) answer need = need
  text-stops old new before after number line (Some (Err (Fault refused fault))) answer need = need
  text-stops old new before after number line (Some (Err (Read stop))) answer need = absurd answer
  text-stops old new before after number line (Some (Err OutOfMemory)) answer need = need

  -- or a stop
  pub stop-stops : (old new : LineReaderView) (before after : S) (stop : ReadStop)
      → StopsAtAnswer left reads old new before after (Err stop)
      → StopsAtRecord left reads old new before after (Some (Err (Read stop)))
  stop-stops old new before after ReadFault stops = tt
  stop-stops old new before after (LineTooLong number) stops = stops
  stop-stops old new before after (InputTooLong number) stops = stops

  -- one line more without a record
  pub blank-further : (entry : LineEntry) (a b c : LineReaderView) (first second third : S)
      (x y : Bool)
      → PassesBlank entry a b (left first) (left second) x y
      → TakesInput a b (left first) (left second)
      → ReadsOnWay left reads (GivesBlank entry) a b first second
      → ReadsInNeed left reads b c second third
      → ReadsOnWay left reads (GivesBlank entry) a c first third
  blank-further entry a b c first second third x y blank takes one two =
      way-more left reads (GivesBlank entry) (λ start then. start ≡ then) a b c first second third
      (λ then same.
      let P : Option Contents → Type 0 =
      λ told. contents_to_come a (left first) ≡ option_map (with_lines blank.0) told in (
        blank.0,
        blank.1,
        subst P same (passed-to-come a b (left first) (left second) x y blank.0 blank.2),
      ))
      takes one (way-need left reads b c second third two)

  -- the answer after them
  pub entry-stops : (entry : LineEntry) (a b c : LineReaderView) (first second third : S)
      (x y : Bool)
      (result : Result Entry FeedStop) → PassesBlank entry a b (left first) (left second) x y
      → TakesInput a b (left first) (left second)
      → ReadsOnWay left reads (GivesBlank entry) a b first second
      → StopsAtRecord left reads b c second third (Some result)
      → StopsAtEntry left reads entry a c first third result
  entry-stops entry a b c first second third x y (Ok given) blank takes one two =
      blank-further entry a b c first second third x y blank takes one two
  entry-stops entry a b c first second third x y (Err (Fault n fault)) blank takes one two =
      blank-further entry a b c first second third x y blank takes one two
  entry-stops entry a b c first second third x y (Err (Read ReadFault)) blank takes one two = tt
  entry-stops entry a b c first second third x y (Err (Read (LineTooLong n))) blank takes one two =
      blank-further entry a b c first second third x y blank takes one two
  entry-stops entry a b c first second third x y (Err (Read (InputTooLong n))) blank takes one two =
      blank-further entry a b c first second third x y blank takes one two
  entry-stops entry a b c first second third x y (Err OutOfMemory) blank takes one two =
      blank-further entry a b c first second third x y blank takes one two

-- ---- a source round a source

module _ {S T : Type 0} (within : T → S) (left : S → Option (List ℕ))
    (reads : S → List ℕ → S → Type 0) (old new : LineReaderView) (before after : T) where
  -- what it reads, the source within it reads
  way-within : (IsOnWay : Option Contents → Option Contents → Type 0)
      → ReadsOnWay (λ (t : T). left (within t))
      (λ (t : T) (bytes : List ℕ) (t' : T). reads (within t) bytes (within t')) IsOnWay old new
      before after
      → ReadsOnWay left reads IsOnWay old new (within before) (within after)
  way-within IsOnWay ways =
      elim ways [
        | inl nothing ↦ inl (ap within nothing.0, nothing.1)
        | inr last ↦ inr (record {
          reader = last.reader;
          source = within last.source;
          last = last.last;
          way = last.way;
          front = last.front;
          unanswered = last.unanswered;
          read = last.read;
          stream = last.stream;
          count = last.count;
        })
      ]

  pub entry-within : (entry : LineEntry) (result : Result Entry FeedStop)
      → StopsAtEntry (λ (t : T). left (within t))
      (λ (t : T) (bytes : List ℕ) (t' : T). reads (within t) bytes (within t')) entry old new
      before after result
      → StopsAtEntry left reads entry old new (within before) (within after) result
  entry-within entry (Ok given) stops = way-within (GivesBlank entry) stops
  entry-within entry (Err (Fault number fault)) stops = way-within (GivesBlank entry) stops
  entry-within entry (Err (Read ReadFault)) stops = tt
  entry-within entry (Err (Read (LineTooLong number))) stops = way-within (GivesBlank entry) stops
  entry-within entry (Err (Read (InputTooLong number))) stops = way-within (GivesBlank entry) stops
  entry-within entry (Err OutOfMemory) stops = way-within (GivesBlank entry) stops

-- ---- a round

module _ {S : Type 0} (left : S → Option (List ℕ)) (reads : S → List ℕ → S → Type 0) where
  -- the same of the same entries
  pub entry-stops-as : (found same : LineEntry) (old new : LineReaderView) (before after : S)
      (result : Result Entry FeedStop) → found ≡ same
      → StopsAtEntry left reads found old new before after result
      → StopsAtEntry left reads same old new before after result
  entry-stops-as found same old new before after result is stops =
      let P : LineEntry → Type 0 =
      λ entry. StopsAtEntry left reads entry old new before after result in
      subst P is stops

  module _ (live : LiveReading) (log mid : List Event) (a b c : LineReaderView)
      (first second third : S)
      (x y : Bool) (m n : ℕ)
      (under : IsUnderWay live log mid
      (spot_of a (left first) x m) (spot_of b (left second) y n))
      (one : ReadsOnWay left reads (GivesEvents live log) a b first second) where
    -- one event more, or what ends the round, after lines without a record
    pub round-further : ReadsOnWay left reads (GivesBlank (live mid)) b c second third
        → ReadsOnWay left reads (GivesEvents live log) a c first third
    round-further two =
        way-more left reads (GivesEvents live log) (GivesBlank (live mid)) a b c
        first second third
        (λ then blank. (
          under.lines ++ blank.0,
          mid,
          tells-append live log mid mid under.lines blank.0 under.tells
              (tells-blank live mid blank.0 blank.1),
          with_lines-append under.lines blank.0 (contents_to_come a (left first))
              (contents_to_come b (left second)) then
              (passed-to-come a b (left first) (left second) x y under.lines under.passes)
              blank.2,
        ))
        under.takes one two

    pub round-stops : (close : Result Entry FeedStop)
        → StopsAtEntry left reads (live mid) b c second third close
        → StopsAtClose left reads live log a c first third close
    round-stops (Ok given) two = round-further two
    round-stops (Err (Fault number fault)) two = round-further two
    round-stops (Err (Read ReadFault)) two = tt
    round-stops (Err (Read (LineTooLong number))) two = round-further two
    round-stops (Err (Read (InputTooLong number))) two = round-further two
    round-stops (Err OutOfMemory) two = round-further two
