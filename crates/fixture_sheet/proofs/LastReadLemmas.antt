-- Lemmas on the last read of a call that takes several answers of the reader.
use Rattle.std.proofs.Common.{◌≡◌, ℕ, Bool, List, ◌++◌, Option, None, Some, option_map, Err}
use Rattle.std.proofs.Common.{refl, sym, ap, subst, ◌∙◌, inl, inr}
use Rattle.std.specs.Io.KnownBytes.{prepend_known}
use Rattle.port_core.specs.declared.line.ReadStop.{ReadStop}
use Rattle.port_core.specs.declared.line.ReadStop.TheVariants.{ReadFault, LineTooLong}
use Rattle.port_core.specs.declared.line.ReadStop.TheVariants.{InputTooLong}
use Rattle.port_core.specs.Lines.{lines_of}
use Rattle.port_core.specs.Contents.{Contents, contents_from, with_lines}
use Rattle.port_core.specs.Readers.{LineReaderView, TakesInput, contents_to_come}
use Rattle.port_core.specs.inside.ReaderCalls.{PassesTo, ReadsInNeed, StopsAtAnswer}
use Rattle.port_core.proofs.TakingLemmas.{TakesInput-more}
use Rattle.fixture_sheet.specs.declared.fault.ReadingStop.{ReadingStop}
use Rattle.fixture_sheet.specs.declared.fault.ReadingStop.TheVariants.{Fault, Read, OutOfMemory}
use Rattle.fixture_sheet.specs.declared.progress.Progress.{Progress}
use Rattle.fixture_sheet.specs.inside.Calls.{Leads}
use Rattle.fixture_sheet.specs.LastReads.{ReadsOnWay}
use Rattle.fixture_sheet.specs.Readings.{SheetRules}
use Rattle.fixture_sheet.specs.inside.SheetReads.{LeadsToDraft, StopsAtLine, StopsAtSheet}

-- ---- ways

-- lines passed stand before what is still to come
pub passed-to-come : (old new : LineReaderView) (left left' : Option (List ℕ)) (ended ended' : Bool)
    (given : List (ℕ × List ℕ)) → PassesTo old new left left' ended ended' given
    → contents_to_come old left ≡ option_map (with_lines given) (contents_to_come new left')
passed-to-come old new None None ended ended' given passes = refl
passed-to-come old new None (Some after) ended ended' given passes = absurd passes
passed-to-come old new (Some before) None ended ended' given passes = absurd passes
passed-to-come old new (Some before) (Some after) ended ended' given passes =
    ap Some (ap (contents_from old.position) passes.split
    ∙ passes.gives (lines_of (new.held ++ after)))

module _ {S : Type 0} (left : S → Option (List ℕ)) (reads : S → List ℕ → S → Type 0) where
  -- one answer of the reader is a way on which nothing is given
  pub way-need : (old new : LineReaderView) (before after : S)
      → ReadsInNeed left reads old new before after
      → ReadsOnWay left reads (λ first then. first ≡ then) old new before after
  way-need old new before after need =
      elim need [
        | inl nothing ↦ inl nothing
        | inr last ↦ inr (record {
          reader = last.reader;
          source = last.source;
          last = last.last;
          way = last.same;
          front = last.front;
          unanswered = last.unanswered;
          read = last.read;
          stream = last.stream;
          count = last.count;
        })
      ]

  -- one way and then another are a way
  pub way-more : (First Second : Option Contents → Option Contents → Type 0)
      (a b c : LineReaderView)
      (first second third : S)
      → ((then : Option Contents) → Second (contents_to_come b (left second)) then
      → First (contents_to_come a (left first)) then)
      → TakesInput a b (left first) (left second)
      → ReadsOnWay left reads First a b first second
      → ReadsOnWay left reads Second b c second third
      → ReadsOnWay left reads First a c first third
  way-more First Second a b c first second third on takes one two =
      elim two [
        | inr more ↦ inr (record {
          reader = more.reader;
          source = more.source;
          last = more.last;
          way = on (contents_to_come more.reader (left more.source)) more.way;
          front = TakesInput-more a b more.reader _ _ _ takes more.front;
          unanswered = more.unanswered;
          read = more.read;
          stream = more.stream;
          count = more.count;
        })
        | inl none ↦ elim one [
          | inl nothing ↦ inl (none.0 ∙ nothing.0, none.1 ∙ nothing.1)
          | inr last ↦ inr (record {
            reader = last.reader;
            source = last.source;
            last = last.last;
            way = last.way;
            front = last.front;
            unanswered = last.unanswered;
            read = subst (reads last.source last.last) (sym none.0) last.read;
            stream = last.stream ∙ ap (λ s. prepend_known last.last (left s)) (sym none.0);
            count = none.1 ∙ last.count;
          })
        ]
      ]

-- ---- of a sheet

module _ {S D W F : Type 0} (rules : SheetRules D W F) (left : S → Option (List ℕ))
    (reads : S → List ℕ → S → Type 0) where
  -- an answer of the reader is a record's, or a stop
  pub line-stops : (old new : LineReaderView) (before after : S) (stop : ReadStop)
      → StopsAtAnswer left reads old new before after (Err stop)
      → StopsAtLine {A = Progress D W} {F = F} left reads old new before after (Err (Read stop))
  line-stops old new before after ReadFault stops = tt
  line-stops old new before after (LineTooLong number) stops = stops
  line-stops old new before after (InputTooLong number) stops = stops

  -- one record more on the way to a sheet
  pub sheet-further : (a b c : LineReaderView) (first second third : S) (draft : Option D)
      → Leads rules (contents_to_come a (left first)) (contents_to_come b (left second)) draft
      → TakesInput a b (left first) (left second)
      → ReadsOnWay left reads (LeadsToDraft rules) a b first second
      → ReadsInNeed left reads b c second third
      → ReadsOnWay left reads (LeadsToDraft rules) a c first third
  sheet-further a b c first second third draft leads takes one two =
      way-more left reads (LeadsToDraft rules) (λ start then. start ≡ then) a b c first second
      third
      (λ then same.
      let P : Option Contents → Type 0 =
      λ told. Leads rules (contents_to_come a (left first)) told draft in
      (draft, subst P same leads))
      takes one (way-need left reads b c second third two)

  -- the sheet, or what comes in its place, after them
  pub sheet-stops : (a b c : LineReaderView) (first second third : S) (draft : Option D)
      (stop : ReadingStop F)
      → Leads rules (contents_to_come a (left first)) (contents_to_come b (left second)) draft
      → TakesInput a b (left first) (left second)
      → ReadsOnWay left reads (LeadsToDraft rules) a b first second
      → StopsAtLine {A = Progress D W} left reads b c second third (Err stop)
      → StopsAtSheet rules left reads a c first third (Err stop)
  sheet-stops a b c first second third draft (Fault number fault) leads takes one two =
      sheet-further a b c first second third draft leads takes one two
  sheet-stops a b c first second third draft (Read ReadFault) leads takes one two = tt
  sheet-stops a b c first second third draft (Read (LineTooLong number)) leads takes one two =
      sheet-further a b c first second third draft leads takes one two
  sheet-stops a b c first second third draft (Read (InputTooLong number)) leads takes one two =
      sheet-further a b c first second third draft leads takes one two
  sheet-stops a b c first second third draft OutOfMemory leads takes one two =
      sheet-further a b c first second third draft leads takes one two
