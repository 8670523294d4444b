-- The last read of a call that reads a saved text.
use Rattle.std.proofs.Common.{◌≡◌, ℕ, Bool, true, false, List, Option, Result, Ok, Err, subst}
use Rattle.league_core.specs.declared.sheet.Sheet.{Sheet}
use Rattle.league_core.specs.declared.question.Question.{Question}
use Rattle.port_core.specs.declared.line.ReadStop.{ReadStop}
use Rattle.port_core.specs.declared.line.ReadStop.TheVariants.{ReadFault, LineTooLong}
use Rattle.port_core.specs.declared.line.ReadStop.TheVariants.{InputTooLong}
use Rattle.port_core.specs.Contents.{Contents}
use Rattle.port_core.specs.Readers.{LineReaderView, TakesInput, contents_to_come}
use Rattle.port_core.specs.inside.ReaderCalls.{LeavesReader, ReadsInNeed, StopsAtAnswer}
use Rattle.fixture_sheet.specs.LastReads.{ReadsOnWay}
use Rattle.fixture_sheet.proofs.LastReadLemmas.{way-need, way-more}
use Rattle.pool_save.specs.declared.stop.SaveStop.{SaveStop}
use Rattle.pool_save.specs.declared.stop.SaveStop.TheVariants.{BadSave, Read, OutOfMemory}
use Rattle.pool_save.specs.SavedReadings.{SaveState}
use Rattle.pool_save.specs.inside.Calls.{LeadsSaved, LeadsToState, StepStops, StopsBySave}

module _ {S : Type 0} (left : S → Option (List ℕ)) (reads : S → List ℕ → S → Type 0)
    (sheet : Sheet) (asked : List Question) where
  -- an answer of the reader is that of a line, or a stop
  pub line-stops : (old new : LineReaderView) (before after : S) (stop : ReadStop)
      → StopsAtAnswer left reads old new before after (Err stop)
      → StepStops left reads old new before after (Err (Read stop))
  line-stops old new before after ReadFault stops = tt
  line-stops old new before after (LineTooLong number) stops = stops
  line-stops old new before after (InputTooLong number) stops = stops

  -- one line more on the way
  pub saved-further : (a b c : LineReaderView) (first second third : S) (state : SaveState)
      → LeadsSaved sheet asked (contents_to_come a (left first)) (contents_to_come b (left second))
      state
      → TakesInput a b (left first) (left second)
      → ReadsOnWay left reads (LeadsToState sheet asked) a b first second
      → ReadsInNeed left reads b c second third
      → ReadsOnWay left reads (LeadsToState sheet asked) a c first third
  saved-further a b c first second third state leads takes one two =
      way-more left reads (LeadsToState sheet asked) (λ start then. start ≡ then) a b c first
      second third
      (λ then same.
      let P : Option Contents → Type 0 =
      λ told. LeadsSaved sheet asked (contents_to_come a (left first)) told state in
      (state, subst P same leads))
      takes one (way-need left reads b c second third two)

  -- what comes in place of the trees, after them
  pub saved-stops : (a b c : LineReaderView) (first second third : S)
      (state : SaveState) (stop : SaveStop)
      → LeadsSaved sheet asked (contents_to_come a (left first)) (contents_to_come b (left second))
      state
      → TakesInput a b (left first) (left second)
      → ReadsOnWay left reads (LeadsToState sheet asked) a b first second
      → StepStops left reads b c second third (Err stop)
      → StopsBySave sheet asked left reads a c first third stop
  saved-stops a b c first second third state (BadSave number) leads takes one two =
      saved-further a b c first second third state leads takes one two
  saved-stops a b c first second third state (Read ReadFault) leads takes one two = tt
  saved-stops a b c first second third state (Read (LineTooLong number)) leads takes one two =
      saved-further a b c first second third state leads takes one two
  saved-stops a b c first second third state (Read (InputTooLong number)) leads takes one two =
      saved-further a b c first second third state leads takes one two
  saved-stops a b c first second third state OutOfMemory leads takes one two =
      saved-further a b c first second third state leads takes one two
