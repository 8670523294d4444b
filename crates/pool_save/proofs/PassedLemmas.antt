-- The lines that a call passes which reads a saved text, line by line.
use Rattle.std.proofs.Common.{◌≡◌, ℕ, Bool, List, [], ◌++◌, Option, Result, Err, refl, sym, subst}
use Rattle.std.proofs.Common.{append_assoc}
use Rattle.port_core.specs.declared.line.Line.{Line}
use Rattle.port_core.specs.declared.line.ReadStop.{ReadStop}
use Rattle.port_core.specs.Readers.{LineReaderView}
use Rattle.port_core.specs.inside.ReaderCalls.{PassesTo, given_by}
use Rattle.port_core.proofs.PassingLemmas.{passes-none, passes-more}
use Rattle.fixture_sheet.specs.inside.Calls.{PassesLines, PassesUpTo}
use Rattle.fixture_sheet.proofs.PassedLemmas.{PassesLines-more, passes-as}

-- no line yet, and a stop
pub PassesUpTo-none : (old : LineReaderView) (left : Option (List ℕ)) (ended : Bool)
    (stop : ReadStop) → PassesUpTo old old left left ended ended (Err stop)
PassesUpTo-none old left ended stop = ([], passes-none _ _ _ _ _ refl (λ unsaid. unsaid))

-- one answer of the reader
pub PassesUpTo-one : (old new : LineReaderView) (left left' : Option (List ℕ)) (ended ended' : Bool)
    (answer same : Result Line ReadStop) → same ≡ answer
    → PassesTo old new left left' ended ended' (given_by answer new.text)
    → PassesUpTo old new left left' ended ended' same
PassesUpTo-one old new left left' ended ended' answer same is passes =
    ([], passes-as old new left left' ended ended' answer same is passes)

module _ (first mid last : LineReaderView) (left left' left'' : Option (List ℕ)) (x y z : Bool)
    (answer : Result Line ReadStop) (front : PassesLines first mid left left' x y)
    (behind : PassesUpTo mid last left' left'' y z answer) where
  -- lines, and more of them up to an answer, are lines
  pub PassesUpTo-lines : PassesLines first last left left'' x z
  PassesUpTo-lines =
      PassesLines-more first mid last left left' left'' x y z
      (behind.0 ++ given_by answer last.text) front behind.1

  -- up to that answer
  pub PassesUpTo-after : PassesUpTo first last left left'' x z answer
  PassesUpTo-after =
      let given = given_by answer last.text in
      let P : List (ℕ × List ℕ) → Type 0 = λ all. PassesTo first last left left'' x z all in (
        front.0 ++ behind.0,
        subst P (sym (append_assoc front.0 behind.0 given))
            (passes-more _ _ _ _ _ _ _ _ _ front.0 (behind.0 ++ given) front.1 behind.1),
      )
