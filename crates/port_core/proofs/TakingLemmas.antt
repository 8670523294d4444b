-- Bytes taken from a source and bytes passed, one line after the other.
use Rattle.std.proofs.Common.{◌≡◌, ℕ, ◌+◌, ◌<◌, ◌≤◌, Bool, true, false, if◌then◌else◌, eqb, leb}
use Rattle.std.proofs.Common.{List, [], ◌++◌, length, take, Option, Some, None, Result, Ok, Err}
use Rattle.std.proofs.Common.{refl, ap, sym, ◌∙◌, subst, arith, length-append}
use Rattle.std.specs.Prelude.{option_map}
use Rattle.std.specs.Io.KnownBytes.{prepend_known}
use Rattle.std.proofs.lemmas.Bool.{leb-false}
use Rattle.std.proofs.lemmas.Bool.Decides.{nat_tests}
use Rattle.port_core.specs.declared.line.Line.{Line}
use Rattle.port_core.specs.declared.line.Line.TheVariants.{Text, End}
use Rattle.port_core.specs.declared.line.ReadStop.{ReadStop}
use Rattle.port_core.specs.declared.line.ReadStop.TheVariants.{InputTooLong}
use Rattle.port_core.specs.Contents.{number_at, content_at, is_skipped}
use Rattle.port_core.specs.Readers.{LineReaderView, TakesInput}
use Rattle.port_core.specs.inside.ReaderCalls.{LeavesAfter, GivesLine, EndsLine, EndsInput, MovesOn}
use Rattle.port_core.specs.inside.ReaderCalls.{LineMovesOn}
use Rattle.league_core.proofs.plain.Options.{match_bool}
use Rattle.league_core.proofs.plain.Streams.{prepend-prepend}

-- only the bytes passed before the call count
pub LeavesAfter-at : (old entry new : LineReaderView) (left : Option (List ℕ))
    (result : Option (Result Line ReadStop)) → entry.position ≡ old.position
    → LeavesAfter old new left result → LeavesAfter entry new left result
LeavesAfter-at old entry new left None same leaves =
    omega (arith, leaves, ap (λ p. p.bytes) same)
LeavesAfter-at old entry new left (Some result) same leaves = leaves

-- ---- one line after the other

-- bytes taken in turn are bytes taken
pub TakesInput-more : (a b c : LineReaderView) (first second third : Option (List ℕ))
    → TakesInput a b first second → TakesInput b c second third → TakesInput a c first third
TakesInput-more a b c first second third one two = (
  one.0 ++ two.0,
  one.1 ∙ ap (prepend_known one.0) two.1 ∙ prepend-prepend one.0 two.0 third,
  omega (arith, one.2, two.2, length-append one.0 two.0),
)

-- none were taken
pub TakesInput-none : (a : LineReaderView) (left : Option (List ℕ)) → TakesInput a a left left
TakesInput-none a None = ([], refl, omega arith)
TakesInput-none a (Some left) = ([], refl, omega arith)

-- ---- the bytes passed

-- bytes passed before count too
pub MovesOn-from : (first old new : LineReaderView) (result : Result Line ReadStop)
    → first.position.bytes ≤ old.position.bytes → MovesOn old new result → MovesOn first new result
MovesOn-from first old new (Ok (Text number)) less moves = (omega (arith, less, moves.0), moves.1)
MovesOn-from first old new (Ok (End number)) less moves = tt
MovesOn-from first old new (Err stop) less moves = tt

moves-by : (skipped : Bool) (old new : LineReaderView) (number : ℕ) (line : Option Line)
    (result : Option (Result Line ReadStop))
    → line ≡ (if skipped then None else Some (Text number)) → result ≡ option_map Ok line
    → (old.position.bytes < new.position.bytes) × (new.position.bytes ≤ 67108864)
    → LineMovesOn old new result
moves-by true old new number line result line-is is more =
    subst (LineMovesOn old new) (sym (is ∙ ap (option_map Ok) line-is)) tt
moves-by false old new number line result line-is is more =
    subst (LineMovesOn old new) (sym (is ∙ ap (option_map Ok) line-is)) more

GivesLine-moves : (old new : LineReaderView) (end behind : ℕ)
    (result : Option (Result Line ReadStop)) → GivesLine old new end behind result → 0 < behind
    → old.position.bytes + behind ≤ 67108864 → LineMovesOn old new result
GivesLine-moves old new end behind result given some inside =
    let at = ap (λ r. r.position.bytes) given.2.1 in
    moves-by (is_skipped (content_at old.position (take end old.held))) old new
    (number_at old.position) given.0 result given.2.0 given.1 (omega arith, omega arith)

-- a line that ended in hand
pub Ended-moves : (mid new : LineReaderView) (at : ℕ) (result : Option (Result Line ReadStop))
    → EndsLine mid new at result → LineMovesOn mid new result
Ended-moves mid new at result answer =
    match_bool (leb 67108864 (mid.position.bytes + at))
    ((result ≡ Some (Err (InputTooLong (number_at mid.position)))) × (new ≡ mid))
    (GivesLine mid new at (at + 1) result) (LineMovesOn mid new result) answer
    (λ past stopped. subst (LineMovesOn mid new) (sym stopped.0) tt)
    (λ inside given. GivesLine-moves mid new at (at + 1) result given (omega arith)
    (omega (arith, leb-false 67108864 (mid.position.bytes + at) inside)))

-- the end of the input
pub Open-moves : (mid new : LineReaderView) (result : Option (Result Line ReadStop))
    → mid.position.bytes + length mid.held ≤ 67108864 → EndsInput mid new result
    → LineMovesOn mid new result
Open-moves mid new result inside answer =
    match_bool (eqb (length mid.held) 0)
    ((result ≡ Some (Ok (End (number_at mid.position)))) × (new ≡ mid))
    (GivesLine mid new (length mid.held) (length mid.held) result)
    (LineMovesOn mid new result) answer
    (λ none ended_there. subst (LineMovesOn mid new) (sym ended_there.0) tt)
    (λ some given. GivesLine-moves mid new (length mid.held) (length mid.held) result given
    (grind (arith, nat_tests)) inside)

pub LineMovesOn-at : (old entry new : LineReaderView) (result : Option (Result Line ReadStop))
    → entry.position ≡ old.position → LineMovesOn old new result → LineMovesOn entry new result
LineMovesOn-at old entry new None same moves = tt
LineMovesOn-at old entry new (Some result) same moves =
    MovesOn-from entry old new result (omega (arith, ap (λ p. p.bytes) same)) moves
