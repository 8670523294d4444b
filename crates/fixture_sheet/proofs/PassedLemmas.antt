-- Lemmas on the lines that a call passed, and on where it leaves the reader.
use Rattle.std.proofs.Common.{◌≡◌, ℕ, Bool, List, [], Option, Result, refl, sym, subst, arith}
use Rattle.std.proofs.lemmas.Bool.Decides.{nat_tests}
use Rattle.port_core.specs.declared.line.Line.{Line}
use Rattle.port_core.specs.declared.line.Line.TheVariants.{Text, End}
use Rattle.port_core.specs.declared.line.ReadStop.{ReadStop}
use Rattle.port_core.specs.Contents.{Position, number_at}
use Rattle.port_core.specs.Readers.{LineReaderView}
use Rattle.port_core.specs.inside.ReaderCalls.{PassesTo, given_by, LeavesReader}
use Rattle.port_core.proofs.PassingLemmas.{passes-none, passes-more}
use Rattle.fixture_sheet.specs.inside.Calls.{PassesLines, PassesUpTo, refused_before}

-- ---- the answer that a call's answer came of

-- the line that was passed last
pub refused-line : (position : Position) (number : ℕ) → number ≡ position.lines
    → refused_before position number ≡ Text number
refused-line position number is = grind (arith, nat_tests)

-- the input's end
pub refused-end : (position : Position) (number : ℕ) → number ≡ number_at position
    → refused_before position number ≡ End number
refused-end position number is = grind (arith, nat_tests)

-- the same answer passes and leaves the same
pub passes-as : (old new : LineReaderView) (left left' : Option (List ℕ)) (ended ended' : Bool)
    (answer same : Result Line ReadStop) → same ≡ answer
    → PassesTo old new left left' ended ended' (given_by answer new.text)
    → PassesTo old new left left' ended ended' (given_by same new.text)
passes-as old new left left' ended ended' answer same is passes =
    let P : Result Line ReadStop → Type 0 =
    λ a. PassesTo old new left left' ended ended' (given_by a new.text) in
    subst P (sym is) passes

pub leaves-as : (new : LineReaderView) (left : Option (List ℕ)) (answer same : Result Line ReadStop)
    → same ≡ answer → LeavesReader new left answer → LeavesReader new left same
leaves-as new left answer same is leaves =
    let P : Result Line ReadStop → Type 0 = λ a. LeavesReader new left a in
    subst P (sym is) leaves

-- ---- lines passed in turn

-- none yet
pub PassesLines-none : (old : LineReaderView) (left : Option (List ℕ)) (ended : Bool)
    → PassesLines old old left left ended ended
PassesLines-none old left ended = ([], passes-none _ _ _ _ _ refl (λ unsaid. unsaid))

-- more of them
pub PassesLines-more : (first mid last : LineReaderView) (left left' left'' : Option (List ℕ))
    (x y z : Bool) (given : List (ℕ × List ℕ)) → PassesLines first mid left left' x y
    → PassesTo mid last left' left'' y z given → PassesLines first last left left'' x z
PassesLines-more first mid last left left' left'' x y z given front behind =
    (_, passes-more _ _ _ _ _ _ _ _ _ front.0 given front.1 behind)

-- those up to an answer of the reader
pub PassesUpTo-behind : (first mid last : LineReaderView) (left left' left'' : Option (List ℕ))
    (x y z : Bool) (answer : Result Line ReadStop) → PassesLines first mid left left' x y
    → PassesTo mid last left' left'' y z (given_by answer last.text)
    → PassesUpTo first last left left'' x z answer
PassesUpTo-behind first mid last left left' left'' x y z answer front behind =
    (front.0, passes-more _ _ _ _ _ _ _ _ _ front.0 (given_by answer last.text) front.1 behind)
