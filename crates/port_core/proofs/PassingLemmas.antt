-- Lines that are passed: none, one after the other, the one that ended in hand, and the last one.
use Rattle.std.proofs.Common.{◌≡◌, ℕ, ◌+◌, ◌<◌, ◌≤◌, Bool, true, false, if◌then◌else◌, leb, eqb}
use Rattle.std.proofs.Common.{List, [], ◌∷◌, ◌++◌, length, take, drop, Option, Some, None, Result}
use Rattle.std.proofs.Common.{Ok, Err, refl, ap, sym, ◌∙◌, subst, arith, append_assoc, append-nil}
use Rattle.std.specs.Prelude.{option_map}
use Rattle.std.specs.Io.KnownBytes.{IsAtEnd}
use Rattle.std.proofs.lemmas.List.{take_all, drop_all}
use Rattle.std.proofs.lemmas.Bool.{leb-false, false≢true}
use Rattle.std.proofs.lemmas.List.Elements.{All-append, All-cons, All-nil}
use Rattle.std.proofs.lemmas.Bool.Decides.{nat_tests}
use Rattle.port_core.specs.declared.line.Line.{Line}
use Rattle.port_core.specs.declared.line.Line.TheVariants.{Text, End}
use Rattle.port_core.specs.declared.line.ReadStop.{ReadStop}
use Rattle.port_core.specs.declared.line.ReadStop.TheVariants.{InputTooLong}
use Rattle.port_core.specs.Lines.{lines_of, text_of_line, HasNoLineFeed, IsEndedLine}
use Rattle.port_core.specs.inside.Buffers.{EndsAt, IsPartial}
use Rattle.port_core.specs.Contents.{Position, position_after, number_at, content_at, is_skipped}
use Rattle.port_core.specs.Contents.{line_stop, Contents, with_line, with_lines, contents_from}
use Rattle.port_core.specs.Readers.{LineReaderView, stream_of}
use Rattle.port_core.specs.inside.ReaderCalls.{Passes, PassesKnown, PassesTo, given_there}
use Rattle.port_core.specs.inside.ReaderCalls.{GivesLine, Stops, EndsLine, EndsInput}
use Rattle.port_core.proofs.LineLemmas.{lines_of-open, text_of_line-ended, text_of_line-open}
use Rattle.port_core.proofs.FirstLineLemmas.{first_line-ended}
use Rattle.port_core.proofs.StopLemmas.{length-ended, stop-none, stop-inside}
use Rattle.port_core.proofs.ContentLemmas.{contents-line}
use Rattle.league_core.proofs.plain.Options.{match_bool}

-- ---- none, and some after others

-- no line is passed if nothing changes
pub passes-none : (position : Position) (before after : Option (List ℕ)) (ended ended' : Bool)
    → before ≡ after → (ended' ≡ false → ended ≡ false)
    → PassesKnown position before ended position after ended' []
passes-none position before None ended ended' same told =
    let P : Option (List ℕ) → Type 0 =
    λ known. PassesKnown position known ended position None ended' [] in
    subst P (sym same) tt
passes-none position before (Some bytes) ended ended' same told =
    let P : Option (List ℕ) → Type 0 =
    λ known. PassesKnown position known ended position (Some bytes) ended' [] in
    subst P (sym same) (record {
      lines = [];
      split = refl;
      gives = λ more. refl;
      whole = λ unsaid. All-nil IsEndedLine;
      told = told;
    })

-- lines passed in turn are lines passed
passes-joined : (a b c : Position) (first second third : List ℕ) (x y z : Bool)
    (given more : List (ℕ × List ℕ))
    → Passes a first x b second y given → Passes b second y c third z more
    → Passes a first x c third z (given ++ more)
passes-joined a b c first second third x y z given more one two = record {
  lines = one.lines ++ two.lines;
  split = one.split ∙ ap (λ ls. one.lines ++ ls) two.split
      ∙ sym (append_assoc one.lines two.lines (lines_of third));
  gives = λ ls.
      let rest = contents_from c ls in
      ap (contents_from a) (append_assoc one.lines two.lines ls)
      ∙ one.gives (two.lines ++ ls) ∙ ap (with_lines given) (two.gives ls)
      ∙ ap (λ (l : List (ℕ × List ℕ)). record { lines = l; ending = rest.ending })
      (sym (append_assoc given more rest.lines));
  whole = λ unsaid. All-append IsEndedLine one.lines two.lines (one.whole (two.told unsaid))
      (two.whole unsaid);
  told = λ unsaid. one.told (two.told unsaid);
}

pub passes-more : (a b c : Position) (first second third : Option (List ℕ)) (x y z : Bool)
    (given more : List (ℕ × List ℕ))
    → PassesKnown a first x b second y given → PassesKnown b second y c third z more
    → PassesKnown a first x c third z (given ++ more)
passes-more a b c None None None x y z given more one two = tt
passes-more a b c None None (Some third) x y z given more one two = absurd two
passes-more a b c None (Some second) third x y z given more one two = absurd one
passes-more a b c (Some first) None third x y z given more one two = absurd one
passes-more a b c (Some first) (Some second) None x y z given more one two = absurd two
passes-more a b c (Some first) (Some second) (Some third) x y z given more one two =
    passes-joined a b c first second third x y z given more one two

-- ---- one line

-- what a line gives is what its answer gives
given-line : (skipped : Bool) (number : ℕ) (content text old : List ℕ) (line : Option Line)
    (result : Option (Result Line ReadStop))
    → line ≡ (if skipped then None else Some (Text number))
    → text ≡ (if skipped then old else content) → result ≡ option_map Ok line → (rest : Contents)
    → (if skipped then rest else with_line number content rest)
    ≡ with_lines (given_there result text) rest
given-line true number content text old line result line-is text-is result-is rest =
    ap (λ (r : Option (Result Line ReadStop)). with_lines (given_there r text) rest)
    (sym (result-is ∙ ap (option_map Ok) line-is))
given-line false number content text old line result line-is text-is result-is rest =
    ap (λ (t : List ℕ). with_line number t rest) (sym text-is)
    ∙ ap (λ (r : Option (Result Line ReadStop)). with_lines (given_there r text) rest)
    (sym (result-is ∙ ap (option_map Ok) line-is))

-- the line that is due is passed
one-passes : (old new : LineReaderView) (before after line : List ℕ) (ended ended' : Bool)
    (end behind : ℕ)
    (result : Option (Result Line ReadStop)) → GivesLine old new end behind result
    → lines_of before ≡ line ∷ lines_of after → text_of_line line ≡ take end old.held
    → length line ≡ behind → line_stop old.position line ≡ None
    → (ended' ≡ false → IsEndedLine line × (ended ≡ false))
    → Passes old.position before ended new.position after ended' (given_there result new.text)
one-passes old new before after line ended ended' end behind result given first text-is size-is none
    whole =
    let text = take end old.held in
    let content = content_at old.position text in
    let P : Position → Type 0 =
    λ p. Passes old.position before ended p after ended' (given_there result new.text) in
    subst P (sym (ap (λ r. r.position) given.2.1)) (record {
      lines = line ∷ [];
      split = first;
      gives = λ more.
          contents-line old.position (line ∷ more) more line text behind refl text-is size-is none
          ∙ given-line (is_skipped content) (number_at old.position) content new.text old.text
          given.0 result given.2.0 (ap (λ r. r.text) given.2.1) given.1
          (contents_from (position_after old.position behind) more);
      whole = λ unsaid. All-cons IsEndedLine line [] (whole unsaid).0 (All-nil IsEndedLine);
      told = λ unsaid. (whole unsaid).1;
    })

-- the same of bytes in hand and those left, if the source shows them
passes-given : (old new : LineReaderView) (left : Option (List ℕ)) (line : List ℕ)
    (ended ended' : Bool)
    (end behind : ℕ) (result : Option (Result Line ReadStop)) → GivesLine old new end behind result
    → ((rest : List ℕ) → left ≡ Some rest
    → lines_of (old.held ++ rest) ≡ line ∷ lines_of (drop behind old.held ++ rest))
    → text_of_line line ≡ take end old.held → length line ≡ behind
    → line_stop old.position line ≡ None
    → (ended' ≡ false → IsEndedLine line × (ended ≡ false))
    → PassesTo old new left left ended ended' (given_there result new.text)
passes-given old new None line ended ended' end behind result given first text-is size-is none whole
    =
    tt
passes-given old new (Some rest) line ended ended' end behind result given first text-is size-is
    none
    whole =
    one-passes old new (old.held ++ rest) (new.held ++ rest) line ended ended' end behind result
    given
    (first rest refl
    ∙ ap (λ h. line ∷ lines_of (h ++ rest)) (sym (ap (λ r. r.held) given.2.1)))
    text-is size-is none whole

-- nothing is passed if the answer is a stop, or the end
pub passes-stays : (old new : LineReaderView) (left : Option (List ℕ)) (ended ended' : Bool)
    (result : Option (Result Line ReadStop)) (answer : Result Line ReadStop)
    → given_there (Some answer) new.text ≡ [] → (result ≡ Some answer) × (new ≡ old)
    → (ended' ≡ false → ended ≡ false)
    → PassesTo old new left left ended ended' (given_there result new.text)
passes-stays old new left ended ended' result answer nothing is told =
    let P : LineReaderView → Type 0 = λ r. PassesTo old r left left ended ended' [] in
    let Q : List (ℕ × List ℕ) → Type 0 =
    λ given. PassesTo old new left left ended ended' given in
    subst Q
    (sym (ap (λ (r : Option (Result Line ReadStop)). given_there r new.text) is.0 ∙ nothing))
    (subst P (sym is.1)
    (passes-none old.position (stream_of old left) (stream_of old left) ended ended' refl told))

-- a line ended in hand
pub Ended-passes : (mid new : LineReaderView) (left : Option (List ℕ)) (ended ended' : Bool)
    (at : ℕ)
    (result : Option (Result Line ReadStop))
    → EndsAt mid.held at × (at < length mid.held) × (at ≤ 1024) → EndsLine mid new at result
    → (ended' ≡ false → ended ≡ false)
    → PassesTo mid new left left ended ended' (given_there result new.text)
Ended-passes mid new left ended ended' at result ends answer told =
    match_bool (leb 67108864 (mid.position.bytes + at))
    (Stops mid new (InputTooLong (number_at mid.position)) result)
    (GivesLine mid new at (at + 1) result)
    (PassesTo mid new left left ended ended' (given_there result new.text)) answer
    (λ past stopped. passes-stays mid new left ended ended' result
    (Err (InputTooLong (number_at mid.position))) refl stopped told)
    (λ inside given. passes-given mid new left (take at mid.held ++ 10 ∷ []) ended ended' at (at +
    1)
    result given
    (λ rest told. (first_line-ended mid.held rest at ends.0).lines)
    (text_of_line-ended (take at mid.held) ends.0.0) (length-ended mid.held at ends.1)
    (stop-inside mid.position mid.held at ends.0 ends.1 ends.2
    (leb-false 67108864 (mid.position.bytes + at) inside))
    (λ unsaid. ((take at mid.held, ends.0.0, refl), told unsaid)))

-- what is in hand at the end of the input is its last line
last-first : (held : List ℕ) (left : Option (List ℕ)) → IsAtEnd left → HasNoLineFeed held
    → 0 < length held → (rest : List ℕ) → left ≡ Some rest
    → lines_of (held ++ rest) ≡ held ∷ lines_of (drop (length held) held ++ rest)
last-first held left end none some rest told =
    let nothing : rest ≡ [] = subst IsAtEnd told end in
    let whole : held ++ rest ≡ held = ap (λ l. held ++ l) nothing ∙ append-nil held in
    let gone : drop (length held) held ++ rest ≡ [] =
    ap (λ l. drop (length held) held ++ l) nothing
    ∙ append-nil (drop (length held) held) ∙ drop_all (length held) held (omega arith) in
    ap lines_of whole ∙ lines_of-open held none some ∙ ap (λ l. held ∷ lines_of l) (sym gone)

-- the input ended after the bytes in hand, and the end was seen
pub Open-passes : (mid new : LineReaderView) (left : Option (List ℕ)) (ended ended' : Bool)
    (result : Option (Result Line ReadStop)) → IsPartial mid.held → IsAtEnd left
    → mid.position.bytes + length mid.held ≤ 67108864 → EndsInput mid new result → ended' ≡ true
    → PassesTo mid new left left ended ended' (given_there result new.text)
Open-passes mid new left ended ended' result partial end inside answer told =
    let size = length mid.held in
    match_bool (eqb size 0)
    ((result ≡ Some (Ok (End (number_at mid.position)))) × (new ≡ mid))
    (GivesLine mid new size size result)
    (PassesTo mid new left left ended ended' (given_there result new.text)) answer
    (λ none ended_there.
    passes-stays mid new left ended ended' result (Ok (End (number_at mid.position))) refl
    ended_there (λ unsaid. absurd (false≢true (sym unsaid ∙ told))))
    (λ some given. passes-given mid new left mid.held ended ended' size size result given
    (last-first mid.held left end partial.0 (grind (arith, nat_tests)))
    (text_of_line-open mid.held partial.0 ∙ sym (take_all size mid.held (omega arith))) refl
    (stop-none mid.position mid.held
    (omega (arith, ap length (text_of_line-open mid.held partial.0), partial.1)) inside)
    (λ unsaid. absurd (false≢true (sym unsaid ∙ told))))

-- the same from the bytes in hand before the wait for them
pub passes-before : (entry mid new : LineReaderView) (left left' : Option (List ℕ))
    (ended ended' : Bool)
    (given : List (ℕ × List ℕ)) → mid.position ≡ entry.position
    → stream_of entry left ≡ stream_of mid left' → PassesTo mid new left' left' ended ended' given
    → PassesTo entry new left left' ended ended' given
passes-before entry mid new left left' ended ended' given position same passes =
    let P : Position → Type 0 =
    λ p. PassesKnown p (stream_of mid left') ended new.position (stream_of new left') ended' given
    in
    let Q : Option (List ℕ) → Type 0 =
    λ known. PassesKnown entry.position known ended new.position (stream_of new left') ended' given
    in
    subst Q (sym same) (subst P position passes)
