-- The answer at the bytes in hand: what it gives of the contents to come, and where it leaves the
-- reader.
use Rattle.std.proofs.Common.{◌≡◌, ℕ, ◌+◌, ◌<◌, ◌≤◌, Bool, true, false, if◌then◌else◌, eqb, leb}
use Rattle.std.proofs.Common.{eqb-true, List, ◌++◌, length, take, drop, Option, Some, None, Result}
use Rattle.std.proofs.Common.{Ok, Err, refl, ap, sym, ◌∙◌, subst, arith}
use Rattle.std.specs.Prelude.{option_map, IfSome}
use Rattle.std.specs.Io.KnownBytes.{prepend_known, IsAtEnd}
use Rattle.std.proofs.lemmas.List.{length-take}
use Rattle.std.proofs.lemmas.Bool.{leb-true, leb-false}
use Rattle.std.proofs.lemmas.Bool.Decides.{nat_tests}
use Rattle.port_core.specs.declared.line.Line.{Line}
use Rattle.port_core.specs.declared.line.Line.TheVariants.{Text, End}
use Rattle.port_core.specs.declared.line.ReadStop.{ReadStop}
use Rattle.port_core.specs.declared.line.ReadStop.TheVariants.{ReadFault, LineTooLong, InputTooLong}
use Rattle.port_core.specs.Lines.{lines_of}
use Rattle.port_core.specs.inside.Buffers.{EndsAt, IsPartial}
use Rattle.port_core.specs.Contents.{position_after, number_at, content_at, is_skipped, stop_due}
use Rattle.port_core.specs.Contents.{Contents, ended, with_line, with_content}
use Rattle.port_core.specs.Readers.{LineReaderView, contents_after, contents_to_come}
use Rattle.port_core.specs.inside.ReaderCalls.{HasStop, NextGives, LineGives, LeavesAfter}
use Rattle.port_core.specs.inside.ReaderCalls.{GivesLine, EndsLine, EndsInput}
use Rattle.port_core.proofs.StopLemmas.{contents-stopped, stop-held, stop-ended}
use Rattle.port_core.proofs.ContentLemmas.{contents-ended, contents-last, contents-end}
use Rattle.port_core.proofs.ContentLemmas.{length-content}
use Rattle.league_core.proofs.plain.Parts.{length-zero}
use Rattle.league_core.proofs.plain.Options.{match_bool}

option_map-same : (known : Option Contents) → option_map (λ contents. contents) known ≡ known
option_map-same None = refl
option_map-same (Some contents) = refl

gives-by : (skipped : Bool) (before after : Option Contents) (number : ℕ)
    (content text old : List ℕ) (line : Option Line) (result : Option (Result Line ReadStop))
    → before ≡ option_map (λ rest. if skipped then rest else with_line number content rest) after
    → line ≡ (if skipped then None else Some (Text number))
    → text ≡ (if skipped then old else content) → result ≡ option_map Ok line
    → LineGives before after text result
gives-by true before after number content text old line result is line-is text-is result-is =
    subst (LineGives before after text) (sym (result-is ∙ ap (option_map Ok) line-is))
    (is ∙ option_map-same after)
gives-by false before after number content text old line result is line-is text-is result-is =
    subst (LineGives before after text) (sym (result-is ∙ ap (option_map Ok) line-is))
    (is ∙ ap (λ t. option_map (with_line number t) after) (sym text-is))

GivesLine-gives : (old new : LineReaderView) (left : Option (List ℕ)) (end behind : ℕ)
    (result : Option (Result Line ReadStop)) (before : Option Contents)
    → GivesLine old new end behind result
    → before ≡ option_map (with_content (number_at old.position)
    (content_at old.position (take end old.held)))
    (contents_after (position_after old.position behind) (prepend_known (drop behind old.held)
    left))
    → LineGives before (contents_to_come new left) new.text result
GivesLine-gives old new left end behind result before given is =
    let content = content_at old.position (take end old.held) in
    let after = ap (λ r. contents_to_come r left) given.2.1 in
    gives-by (is_skipped content) before (contents_to_come new left) (number_at old.position)
    content
    new.text old.text given.0 result
    (is ∙ ap (option_map (with_content (number_at old.position) content)) (sym after))
    given.2.0 (ap (λ r. r.text) given.2.1) given.1

leaves-by : (skipped : Bool) (old new : LineReaderView) (left : Option (List ℕ)) (number : ℕ)
    (content : List ℕ) (line : Option Line) (result : Option (Result Line ReadStop))
    → is_skipped content ≡ skipped → line ≡ (if skipped then None else Some (Text number))
    → new.text ≡ (if skipped then old.text else content) → result ≡ option_map Ok line
    → old.position.bytes < new.position.bytes → number ≡ new.position.lines → length content ≤ 1024
    → LeavesAfter old new left result
leaves-by true old new left number content line result is line-is text-is result-is more same short
    =
    subst (LeavesAfter old new left) (sym (result-is ∙ ap (option_map Ok) line-is)) more
leaves-by false old new left number content line result is line-is text-is result-is more same short
    =
    subst (LeavesAfter old new left) (sym (result-is ∙ ap (option_map Ok) line-is)) (
      same,
      ap is_skipped text-is ∙ is,
      omega (arith, short, ap length text-is),
    )

GivesLine-leaves : (old new : LineReaderView) (left : Option (List ℕ)) (end behind : ℕ)
    (result : Option (Result Line ReadStop)) → GivesLine old new end behind result
    → end ≤ 1024 → 0 < behind → LeavesAfter old new left result
GivesLine-leaves old new left end behind result given short some =
    let text = take end old.held in
    leaves-by (is_skipped (content_at old.position text)) old new left (number_at old.position)
    (content_at old.position text) given.0 result refl given.2.0 (ap (λ r. r.text) given.2.1)
    given.1
    (omega (arith, ap (λ r. r.position.bytes) given.2.1))
    (sym (ap (λ r. r.position.lines) given.2.1))
    (omega (arith, length-content old.position text, length-take end old.held))

gives-stop : (stop : ReadStop) (before after : Option Contents) (text : List ℕ)
    → IfSome before (λ contents. contents ≡ ended (Err stop)) → before ≡ after
    → NextGives before after text (Err stop)
gives-stop ReadFault before after text ends same = same
gives-stop (LineTooLong number) before after text ends same = (ends, same)
gives-stop (InputTooLong number) before after text ends same = (ends, same)

-- the reader with these bytes in hand returns the stop that they show, and stays
pub stop-gives : (before : Option Contents) (known left : Option (List ℕ))
    (mid new : LineReaderView) (stop : ReadStop) (result : Option (Result Line ReadStop))
    → before ≡ contents_after mid.position known → known ≡ prepend_known mid.held left
    → ((rest : List ℕ) → stop_due mid.position (lines_of (mid.held ++ rest)) ≡ Some stop)
    → (result ≡ Some (Err stop)) × (new ≡ mid)
    → LineGives before (contents_to_come new left) new.text result
stop-gives before known left mid new stop result is stream stops answer =
    let same : before ≡ contents_to_come new left = is ∙ ap (contents_after mid.position) stream
    ∙ ap (λ r. contents_to_come r left) (sym answer.1) in
    let P : Option Contents → Type 0 = λ b. IfSome b (λ contents. contents ≡ ended (Err stop)) in
    let ends = subst P (sym is) (contents-stopped mid.position mid.held known left stop stream
    stops) in
    subst (LineGives before (contents_to_come new left) new.text) (sym answer.0)
    (gives-stop stop before (contents_to_come new left) new.text ends same)

-- a line ended in hand
pub Ended-gives : (before : Option Contents) (known left : Option (List ℕ))
    (mid new : LineReaderView) (at : ℕ) (result : Option (Result Line ReadStop))
    → before ≡ contents_after mid.position known → known ≡ prepend_known mid.held left
    → EndsAt mid.held at × (at < length mid.held) × (at ≤ 1024) → EndsLine mid new at result
    → LineGives before (contents_to_come new left) new.text result
Ended-gives before known left mid new at result is stream ends answer =
    match_bool (leb 67108864 (mid.position.bytes + at))
    ((result ≡ Some (Err (InputTooLong (number_at mid.position)))) × (new ≡ mid))
    (GivesLine mid new at (at + 1) result)
    (LineGives before (contents_to_come new left) new.text result) answer
    (λ past stopped. stop-gives before known left mid new (InputTooLong (number_at mid.position))
    result
    is stream (λ rest. stop-ended mid.position mid.held rest at ends.0 ends.1 ends.2
    (leb-true 67108864 (mid.position.bytes + at) past)) stopped)
    (λ inside given. GivesLine-gives mid new left at (at + 1) result before given
    (is ∙ contents-ended mid.position mid.held known left at stream ends.0 ends.1 ends.2
    (leb-false 67108864 (mid.position.bytes + at) inside)))

pub Ended-leaves : (mid new : LineReaderView) (left : Option (List ℕ)) (at : ℕ)
    (result : Option (Result Line ReadStop))
    → EndsAt mid.held at × (at < length mid.held) × (at ≤ 1024) → EndsLine mid new at result
    → LeavesAfter mid new left result
Ended-leaves mid new left at result ends answer =
    match_bool (leb 67108864 (mid.position.bytes + at))
    ((result ≡ Some (Err (InputTooLong (number_at mid.position)))) × (new ≡ mid))
    (GivesLine mid new at (at + 1) result) (LeavesAfter mid new left result) answer
    (λ past stopped. subst (LeavesAfter mid new left) (sym stopped.0)
    (subst (λ r. HasStop r (InputTooLong (number_at mid.position))) (sym stopped.1)
    (stop-held mid.position mid.held (InputTooLong (number_at mid.position))
    (λ rest. stop-ended mid.position mid.held rest at ends.0 ends.1 ends.2
    (leb-true 67108864 (mid.position.bytes + at) past)))))
    (λ inside given. GivesLine-leaves mid new left at (at + 1) result given ends.2 (omega arith))

pub Open-gives : (before : Option Contents) (known left : Option (List ℕ))
    (mid new : LineReaderView) (result : Option (Result Line ReadStop))
    → before ≡ contents_after mid.position known → known ≡ prepend_known mid.held left
    → IsPartial mid.held → IsAtEnd left → mid.position.bytes + length mid.held ≤ 67108864
    → EndsInput mid new result → LineGives before (contents_to_come new left) new.text result
Open-gives before known left mid new result is stream partial end inside answer =
    match_bool (eqb (length mid.held) 0)
    ((result ≡ Some (Ok (End (number_at mid.position)))) × (new ≡ mid))
    (GivesLine mid new (length mid.held) (length mid.held) result)
    (LineGives before (contents_to_come new left) new.text result) answer
    (λ none ended_there.
    let same : before ≡ contents_to_come new left = is ∙ ap (contents_after mid.position) stream
    ∙ ap (λ r. contents_to_come r left) (sym ended_there.1) in
    let P : Option Contents → Type 0 =
    λ b. IfSome b (λ contents. contents ≡ ended (Ok (number_at mid.position))) in
    subst (LineGives before (contents_to_come new left) new.text) (sym ended_there.0) (
      subst P (sym is) (contents-end mid.position mid.held known left stream end
          (length-zero mid.held (eqb-true (length mid.held) 0 none))),
      same,
    ))
    (λ some given. GivesLine-gives mid new left (length mid.held) (length mid.held) result before
    given (is ∙ contents-last mid.position mid.held known left stream end partial.0
    (grind (arith, nat_tests)) partial.1 inside))

pub Open-leaves : (mid new : LineReaderView) (left : Option (List ℕ))
    (result : Option (Result Line ReadStop)) → IsPartial mid.held → IsAtEnd left
    → EndsInput mid new result → LeavesAfter mid new left result
Open-leaves mid new left result partial end answer =
    match_bool (eqb (length mid.held) 0)
    ((result ≡ Some (Ok (End (number_at mid.position)))) × (new ≡ mid))
    (GivesLine mid new (length mid.held) (length mid.held) result)
    (LeavesAfter mid new left result) answer
    (λ none ended_there. subst (LeavesAfter mid new left) (sym ended_there.0) (
      ap (λ r. number_at r.position) (sym ended_there.1),
      ap (λ r. r.held) ended_there.1
          ∙ length-zero mid.held (eqb-true (length mid.held) 0 none),
      end,
    ))
    (λ some given. GivesLine-leaves mid new left (length mid.held) (length mid.held) result given
    partial.1 (grind (arith, nat_tests)))
