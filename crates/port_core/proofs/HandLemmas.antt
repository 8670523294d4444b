-- An answer or a stop that is in hand: nothing is read, it stays in hand, and the stop is returned.
use Rattle.std.proofs.Common.{◌≡◌, ◌≢◌, ℕ, ◌+◌, ◌<◌, ◌≤◌, Bool, true, false, if◌then◌else◌, nat_eq}
use Rattle.std.proofs.Common.{leb, eqb-true, List, [], ◌∷◌, ◌++◌, length, take, drop, Option, Some}
use Rattle.std.proofs.Common.{None, is_some, Result, Ok, Err, refl, ap, sym, ◌∙◌, subst, inl, inr}
use Rattle.std.proofs.Common.{arith, append-nil, not, ◌&&◌, ◌||◌}
use Rattle.std.specs.Prelude.{◌⊎◌, option_map, Contains}
use Rattle.std.specs.List.{concat}
use Rattle.std.proofs.lemmas.List.Elements.{All-contains, Contains-append_left}
use Rattle.std.proofs.lemmas.Map.Views.{Contains-from_any}
use Rattle.std.proofs.lemmas.Bool.{cases_Bool, false≢true, leb-true, leb-false}
use Rattle.std.proofs.lemmas.Option.{none-some}
use Rattle.port_core.specs.declared.line.Line.{Line}
use Rattle.port_core.specs.declared.line.Line.TheVariants.{Text}
use Rattle.port_core.specs.declared.line.ReadStop.{ReadStop}
use Rattle.port_core.specs.declared.line.ReadStop.TheVariants.{InputTooLong}
use Rattle.port_core.specs.Lines.{lines_of, text_of_line}
use Rattle.port_core.specs.inside.Buffers.{EndsAt, IsPartial, IsReady}
use Rattle.port_core.specs.Contents.{Position, position_after, number_at, content_at, is_skipped}
use Rattle.port_core.specs.Contents.{line_stop, stop_due, is_whole, has_answer}
use Rattle.port_core.specs.Readers.{LineReaderView, HasAnswer}
use Rattle.port_core.specs.inside.ReaderCalls.{HasStop, AnswersStop, KeepsAnswer, GivesLine}
use Rattle.port_core.specs.inside.ReaderCalls.{EndsLine}
use Rattle.port_core.proofs.LineLemmas.{concat-lines_of, text_of_line-ended}
use Rattle.port_core.proofs.FirstLineLemmas.{first_line-ended}
use Rattle.port_core.proofs.StopLemmas.{stop-ready, stop-inside, stop-held, stop-ended}
use Rattle.port_core.proofs.StopLemmas.{length-ended}
use Rattle.league_core.proofs.plain.Options.{match_bool}

stop-from : (found : Option ReadStop) (whole more : Bool) → whole ≡ false
    → (is_some found || whole && more) ≡ true → (stop : ReadStop) × (found ≡ Some stop)
stop-from None whole more cut has = absurd cc
stop-from (Some stop) whole more cut has = (stop, refl)

-- if an answer is in hand, a whole line is, or more bytes than a line may have, or the input's
-- first one too many
ready-line : (position : Position) (held : List ℕ) (lines : List (List ℕ)) → lines_of held ≡ lines
    → has_answer position lines ≡ true
    → IsReady held ⊎ (67108865 ≤ position.bytes + length held)
ready-line position held [] is has = absurd (false≢true has)
ready-line position held (line ∷ lines) is has =
    let split : line ++ concat lines ≡ held = sym (ap concat is) ∙ concat-lines_of held in
    elim (cases_Bool (is_whole line)) [
      | inl whole ↦ inl (inl (subst (λ (l : List ℕ). Contains l 10) split
          (Contains-append_left line (concat lines) 10
          (Contains-from_any {eq = nat_eq} eqb-true 10 line whole))))
      | inr cut ↦
          let stop = stop-from (line_stop position line) (is_whole line) _ cut has in
          elim (stop-ready position held stop.0 (ap (stop_due position) is ∙ stop.1)) [
            | inl long ↦ inl (inr long)
            | inr past ↦ inr past
          ]
    ]

-- nothing is read while an answer is in hand
pub ready-same : (position : Position) (held : List ℕ) (most : ℕ) (P : Type 0)
    → has_answer position (lines_of held) ≡ true → position.bytes + most ≡ 67108865
    → (IsReady held → P) → (most ≤ length held → P) → P
ready-same position held most P has room ready full =
    elim (ready-line position held (lines_of held) refl has) [
      | inl enough ↦ ready enough
      | inr past ↦ full (omega arith)
    ]

-- the bytes in hand show a stop or none, and a stop is returned
pub AnswersStop-by : (entry mid new : LineReaderView) (result : Option (Result Line ReadStop))
    (found : Option ReadStop) → ((stop : ReadStop) → HasStop entry stop → mid ≡ entry)
    → stop_due mid.position (lines_of mid.held) ≡ found
    → ((stop : ReadStop) → found ≡ Some stop → (result ≡ Some (Err stop)) × (new ≡ mid))
    → AnswersStop entry new result
AnswersStop-by entry mid new result found stays is answers = λ stop has.
    let same = stays stop has in
    let here : HasStop mid stop = subst (λ (r : LineReaderView). HasStop r stop) (sym same) has in
    let answer = answers stop (sym is ∙ here) in (answer.0, answer.1 ∙ same)

-- nothing is read while an answer is in hand
pub answer-same : (held held' text : List ℕ) (position : Position) (entry : LineReaderView)
    (most : ℕ)
    (P : Type 0) → record { held = held; text = text; position = position } ≡ entry
    → position.bytes + most ≡ 67108865 → (IsReady held → P × (held' ≡ held))
    → (most ≤ length held → P × (held' ≡ held)) → HasAnswer entry
    → P × (record { held = held'; text = text; position = position } ≡ entry)
answer-same held held' text position entry most P is room ready full has =
    let here : has_answer position (lines_of held) ≡ true = subst HasAnswer (sym is) has in
    let same = ready-same position held most (P × (held' ≡ held)) here room ready full in (
      same.0,
      ap (λ h. record { held = h; text = text; position = position }) same.1 ∙ is,
    )

-- no answer is in hand if no whole line is, and neither limit is passed
pub no_answer-open : (reading : LineReaderView) → IsPartial reading.held
    → reading.position.bytes + length reading.held ≤ 67108864 → HasAnswer reading → ⊥
no_answer-open reading partial inside has =
    elim (ready-line reading.position reading.held (lines_of reading.held) refl has) [
      | inl enough ↦ elim enough [
        | inl found ↦ All-contains (λ b. b ≢ 10) reading.held 10 partial.0 found refl
        | inr long ↦ omega (arith, long, partial.1)
      ]
      | inr past ↦ omega (arith, past)
    ]

KeepsAnswer-by : (entry new : LineReaderView) (result : Option (Result Line ReadStop))
    → (result ≡ None → HasAnswer entry → HasAnswer new) → KeepsAnswer entry new result
KeepsAnswer-by entry new None keeps = keeps refl
KeepsAnswer-by entry new (Some result) keeps = tt

-- there is none to keep
pub KeepsAnswer-none : (entry new : LineReaderView) (result : Option (Result Line ReadStop))
    → (HasAnswer entry → ⊥) → KeepsAnswer entry new result
KeepsAnswer-none entry new result none =
    KeepsAnswer-by entry new result (λ is has. absurd (none has))

skipped-from : (skipped : Bool) (number : ℕ) (line : Option Line)
    (result : Option (Result Line ReadStop))
    → line ≡ (if skipped then None else Some (Text number)) → result ≡ option_map Ok line
    → result ≡ None → skipped ≡ true
skipped-from true number line result line-is is none = refl
skipped-from false number line result line-is is none =
    absurd (none-some (Ok (Text number)) (sym none ∙ is ∙ ap (option_map Ok) line-is))

behind-none : (found : Option ReadStop) (whole skipped : Bool) → found ≡ None
    → skipped ≡ true → (is_some found || whole && (not skipped || false)) ≡ false
behind-none None true true none is = refl
behind-none None false skipped none is = refl
behind-none None true false none is = absurd (false≢true is)
behind-none (Some stop) whole skipped none is = absurd (none-some stop (sym none))

behind-skipped : (found : Option ReadStop) (whole skipped more : Bool) → found ≡ None
    → skipped ≡ true → (is_some found || whole && (not skipped || more)) ≡ true → more ≡ true
behind-skipped found whole skipped false none is has =
    absurd (false≢true (sym (behind-none found whole skipped none is) ∙ has))
behind-skipped found whole skipped true none is has = refl

-- an answer in hand that is not the line passed over comes after it
pub Ended-keeps : (entry mid new : LineReaderView) (at : ℕ)
    (result : Option (Result Line ReadStop))
    → EndsAt mid.held at × (at < length mid.held) × (at ≤ 1024) → EndsLine mid new at result
    → (HasAnswer entry → mid ≡ entry) → KeepsAnswer entry new result
Ended-keeps entry mid new at result ends answer same =
    match_bool (leb 67108864 (mid.position.bytes + at))
    ((result ≡ Some (Err (InputTooLong (number_at mid.position)))) × (new ≡ mid))
    (GivesLine mid new at (at + 1) result) (KeepsAnswer entry new result) answer
    (λ past stopped. KeepsAnswer-by entry new result
    (λ none has. absurd (none-some (Err (InputTooLong (number_at mid.position))) (sym none ∙
    stopped.0))))
    (λ inside given. KeepsAnswer-by entry new result (λ none has.
    let here : HasAnswer mid = subst HasAnswer (sym (same has)) has in
    let first = first_line-ended mid.held [] at ends.0 in
    let line = take at mid.held ++ 10 ∷ [] in
    let rest = lines_of (drop (at + 1) mid.held) in
    let whole : lines_of mid.held ≡ line ∷ rest =
    ap lines_of (sym (append-nil mid.held)) ∙ first.lines
    ∙ ap (λ l. line ∷ lines_of l) (append-nil (drop (at + 1) mid.held)) in
    let skipped = skipped-from (is_skipped (content_at mid.position (take at mid.held)))
    (number_at mid.position) given.0 result given.2.0 given.1 none in
    let text = text_of_line-ended (take at mid.held) ends.0.0 in
    let behind = behind-skipped (line_stop mid.position line) (is_whole line)
    (is_skipped (content_at mid.position (text_of_line line)))
    (has_answer (position_after mid.position (length line)) rest)
    (stop-inside mid.position mid.held at ends.0 ends.1 ends.2
    (leb-false 67108864 (mid.position.bytes + at) inside))
    (ap (λ t. is_skipped (content_at mid.position t)) text ∙ skipped)
    (ap (has_answer mid.position) (sym whole) ∙ here) in
    let Q : ℕ → Type 0 = λ n. has_answer (position_after mid.position n) rest ≡ true in
    subst HasAnswer (sym given.2.1) (subst Q (length-ended mid.held at ends.1) behind)))

some-same : (first second : ReadStop) → Some first ≡ Some second → first ≡ second
some-same first second same = cc

-- bytes that show a stop: it is the one returned
pub stop-answers : (entry mid new : LineReaderView) (result : Option (Result Line ReadStop))
    (found : ReadStop) → ((stop : ReadStop) → HasStop entry stop → mid ≡ entry)
    → stop_due mid.position (lines_of mid.held) ≡ Some found
    → (result ≡ Some (Err found)) × (new ≡ mid) → AnswersStop entry new result
stop-answers entry mid new result found stays is answer =
    AnswersStop-by entry mid new result (Some found) stays is (λ stop same. (
      answer.0 ∙ ap (λ s. Some (Err s)) (some-same found stop same),
      answer.1,
    ))

-- bytes that show none: none was in hand
pub none-answers : (entry mid new : LineReaderView) (result : Option (Result Line ReadStop))
    → ((stop : ReadStop) → HasStop entry stop → mid ≡ entry)
    → stop_due mid.position (lines_of mid.held) ≡ None → AnswersStop entry new result
none-answers entry mid new result stays is =
    AnswersStop-by entry mid new result None stays is
    (λ stop same. absurd (none-some stop same))

pub Ended-stops : (entry mid new : LineReaderView) (at : ℕ)
    (result : Option (Result Line ReadStop))
    → EndsAt mid.held at × (at < length mid.held) × (at ≤ 1024) → EndsLine mid new at result
    → ((stop : ReadStop) → HasStop entry stop → mid ≡ entry) → AnswersStop entry new result
Ended-stops entry mid new at result ends answer stays =
    match_bool (leb 67108864 (mid.position.bytes + at))
    ((result ≡ Some (Err (InputTooLong (number_at mid.position)))) × (new ≡ mid))
    (GivesLine mid new at (at + 1) result) (AnswersStop entry new result) answer
    (λ past stopped. stop-answers entry mid new result (InputTooLong (number_at mid.position)) stays
    (stop-held mid.position mid.held (InputTooLong (number_at mid.position))
    (λ rest. stop-ended mid.position mid.held rest at ends.0 ends.1 ends.2
    (leb-true 67108864 (mid.position.bytes + at) past))) stopped)
    (λ inside given.
    let first = first_line-ended mid.held [] at ends.0 in
    none-answers entry mid new result stays
    (ap (λ l. stop_due mid.position (lines_of l)) (sym (append-nil mid.held))
    ∙ ap (stop_due mid.position) first.lines
    ∙ stop-inside mid.position mid.held at ends.0 ends.1 ends.2
    (leb-false 67108864 (mid.position.bytes + at) inside)))
