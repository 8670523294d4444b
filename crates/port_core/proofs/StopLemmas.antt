-- Where an input stops: the line that is due, and the bytes in hand that show a stop or none.
use Rattle.std.proofs.Common.{◌≡◌, ℕ, ◌+◌, ◌<◌, ◌≤◌, List, [], ◌∷◌, ◌++◌, length, take, Option}
use Rattle.std.proofs.Common.{Some, None, Err, refl, ap, sym, ◌∙◌, subst, inl, inr, arith}
use Rattle.std.proofs.Common.{append-nil, length-append}
use Rattle.std.specs.Prelude.{◌⊎◌, IfSome}
use Rattle.std.specs.List.{concat}
use Rattle.std.specs.Io.KnownBytes.{prepend_known}
use Rattle.std.proofs.lemmas.List.{length-take-le}
use Rattle.std.proofs.lemmas.Bool.{cases_lt}
use Rattle.std.proofs.lemmas.Option.{none-some}
use Rattle.std.proofs.lemmas.Bool.Decides.{nat_tests}
use Rattle.port_core.specs.declared.line.ReadStop.{ReadStop}
use Rattle.port_core.specs.declared.line.ReadStop.TheVariants.{LineTooLong, InputTooLong}
use Rattle.port_core.specs.Lines.{lines_of, text_of_line}
use Rattle.port_core.specs.inside.Buffers.{EndsAt, IsOverlong, IsPartial}
use Rattle.port_core.specs.Contents.{Position, position_after, number_at, content_at, line_stop}
use Rattle.port_core.specs.Contents.{stop_due, ended, with_content, contents_by, contents_from}
use Rattle.port_core.specs.Readers.{contents_after}
use Rattle.port_core.proofs.LineLemmas.{concat-lines_of, lines_of-front, text_of_line-ended}
use Rattle.port_core.proofs.FirstLineLemmas.{first_line-ended, length-text_of_line}
use Rattle.port_core.proofs.FirstLineLemmas.{HasLongLine-overlong}

pub stop-none : (position : Position) (line : List ℕ) → length (text_of_line line) ≤ 1024
    → position.bytes + length line ≤ 67108864 → line_stop position line ≡ None
stop-none position line short inside = grind (arith, nat_tests)

pub stop-long : (position : Position) (line : List ℕ) → 1024 < length (text_of_line line)
    → position.bytes + 1024 ≤ 67108864 → line_stop position line ≡ Some (LineTooLong (position.lines
    + 1))
stop-long position line long first = grind (arith, nat_tests)

pub stop-past : (position : Position) (line : List ℕ) → 67108864 < position.bytes + length line
    → (length (text_of_line line) ≤ 1024) ⊎ (67108864 < position.bytes + 1024)
    → line_stop position line ≡ Some (InputTooLong (position.lines + 1))
stop-past position line past first = elim first [
  | inl short ↦ grind (arith, nat_tests)
  | inr late ↦ grind (arith, nat_tests)
]

-- if the input stops at the line that is due, it gives nothing more
contents-stop : (position : Position) (lines : List (List ℕ)) (stop : ReadStop)
    → stop_due position lines ≡ Some stop → contents_from position lines ≡ ended (Err stop)
contents-stop position [] stop is = cc
contents-stop position (line ∷ lines) stop is =
    ap (λ found. contents_by found (with_content (number_at position)
    (content_at position (text_of_line line))
    (contents_from (position_after position (length line)) lines))) is

-- the same of bytes in hand and those left, if the source shows them
pub contents-stopped : (position : Position) (held : List ℕ) (known left : Option (List ℕ))
    (stop : ReadStop) → known ≡ prepend_known held left
    → ((rest : List ℕ) → stop_due position (lines_of (held ++ rest)) ≡ Some stop)
    → IfSome (contents_after position known) (λ contents. contents ≡ ended (Err stop))
contents-stopped position held known None stop is stops =
    let P : Option (List ℕ) → Type 0 =
    λ k. IfSome (contents_after position k) (λ contents. contents ≡ ended (Err stop)) in
    subst P (sym is) tt
contents-stopped position held known (Some left) stop is stops =
    let P : Option (List ℕ) → Type 0 =
    λ k. IfSome (contents_after position k) (λ contents. contents ≡ ended (Err stop)) in
    subst P (sym is) (contents-stop position (lines_of (held ++ left)) stop (stops left))

-- the bytes in hand alone show a stop that is there whatever follows
pub stop-held : (position : Position) (held : List ℕ) (stop : ReadStop)
    → ((rest : List ℕ) → stop_due position (lines_of (held ++ rest)) ≡ Some stop)
    → stop_due position (lines_of held) ≡ Some stop
stop-held position held stop stops =
    let P : List ℕ → Type 0 = λ l. stop_due position (lines_of l) ≡ Some stop in
    subst P (append-nil held) (stops [])

-- more bytes than a line may have are in hand
pub stop-overlong : (position : Position) (held rest : List ℕ) → IsOverlong held
    → position.bytes + length held ≤ 67108865
    → stop_due position (lines_of (held ++ rest)) ≡ Some (LineTooLong (position.lines + 1))
stop-overlong position held rest over room =
    let long = HasLongLine-overlong held rest over in
    ap (stop_due position) long.2 ∙ stop-long position long.0 long.3 (omega (arith, over.0))

pub length-ended : (held : List ℕ) (at : ℕ) → at < length held
    → length (take at held ++ 10 ∷ []) ≡ at + 1
length-ended held at within =
    omega (arith, length-append (take at held) (10 ∷ []), length-take-le at held (omega arith))

-- the line that ended in hand has the input's first byte too many
pub stop-ended : (position : Position) (held rest : List ℕ) (at : ℕ) → EndsAt held at
    → at < length held → at ≤ 1024 → 67108864 ≤ position.bytes + at
    → stop_due position (lines_of (held ++ rest)) ≡ Some (InputTooLong (position.lines + 1))
stop-ended position held rest at ends within short past =
    let first = first_line-ended held rest at ends in
    let text = text_of_line-ended (take at held) ends.0 in
    ap (stop_due position) first.lines
    ∙ stop-past position (take at held ++ 10 ∷ [])
    (omega (arith, length-ended held at within))
    (inl (omega (arith, ap length text, length-take-le at held (omega arith))))

-- the bytes in hand have the input's first byte too many
pub stop-full : (position : Position) (held rest : List ℕ) → IsPartial held
    → position.bytes ≤ 67108864 → 67108864 < position.bytes + length held
    → stop_due position (lines_of (held ++ rest)) ≡ Some (InputTooLong (position.lines + 1))
stop-full position held rest partial inside past =
    let found = lines_of-front held rest partial.0 (omega arith) in
    ap (stop_due position) found.2
    ∙ stop-past position (held ++ found.0) (omega (arith, length-append held found.0))
    (inr (omega (arith, partial.1)))

-- no stop is in hand if neither limit is passed
length-first : (bytes line : List ℕ) (lines : List (List ℕ)) → lines_of bytes ≡ line ∷ lines
    → length line ≤ length bytes
length-first bytes line lines is =
    let whole : bytes ≡ line ++ concat lines = sym (concat-lines_of bytes) ∙ ap concat is in
    omega (arith, ap length whole, length-append line (concat lines))

stop-none_due : (position : Position) (bytes : List ℕ) (lines : List (List ℕ))
    → lines_of bytes ≡ lines
    → length bytes ≤ 1024 → position.bytes + length bytes ≤ 67108864
    → stop_due position lines ≡ None
stop-none_due position bytes [] is short inside = refl
stop-none_due position bytes (line ∷ lines) is short inside =
    stop-none position line
    (omega (arith, length-text_of_line line, length-first bytes line lines is))
    (omega (arith, length-first bytes line lines is))

pub stop-open : (position : Position) (held : List ℕ) → length held ≤ 1024
    → position.bytes + length held ≤ 67108864 → stop_due position (lines_of held) ≡ None
stop-open position held short inside = stop-none_due position held (lines_of held) refl short inside

-- the line that ended in hand is within both limits
pub stop-inside : (position : Position) (held : List ℕ) (at : ℕ) → EndsAt held at
    → at < length held → at ≤ 1024 → position.bytes + at < 67108864
    → line_stop position (take at held ++ 10 ∷ []) ≡ None
stop-inside position held at ends within short inside =
    let text = text_of_line-ended (take at held) ends.0 in
    stop-none position (take at held ++ 10 ∷ [])
    (omega (arith, ap length text, length-take-le at held (omega arith)))
    (omega (arith, length-ended held at within))

-- if a stop is in hand, more bytes are than a line may have, or the input's first one too many
pub stop-ready : (position : Position) (held : List ℕ) (stop : ReadStop)
    → stop_due position (lines_of held) ≡ Some stop
    → (1024 < length held) ⊎ (67108865 ≤ position.bytes + length held)
stop-ready position held stop is =
    elim (cases_lt 1024 (length held)) [
      | inl long ↦ inl long
      | inr short ↦ elim (cases_lt 67108864 (position.bytes + length held)) [
        | inl past ↦ inr (omega (arith, past))
        | inr inside ↦ absurd (none-some stop (sym (stop-open position held short inside) ∙ is))
      ]
    ]
