-- Contents: lines before them, and what the first line of an input adds to them.
use Rattle.std.proofs.Common.{◌≡◌, ℕ, ◌+◌, ◌-◌, ◌<◌, ◌≤◌, nat_eq, eqb, List, [], ◌∷◌, ◌++◌, length}
use Rattle.std.proofs.Common.{take, drop, Option, Some, None, Ok, refl, ap, sym, ◌∙◌, subst, arith}
use Rattle.std.proofs.Common.{append-nil, append_assoc, length-drop}
use Rattle.std.specs.Prelude.{option_map, IfSome}
use Rattle.std.specs.List.{starts_with, ends_with}
use Rattle.std.specs.Io.KnownBytes.{prepend_known, IsAtEnd}
use Rattle.std.proofs.lemmas.List.{length-take, take_all, drop_all}
use Rattle.std.proofs.lemmas.Bool.{cond_both}
use Rattle.port_core.specs.Lines.{lines_of, text_of_line, HasNoLineFeed}
use Rattle.port_core.specs.inside.Buffers.{EndsAt}
use Rattle.port_core.specs.Contents.{Position, position_after, byte_order_mark, without_mark}
use Rattle.port_core.specs.Contents.{without_return, number_at, content_at, line_stop, ended}
use Rattle.port_core.specs.Contents.{Contents, with_content, with_lines, contents_by, contents_from}
use Rattle.port_core.specs.Readers.{contents_after}
use Rattle.port_core.proofs.LineLemmas.{lines_of-open, text_of_line-ended, text_of_line-open}
use Rattle.port_core.proofs.FirstLineLemmas.{first_line-ended}
use Rattle.port_core.proofs.StopLemmas.{stop-none, stop-inside, length-ended}

-- lines and those after them, before the same contents
pub with_lines-append : (first second : List (ℕ × List ℕ)) (rest : Contents)
    → with_lines (first ++ second) rest ≡ with_lines first (with_lines second rest)
with_lines-append first second rest =
    ap (λ lines. record { lines = lines; ending = rest.ending })
    (append_assoc first second rest.lines)

pub contents-line : (position : Position) (lines rest : List (List ℕ)) (line text : List ℕ) (size :
    ℕ)
    → lines ≡ line ∷ rest → text_of_line line ≡ text → length line ≡ size
    → line_stop position line ≡ None
    → contents_from position lines ≡ with_content (number_at position) (content_at position text)
    (contents_from (position_after position size) rest)
contents-line position lines rest line text size is text-is size-is none =
    ap (contents_from position) is
    ∙ ap (λ found. contents_by found (with_content (number_at position)
    (content_at position (text_of_line line))
    (contents_from (position_after position (length line)) rest))) none
    ∙ ap (λ t. with_content (number_at position) (content_at position t)
    (contents_from (position_after position (length line)) rest)) text-is
    ∙ ap (λ n. with_content (number_at position) (content_at position text)
    (contents_from (position_after position n) rest)) size-is

-- a line that ended in hand
pub contents-ended : (position : Position) (held : List ℕ) (known left : Option (List ℕ)) (at : ℕ)
    → known ≡ prepend_known held left → EndsAt held at → at < length held → at ≤ 1024
    → position.bytes + at < 67108864
    → contents_after position known
    ≡ option_map (with_content (number_at position) (content_at position (take at held)))
    (contents_after (position_after position (at + 1)) (prepend_known (drop (at + 1) held) left))
contents-ended position held known None at is ends within short inside =
    ap (contents_after position) is
contents-ended position held known (Some left) at is ends within short inside =
    let first = first_line-ended held left at ends in
    ap (contents_after position) is
    ∙ ap Some (contents-line position (lines_of (held ++ left)) (lines_of (drop (at + 1) held ++
    left))
    (take at held ++ 10 ∷ []) (take at held) (at + 1) first.lines
    (text_of_line-ended (take at held) ends.0) (length-ended held at within)
    (stop-inside position held at ends within short inside))

-- the last line, which has no LF
pub contents-last : (position : Position) (held : List ℕ) (known left : Option (List ℕ))
    → known ≡ prepend_known held left → IsAtEnd left → HasNoLineFeed held → 0 < length held
    → length held ≤ 1024 → position.bytes + length held ≤ 67108864
    → contents_after position known
    ≡ option_map (with_content (number_at position) (content_at position (take (length held) held)))
    (contents_after (position_after position (length held))
    (prepend_known (drop (length held) held) left))
contents-last position held known None is end none some short inside = ap (contents_after position)
    is
contents-last position held known (Some left) is end none some short inside =
    let size = length held in
    let whole : held ++ left ≡ held = ap (λ l. held ++ l) end ∙ append-nil held in
    let gone : drop size held ++ left ≡ [] = ap (λ l. drop size held ++ l) end
    ∙ append-nil (drop size held) ∙ drop_all size held (omega arith) in
    let first : lines_of (held ++ left) ≡ held ∷ lines_of (drop size held ++ left) =
    ap lines_of whole ∙ lines_of-open held none some ∙ ap (λ l. held ∷ lines_of l) (sym gone) in
    let text : text_of_line held ≡ take size held =
    text_of_line-open held none ∙ sym (take_all size held (omega arith)) in
    let room : length (text_of_line held) ≤ 1024 =
    omega (arith, ap length (text_of_line-open held none)) in
    ap (contents_after position) is
    ∙ ap Some (contents-line position (lines_of (held ++ left)) (lines_of (drop size held ++ left))
    held (take size held) size first text refl (stop-none position held room inside))

pub contents-end : (position : Position) (held : List ℕ) (known left : Option (List ℕ))
    → known ≡ prepend_known held left → IsAtEnd left → held ≡ []
    → IfSome (contents_after position known) (λ contents. contents ≡ ended (Ok (number_at
    position)))
contents-end position held known None is end none =
    let P : Option (List ℕ) → Type 0 =
    λ k. IfSome (contents_after position k) (λ contents. contents ≡ ended (Ok (number_at
    position))) in
    subst P (sym is) tt
contents-end position held known (Some left) is end none =
    let P : Option (List ℕ) → Type 0 =
    λ k. IfSome (contents_after position k) (λ contents. contents ≡ ended (Ok (number_at
    position))) in
    let gone : held ++ left ≡ [] = ap (λ h. h ++ left) none ∙ end in
    subst P (sym is) (ap (λ l. contents_from position (lines_of l)) gone)

-- the content of a line is no longer than its text
length-return : (text : List ℕ) → length (without_return text) ≤ length text
length-return text =
    cond_both (ends_with nat_eq text (13 ∷ [])) (take (length text - 1) text) text
    (λ l. length l ≤ length text) (λ is. omega (arith, length-take (length text - 1) text)) (λ is.
    omega arith)

length-mark : (text : List ℕ) → length (without_mark text) ≤ length text
length-mark text =
    cond_both (starts_with nat_eq text byte_order_mark) (drop 3 text) text
    (λ l. length l ≤ length text) (λ is. omega (arith, length-drop 3 text)) (λ is. omega arith)

pub length-content : (position : Position) (text : List ℕ)
    → length (content_at position text) ≤ length text
length-content position text =
    cond_both (eqb position.lines 0) (without_mark (without_return text)) (without_return text)
    (λ l. length l ≤ length text)
    (λ is. omega (arith, length-mark (without_return text), length-return text))
    (λ is. length-return text)
