-- Lines: what joining them gives, which lists of lines are those of an input, and the first line of
-- one.
use Rattle.std.proofs.Common.{◌≡◌, ◌≢◌, ℕ, ◌<◌, Bool, false, eqb, if◌then◌else◌, List, [], ◌∷◌}
use Rattle.std.proofs.Common.{◌++◌, length, refl, ap, sym, ◌∙◌, subst, inl, inr, arith}
use Rattle.std.proofs.Common.{append_assoc, append-nil}
use Rattle.std.specs.Prelude.{◌⊎◌}
use Rattle.std.specs.List.{concat}
use Rattle.std.proofs.lemmas.List.Elements.{All-nil, All-cons, All-head, All-tail}
use Rattle.std.proofs.lemmas.Bool.{cond_both}
use Rattle.port_core.specs.Lines.{onto_first, lines_of, text_of_line, HasNoLineFeed, IsEndedLine}
use Rattle.port_core.specs.inside.LineSplits.{IsOpenLine, AreLines}

-- ---- the first byte

eqb_other : (byte : ℕ) → byte ≢ 10 → eqb byte 10 ≡ false
eqb_other byte other = grind (arith, other)

-- a byte that is no LF goes onto the first line
pub lines_of-other : (byte : ℕ) (bytes : List ℕ) → byte ≢ 10
    → lines_of (byte ∷ bytes) ≡ onto_first byte (lines_of bytes)
lines_of-other byte bytes other =
    ap (λ (v : Bool). if v then (byte ∷ []) ∷ lines_of bytes else onto_first byte (lines_of bytes))
    (eqb_other byte other)

text_of_line-other : (byte : ℕ) (bytes : List ℕ) → byte ≢ 10
    → text_of_line (byte ∷ bytes) ≡ byte ∷ text_of_line bytes
text_of_line-other byte bytes other =
    ap (λ (v : Bool). if v then [] else byte ∷ text_of_line bytes) (eqb_other byte other)

no_line_feed-head : (byte : ℕ) (bytes : List ℕ) → HasNoLineFeed (byte ∷ bytes) → byte ≢ 10
no_line_feed-head byte bytes none = All-head (λ b. b ≢ 10) byte bytes none

no_line_feed-tail : (byte : ℕ) (bytes : List ℕ) → HasNoLineFeed (byte ∷ bytes) → HasNoLineFeed bytes
no_line_feed-tail byte bytes none = All-tail (λ b. b ≢ 10) byte bytes none

no_line_feed-cons : (byte : ℕ) (bytes : List ℕ) → byte ≢ 10 → HasNoLineFeed bytes
    → HasNoLineFeed (byte ∷ bytes)
no_line_feed-cons byte bytes other none = All-cons (λ b. b ≢ 10) byte bytes other none

-- ---- the lines of an input

concat-onto_first : (byte : ℕ) (lines : List (List ℕ))
    → concat (onto_first byte lines) ≡ byte ∷ concat lines
concat-onto_first byte [] = refl
concat-onto_first byte (line ∷ lines) = refl

-- the lines of an input joined are the input
pub concat-lines_of : (input : List ℕ) → concat (lines_of input) ≡ input
concat-lines_of [] = refl
concat-lines_of (byte ∷ bytes) =
    let P : List (List ℕ) → Type 0 = λ lines. concat lines ≡ byte ∷ bytes in
    cond_both (eqb byte 10) ((byte ∷ []) ∷ lines_of bytes) (onto_first byte (lines_of bytes)) P
    (λ is. ap (λ l. byte ∷ l) (concat-lines_of bytes))
    (λ is. concat-onto_first byte (lines_of bytes) ∙ ap (λ l. byte ∷ l) (concat-lines_of bytes))

lines-ended : (line : List ℕ) (lines : List (List ℕ)) → IsEndedLine line → AreLines lines
    → AreLines (line ∷ lines)
lines-ended line [] ended are = inl ended
lines-ended line (next ∷ lines) ended are = (ended, are)

ended-onto : (byte : ℕ) (line : List ℕ) → byte ≢ 10 → IsEndedLine line → IsEndedLine (byte ∷ line)
ended-onto byte line other ended =
    (byte ∷ ended.0, no_line_feed-cons byte ended.0 other ended.1, ap (λ l. byte ∷ l) ended.2)

open-onto : (byte : ℕ) (line : List ℕ) → byte ≢ 10 → HasNoLineFeed line → IsOpenLine (byte ∷ line)
open-onto byte line other none = (no_line_feed-cons byte line other none, omega arith)

lines-onto : (byte : ℕ) (lines : List (List ℕ)) → byte ≢ 10 → AreLines lines
    → AreLines (onto_first byte lines)
lines-onto byte [] other are = inr (open-onto byte [] other (All-nil (λ b. b ≢ 10)))
lines-onto byte (line ∷ []) other are =
    elim are [
      | inl ended ↦ inl (ended-onto byte line other ended)
      | inr cut ↦ inr
          (open-onto byte line other cut.0)
    ]
lines-onto byte (line ∷ next ∷ lines) other are = (ended-onto byte line other are.0, are.1)

-- each of them is a line
pub AreLines-lines_of : (input : List ℕ) → AreLines (lines_of input)
AreLines-lines_of [] = tt
AreLines-lines_of (byte ∷ bytes) =
    cond_both (eqb byte 10) ((byte ∷ []) ∷ lines_of bytes) (onto_first byte (lines_of bytes))
    AreLines
    (λ is. lines-ended (byte ∷ []) (lines_of bytes) (
      [],
      All-nil (λ b. b ≢ 10),
      ap (λ b. b ∷ []) (grind (arith, is)),
    ) (AreLines-lines_of bytes))
    (λ is. lines-onto byte (lines_of bytes) (grind (arith, is)) (AreLines-lines_of bytes))

-- ---- the first line

-- a text and its LF at the start of an input are its first line
pub lines_of-ended : (text rest : List ℕ) → HasNoLineFeed text
    → lines_of (text ++ 10 ∷ rest) ≡ (text ++ 10 ∷ []) ∷ lines_of rest
lines_of-ended [] rest none = refl
lines_of-ended (byte ∷ text) rest none =
    lines_of-other byte (text ++ 10 ∷ rest) (no_line_feed-head byte text none)
    ∙ ap (onto_first byte) (lines_of-ended text rest (no_line_feed-tail byte text none))

-- a text that is all of an input is its one line
pub lines_of-open : (text : List ℕ) → HasNoLineFeed text → 0 < length text
    → lines_of text ≡ text ∷ []
lines_of-open [] none some = absurd (omega arith)
lines_of-open (byte ∷ []) none some = lines_of-other byte [] (no_line_feed-head byte [] none)
lines_of-open (byte ∷ next ∷ text) none some =
    lines_of-other byte (next ∷ text) (no_line_feed-head byte (next ∷ text) none)
    ∙ ap (onto_first byte)
    (lines_of-open (next ∷ text) (no_line_feed-tail byte (next ∷ text) none) (omega arith))

-- the first line begins with all bytes up to the first LF
pub lines_of-front : (front rest : List ℕ) → HasNoLineFeed front → 0 < length front
    → (more : List ℕ) × (others : List (List ℕ))
    × (lines_of (front ++ rest) ≡ (front ++ more) ∷ others)
lines_of-front [] rest none some = absurd (omega arith)
lines_of-front (byte ∷ []) rest none some =
    let other = no_line_feed-head byte [] none in
    elim (lines_of rest) as (λ lines. lines_of rest ≡ lines → (more : List ℕ)
    × (others : List (List ℕ)) × (lines_of (byte ∷ rest) ≡ (byte ∷ more) ∷ others)) [
      | [] ↦ λ is. ([], [], lines_of-other byte rest other ∙ ap (onto_first byte) is)
      | line ∷ lines ↦ λ is. (line, lines, lines_of-other byte rest other ∙ ap (onto_first byte) is)
    ] refl
lines_of-front (byte ∷ next ∷ front) rest none some =
    let found =
    lines_of-front (next ∷ front) rest (no_line_feed-tail byte (next ∷ front) none)
    (omega arith) in (
      found.0,
      found.1,
      lines_of-other byte (next ∷ front ++ rest) (no_line_feed-head byte (next ∷ front) none)
          ∙ ap (onto_first byte) found.2,
    )

-- the text of a line begins with all bytes up to the first LF
pub text_of_line-front : (front rest : List ℕ) → HasNoLineFeed front
    → text_of_line (front ++ rest) ≡ front ++ text_of_line rest
text_of_line-front [] rest none = refl
text_of_line-front (byte ∷ front) rest none =
    text_of_line-other byte (front ++ rest) (no_line_feed-head byte front none)
    ∙ ap (λ l. byte ∷ l) (text_of_line-front front rest (no_line_feed-tail byte front none))

pub text_of_line-ended : (text : List ℕ) → HasNoLineFeed text
    → text_of_line (text ++ 10 ∷ []) ≡ text
text_of_line-ended text none = text_of_line-front text (10 ∷ []) none ∙ append-nil text

pub text_of_line-open : (text : List ℕ) → HasNoLineFeed text → text_of_line text ≡ text
text_of_line-open text none = ap text_of_line (sym (append-nil text))
    ∙ text_of_line-front text [] none ∙ append-nil text

-- ---- no other lines

ended-first : (line rest : List ℕ) → IsEndedLine line
    → lines_of (line ++ rest) ≡ line ∷ lines_of rest
ended-first line rest ended =
    let P : List ℕ → Type 0 = λ l. lines_of (l ++ rest) ≡ l ∷ lines_of rest in
    subst P (sym ended.2) (ap lines_of (append_assoc ended.0 (10 ∷ []) rest)
    ∙ lines_of-ended ended.0 rest ended.1)

last-only : (line : List ℕ) → IsEndedLine line ⊎ IsOpenLine line → lines_of line ≡ line ∷ []
last-only line are =
    elim are [
      | inl ended ↦ ap lines_of (sym (append-nil line)) ∙ ended-first line [] ended
      | inr cut ↦ lines_of-open line cut.0 cut.1
    ]

-- lines joined are an input with those lines
pub lines_of-concat : (lines : List (List ℕ)) → AreLines lines → lines_of (concat lines) ≡ lines
lines_of-concat [] are = refl
lines_of-concat (line ∷ []) are = ap lines_of (append-nil line) ∙ last-only line are
lines_of-concat (line ∷ next ∷ lines) are =
    ended-first line (concat (next ∷ lines)) are.0
    ∙ ap (λ ls. line ∷ ls) (lines_of-concat (next ∷ lines) are.1)
