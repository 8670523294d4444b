-- The first line of the bytes in hand, whatever is left after them: one that ended there, and one
-- that is longer than a line may be.
use Rattle.std.proofs.Common.{◌≡◌, ℕ, ◌+◌, ◌<◌, ◌≤◌, eqb, List, [], ◌∷◌, ◌++◌, length, take, drop}
use Rattle.std.proofs.Common.{ap, sym, ◌∙◌, arith, append_assoc, length-append}
use Rattle.std.proofs.lemmas.List.{take-append-drop, length-take-le}
use Rattle.std.proofs.lemmas.Bool.{cond_both}
use Rattle.port_core.specs.Lines.{lines_of, text_of_line, line_limit}
use Rattle.port_core.specs.inside.Buffers.{EndsAt, IsOverlong}
use Rattle.port_core.proofs.LineLemmas.{lines_of-ended, lines_of-front, text_of_line-front}

-- this line is the first of an input, and the others are the lines of what follows it
pub record IsFirstLine (line before after : List ℕ) : Type 0 where
  pub bytes : before ≡ line ++ after
  pub lines : lines_of before ≡ line ∷ lines_of after

-- the line that is due has more bytes before its LF than a line may have
abbrev pub HasLongLine : List ℕ → Type 0
HasLongLine bytes = (line : List ℕ) × (others : List (List ℕ)) × (lines_of bytes ≡ line ∷ others)
    × (line_limit < length (text_of_line line))

-- a text and its LF in hand are the first line, whatever is left after
pub first_line-ended : (held left : List ℕ) (place : ℕ) → EndsAt held place
    → IsFirstLine (take place held ++ 10 ∷ []) (held ++ left) (drop (place + 1) held ++ left)
first_line-ended held left place ends =
    let text = take place held in
    let rest = drop (place + 1) held ++ left in
    let split : held ++ left ≡ text ++ 10 ∷ rest =
    ap (λ l. l ++ left) ends.1 ∙ append_assoc text (10 ∷ drop (place + 1) held) left in
    record {
      bytes = split ∙ sym (append_assoc text (10 ∷ []) rest);
      lines = ap lines_of split ∙ lines_of-ended text rest ends.0;
    }

-- the text of a line is no longer than the line
pub length-text_of_line : (line : List ℕ) → length (text_of_line line) ≤ length line
length-text_of_line [] = omega arith
length-text_of_line (byte ∷ bytes) =
    let P : List ℕ → Type 0 = λ l. length l ≤ length (byte ∷ bytes) in
    cond_both (eqb byte 10) [] (byte ∷ text_of_line bytes) P (λ is. omega arith)
    (λ is. omega (arith, length-text_of_line bytes))

-- too many bytes without LF are the start of a line that is too long, whatever follows
pub HasLongLine-overlong : (held left : List ℕ) → IsOverlong held → HasLongLine (held ++ left)
HasLongLine-overlong held left over =
    let front = take 1025 held in
    let size : length front ≡ 1025 = length-take-le 1025 held (omega (arith, over.0)) in
    let split : held ++ left ≡ front ++ (drop 1025 held ++ left) =
    ap (λ l. l ++ left) (sym (take-append-drop 1025 held))
    ∙ append_assoc front (drop 1025 held) left in
    let found = lines_of-front front (drop 1025 held ++ left) over.1 (omega arith) in (
      front ++ found.0,
      found.1,
      ap lines_of split ∙ found.2,
      omega (
        arith,
        ap length (text_of_line-front front found.0 over.1),
        length-append front (text_of_line found.0),
      ),
    )
