-- Lines in blocks, all full but the last: in which a position is, and what one line more makes.
use Rattle.std.proofs.Common.{◌≡◌, ◌≢◌, ◌≤◌, ◌<◌, ℕ, ◌+◌, ◌*◌, ◌/◌, ◌%◌, suc, zero, List, [], ◌∷◌}
use Rattle.std.proofs.Common.{◌++◌, length, get_or, inl, inr, ap, ◌∙◌, arith, sym}
use Rattle.std.specs.Prelude.{All, map}
use Rattle.std.specs.List.{flat_map}
use Rattle.std.proofs.Math.Nat.{suc-mul}
use Rattle.std.proofs.lemmas.Bool.{cases_lt}
use Rattle.std.proofs.lemmas.List.{append-nil, append_assoc, get_or-append-add, get_or_append_left}
use Rattle.std.proofs.lemmas.List.{get_or_past, length-append, length-map, length_push, map-append}
use Rattle.std.proofs.lemmas.List.Concat.{flat_map-append}
use Rattle.std.proofs.lemmas.List.Elements.{All-append, All-cons, All-get_or, All-head, All-nil}
use Rattle.std.proofs.lemmas.List.Elements.{All-tail}
use Rattle.kept_lines.specs.LineLists.{NumberedLine, line_number_at, text_at}
use Rattle.kept_lines.specs.inside.LineBlocks.{IsFilled, block_length, lines_of_blocks}

-- how many lines full blocks have
blocks-length : (full : List (List NumberedLine)) (size : ℕ)
    → All (λ block. length block ≡ size) full
    → length (flat_map (λ block. block) full) ≡ length full * size
blocks-length [] size alike = omega arith
blocks-length (block ∷ later) size alike =
    let first = All-head (λ (it : List NumberedLine). length it ≡ size) block later alike in
    let rest = blocks-length later size
    (All-tail (λ (it : List NumberedLine). length it ≡ size) block later alike) in
    let times : suc (length later) * size ≡ length later * size + size =
    suc-mul (length later) size in
    omega (
      arith,
      first,
      rest,
      times,
      length-append block (flat_map (λ (it : List NumberedLine). it) later),
    )

-- as many lines as are counted
pub lines-counted : (full : List (List NumberedLine)) (latest : List NumberedLine) (count : ℕ)
    → IsFilled full latest count → length (lines_of_blocks full latest) ≡ count
lines-counted full latest count filled =
    omega (
      arith,
      blocks-length full block_length filled.alike,
      filled.all,
      length-append (flat_map (λ (it : List NumberedLine). it) full) latest,
    )

-- the line at a position is in the block that so many full ones stand before
found_in_block : {X : Type 0} (f : NumberedLine → X) (full : List (List NumberedLine))
    (latest : List NumberedLine) (size before at : ℕ) (other : X)
    → All (λ block. length block ≡ size) full → before ≤ length full → at < size
    → get_or (map f (flat_map (λ block. block) full ++ latest)) (before * size + at) other
    ≡ get_or (map f (get_or full before latest)) at other
found_in_block f [] latest size before at other alike order within =
    let none : before ≡ 0 = omega arith in
    let is : before * size + at ≡ at = omega (arith, ap (λ n. n * size) none) in
    ap (λ n. get_or (map f latest) n other) is
    ∙ ap (λ n. get_or (map f (get_or [] n latest)) at other) (sym none)
found_in_block f (block ∷ later) latest size zero at other alike order within =
    let rest = flat_map (λ (it : List NumberedLine). it) later ++ latest in
    let first = All-head (λ (it : List NumberedLine). length it ≡ size) block later alike in
    let is : zero * size + at ≡ at = omega arith in
    ap (λ n. get_or (map f ((block ++ flat_map (λ (it : List NumberedLine). it) later) ++ latest))
    n other) is
    ∙ ap (λ lines. get_or (map f lines) at other)
    (append_assoc block (flat_map (λ (it : List NumberedLine). it) later) latest)
    ∙ ap (λ xs. get_or xs at other) (map-append f block rest)
    ∙ get_or_append_left (map f block) (map f rest) other at
    (omega (arith, length-map block f, first))
found_in_block f (block ∷ later) latest size (suc before) at other alike order within =
    let rest = flat_map (λ (it : List NumberedLine). it) later ++ latest in
    let first = All-head (λ (it : List NumberedLine). length it ≡ size) block later alike in
    let others = All-tail (λ (it : List NumberedLine). length it ≡ size) block later alike in
    let times : suc before * size ≡ before * size + size = suc-mul before size in
    let is : suc before * size + at ≡ length (map f block) + (before * size + at) =
    omega (arith, length-map block f, first, times) in
    ap (λ n. get_or (map f ((block ++ flat_map (λ (it : List NumberedLine). it) later) ++ latest))
    n other) is
    ∙ ap (λ lines. get_or (map f lines) (length (map f block) + (before * size + at)) other)
    (append_assoc block (flat_map (λ (it : List NumberedLine). it) later) latest)
    ∙ ap (λ xs. get_or xs (length (map f block) + (before * size + at)) other)
    (map-append f block rest)
    ∙ get_or-append-add (map f block) (map f rest) (before * size + at) other
    ∙ found_in_block f later latest size before at other others (omega arith) within

-- a position within the lines leads to a block, and to a position within that
pub block_there : (full : List (List NumberedLine)) (latest : List NumberedLine) (count at : ℕ)
    → IsFilled full latest count → at < length (lines_of_blocks full latest)
    → (at / 4096 ≤ length full) × (at % 4096 < length (get_or full (at / 4096) latest))
block_there full latest count at filled within =
    let long = blocks-length full block_length filled.alike in
    let all = length-append (flat_map (λ (it : List NumberedLine). it) full) latest in
    let order : at / 4096 ≤ length full = omega (arith, long, all, within, filled.no_longer) in (
      order,
      elim (cases_lt (at / 4096) (length full))
          as (λ _. at % 4096 < length (get_or full (at / 4096) latest)) [
            | inl inside ↦
                let same = All-get_or (λ (it : List NumberedLine). length it ≡ block_length) full
                (at / 4096) latest inside filled.alike in
                omega (arith, same)
            | inr past ↦
                let is = ap length (get_or_past full (at / 4096) latest past) in
                omega (arith, is, long, all, within, order, past)
          ],
    )

-- what is read there
pub number_there : (full : List (List NumberedLine)) (latest : List NumberedLine) (count at : ℕ)
    → IsFilled full latest count → at < length (lines_of_blocks full latest)
    → line_number_at (get_or full (at / 4096) latest) (at % 4096)
    ≡ line_number_at (lines_of_blocks full latest) at
number_there full latest count at filled within =
    let there = block_there full latest count at filled within in
    let whole : (at / 4096) * block_length + at % 4096 ≡ at = omega arith in
    sym (found_in_block (λ (line : NumberedLine). line.number) full latest block_length
    (at / 4096) (at % 4096) 0 filled.alike there.0 (omega arith))
    ∙ ap (line_number_at (lines_of_blocks full latest)) whole

pub text_there : (full : List (List NumberedLine)) (latest : List NumberedLine) (count at : ℕ)
    → IsFilled full latest count → at < length (lines_of_blocks full latest)
    → text_at (get_or full (at / 4096) latest) (at % 4096)
    ≡ text_at (lines_of_blocks full latest) at
text_there full latest count at filled within =
    let there = block_there full latest count at filled within in
    let whole : (at / 4096) * block_length + at % 4096 ≡ at = omega arith in
    sym (found_in_block (λ (line : NumberedLine). line.text) full latest block_length
    (at / 4096) (at % 4096) [] filled.alike there.0 (omega arith))
    ∙ ap (text_at (lines_of_blocks full latest)) whole

-- a full block is put behind the others
pub closed_one : (full : List (List NumberedLine)) (latest : List NumberedLine) (count : ℕ)
    → IsFilled full latest count → length latest ≡ 4096
    → IsFilled (full ++ latest ∷ []) [] count
    × (lines_of_blocks (full ++ latest ∷ []) [] ≡ lines_of_blocks full latest)
closed_one full latest count filled is_full =
    let P = λ (it : List NumberedLine). length it ≡ block_length in (
      record {
        alike = All-append P full (latest ∷ []) filled.alike
            (All-cons P latest [] is_full (All-nil P));
        no_longer = omega arith;
        all = omega (arith, filled.all, length_push full latest, is_full);
      },
      append-nil (flat_map (λ (it : List NumberedLine). it) (full ++ latest ∷ []))
          ∙ flat_map-append (λ (it : List NumberedLine). it) full (latest ∷ [])
          ∙ ap (λ lines. flat_map (λ (it : List NumberedLine). it) full ++ lines)
          (append-nil latest),
    )

-- a line is put into the last
pub added_one : (full : List (List NumberedLine)) (latest : List NumberedLine) (count : ℕ)
    (line : NumberedLine) → IsFilled full latest count → length latest ≢ 4096
    → IsFilled full (latest ++ line ∷ []) (count + 1)
    × (lines_of_blocks full (latest ++ line ∷ []) ≡ lines_of_blocks full latest ++ line ∷ [])
added_one full latest count line filled room = (
  record {
    alike = filled.alike;
    no_longer = omega (arith, filled.no_longer, length_push latest line, room);
    all = omega (arith, filled.all, length_push latest line);
  },
  sym (append_assoc (flat_map (λ (it : List NumberedLine). it) full) latest (line ∷ [])),
)
