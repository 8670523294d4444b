-- Heads of lines: what is put behind the bytes changes no head among them, and what is written is
-- read.
use Rattle.std.proofs.Common.{◌≡◌, ◌≤◌, ◌<◌, ℕ, ◌+◌, ◌^◌, Bool, true, false, List, [], ◌∷◌, ◌++◌}
use Rattle.std.proofs.Common.{get_or, length, refl, ap, ◌∙◌, arith, nat_lt}
use Rattle.std.specs.Prelude.{if◌then◌else◌, slice_index}
use Rattle.std.specs.Int.{w32, from_le_bytes, to_le_bytes}
use Rattle.std.proofs.lemmas.List.{get_or_append_left, get_or-append-add, length-append}
use Rattle.std.proofs.lemmas.Nat.{from_le_bytes-to_le_bytes_4}
use Rattle.kept_lines.specs.declared.line_head.LineHead.{LineHead}
use Rattle.kept_lines.specs.declared.line_head.LinePlace.{LinePlace}
use Rattle.kept_lines.specs.inside.LineHeads.{WritesHead, far_head, head_at, near_head}
use Rattle.kept_lines.specs.inside.LineHeads.{long_number}

-- a number among the bytes
number-before : (bytes more : List ℕ) (at : ℕ) → at + 4 ≤ length bytes
    → long_number (bytes ++ more) at ≡ long_number bytes at
number-before bytes more at within =
    let lowest = get_or_append_left bytes more 0 at (omega arith) in
    let second = get_or_append_left bytes more 0 (at + 1) (omega arith) in
    let third = get_or_append_left bytes more 0 (at + 2) (omega arith) in
    let highest = get_or_append_left bytes more 0 (at + 3) (omega arith) in
    ap (λ a. from_le_bytes w32 (a ∷ get_or (bytes ++ more) (at + 1) 0
    ∷ get_or (bytes ++ more) (at + 2) 0 ∷ get_or (bytes ++ more) (at + 3) 0 ∷ [])) lowest
    ∙ ap (λ a. from_le_bytes w32 (get_or bytes at 0 ∷ a
    ∷ get_or (bytes ++ more) (at + 2) 0 ∷ get_or (bytes ++ more) (at + 3) 0 ∷ [])) second
    ∙ ap (λ a. from_le_bytes w32 (get_or bytes at 0 ∷ get_or bytes (at + 1) 0
    ∷ a ∷ get_or (bytes ++ more) (at + 3) 0 ∷ [])) third
    ∙ ap (λ a. from_le_bytes w32 (get_or bytes at 0 ∷ get_or bytes (at + 1) 0
    ∷ get_or bytes (at + 2) 0 ∷ a ∷ [])) highest

-- a number in what stands behind the bytes
number-behind : (bytes more : List ℕ) (n at : ℕ) → at ≡ length bytes + n
    → long_number (bytes ++ more) at ≡ long_number more n
number-behind bytes more n at is =
    let P = λ (k : ℕ) (m : ℕ). get_or (bytes ++ more) k 0 ≡ get_or more m 0 in
    let lowest : P at n = ap (λ k. get_or (bytes ++ more) k 0) is
    ∙ get_or-append-add bytes more n 0 in
    let eq1 : at + 1 ≡ length bytes + (n + 1) = omega arith in
    let second : P (at + 1) (n + 1) = ap (λ k. get_or (bytes ++ more) k 0) eq1
    ∙ get_or-append-add bytes more (n + 1) 0 in
    let eq2 : at + 2 ≡ length bytes + (n + 2) = omega arith in
    let third : P (at + 2) (n + 2) = ap (λ k. get_or (bytes ++ more) k 0) eq2
    ∙ get_or-append-add bytes more (n + 2) 0 in
    let eq3 : at + 3 ≡ length bytes + (n + 3) = omega arith in
    let highest : P (at + 3) (n + 3) = ap (λ k. get_or (bytes ++ more) k 0) eq3
    ∙ get_or-append-add bytes more (n + 3) 0 in
    ap (λ a. from_le_bytes w32 (a ∷ get_or (bytes ++ more) (at + 1) 0
    ∷ get_or (bytes ++ more) (at + 2) 0 ∷ get_or (bytes ++ more) (at + 3) 0 ∷ [])) lowest
    ∙ ap (λ a. from_le_bytes w32 (get_or more n 0 ∷ a
    ∷ get_or (bytes ++ more) (at + 2) 0 ∷ get_or (bytes ++ more) (at + 3) 0 ∷ [])) second
    ∙ ap (λ a. from_le_bytes w32 (get_or more n 0 ∷ get_or more (n + 1) 0
    ∷ a ∷ get_or (bytes ++ more) (at + 3) 0 ∷ [])) third
    ∙ ap (λ a. from_le_bytes w32 (get_or more n 0 ∷ get_or more (n + 1) 0
    ∷ get_or more (n + 2) 0 ∷ a ∷ [])) highest

-- a head that says number and length in full
far-before : (bytes more : List ℕ) (place : LinePlace) → place.start + 9 ≤ length bytes
    → far_head (bytes ++ more) place ≡ far_head bytes place
far-before bytes more place within =
    ap (λ n. let head : LineHead = record {
      number = n;
      text = place.start + 9;
      end = place.start + 9 + long_number (bytes ++ more) (place.start + 5);
    } in head) (number-before bytes more (place.start + 1) (omega arith))
    ∙ ap (λ n. let head : LineHead = record {
      number = long_number bytes (place.start + 1);
      text = place.start + 9;
      end = place.start + 9 + n;
    } in head) (number-before bytes more (place.start + 5) (omega arith))

-- the text begins behind the head's first byte, and ends where it begins or later
ordered_by : (near : Bool) (byte : ℕ) (bytes : List ℕ) (place : LinePlace)
    → (place.start + 1 ≤ (if near then near_head byte place else far_head bytes place).text)
    × ((if near then near_head byte place else far_head bytes place).text
    ≤ (if near then near_head byte place else far_head bytes place).end)
ordered_by true byte bytes place = (omega arith, omega arith)
ordered_by false byte bytes place = (omega arith, omega arith)

pub head_in_order : (bytes : List ℕ) (place : LinePlace)
    → (place.start + 1 ≤ (head_at bytes place).text)
    × ((head_at bytes place).text ≤ (head_at bytes place).end)
head_in_order bytes place =
    ordered_by (nat_lt (slice_index bytes place.start) 255) (slice_index bytes place.start)
    bytes place

-- where the text begins and ends does not depend on the number before
bounds_by : (near : Bool) (byte : ℕ) (bytes : List ℕ) (start number other : ℕ)
    → ((if near then near_head byte (record { start = start; number = number })
    else far_head bytes (record { start = start; number = number })).text
    ≡ (if near then near_head byte (record { start = start; number = other })
    else far_head bytes (record { start = start; number = other })).text)
    × ((if near then near_head byte (record { start = start; number = number })
    else far_head bytes (record { start = start; number = number })).end
    ≡ (if near then near_head byte (record { start = start; number = other })
    else far_head bytes (record { start = start; number = other })).end)
bounds_by true byte bytes start number other = (refl, refl)
bounds_by false byte bytes start number other = (refl, refl)

pub same_bounds : (bytes : List ℕ) (place other : LinePlace) → place.start ≡ other.start
    → ((head_at bytes place).text ≡ (head_at bytes other).text)
    × ((head_at bytes place).end ≡ (head_at bytes other).end)
same_bounds bytes place other same =
    let at : ℕ → LineHead = λ start.
    head_at bytes (record { start = start; number = place.number }) in
    let bounds = bounds_by (nat_lt (slice_index bytes other.start) 255)
    (slice_index bytes other.start) bytes other.start place.number other.number in (
      ap (λ start. (at start).text) same ∙ bounds.0,
      ap (λ start. (at start).end) same ∙ bounds.1,
    )

same_by : (near : Bool) (byte : ℕ) (bytes more : List ℕ) (place : LinePlace)
    → (if near then near_head byte place else far_head bytes place).text ≤ length bytes
    → (if near then near_head byte place else far_head (bytes ++ more) place)
    ≡ (if near then near_head byte place else far_head bytes place)
same_by true byte bytes more place within = refl
same_by false byte bytes more place within = far-before bytes more place within

-- a head among the bytes is the same whatever is put behind them
pub head-before : (bytes more : List ℕ) (place : LinePlace)
    → (head_at bytes place).text ≤ length bytes
    → head_at (bytes ++ more) place ≡ head_at bytes place
head-before bytes more place within =
    let order = head_in_order bytes place in
    let there : place.start < length bytes = omega (arith, order.0, within) in
    let byte = get_or_append_left bytes more 0 place.start there in
    ap (λ b. if nat_lt b 255 then near_head b place else far_head (bytes ++ more) place) byte
    ∙ same_by (nat_lt (slice_index bytes place.start) 255) (slice_index bytes place.start)
    bytes more place within

-- a head that says number and length in full says them
pub far_written : (bytes : List ℕ) (last number long : ℕ) → number < 2 ^ 32 → long < 2 ^ 32
    → WritesHead bytes (bytes ++ (255 ∷ to_le_bytes w32 number ++ to_le_bytes w32 long))
    last number long
far_written bytes last number long small few =
    let head : List ℕ = 255 ∷ to_le_bytes w32 number ++ to_le_bytes w32 long in
    let place : LinePlace = record { start = length bytes; number = last } in
    let start : length bytes ≡ length bytes + 0 = omega arith in
    let byte : get_or (bytes ++ head) (length bytes) 0 ≡ 255 =
    ap (λ k. get_or (bytes ++ head) k 0) start ∙ get_or-append-add bytes head 0 0 in
    let is_number : long_number (bytes ++ head) (length bytes + 1) ≡ number =
    number-behind bytes head 1 (length bytes + 1) refl
    ∙ from_le_bytes-to_le_bytes_4 number small in
    let is_long : long_number (bytes ++ head) (length bytes + 5) ≡ long =
    number-behind bytes head 5 (length bytes + 5) refl
    ∙ from_le_bytes-to_le_bytes_4 long few in
    let ends : length bytes + 9 ≡ length (bytes ++ head) =
    omega (arith, length-append bytes head) in
    let make : ℕ → ℕ → ℕ → LineHead = λ n t l. record { number = n; text = t; end = t + l } in (
      head,
      refl,
      ap (λ b. if nat_lt b 255 then near_head b place else far_head (bytes ++ head) place) byte
          ∙ ap (λ n. make n (length bytes + 9) (long_number (bytes ++ head) (length bytes + 5)))
          is_number
          ∙ ap (λ l. make number (length bytes + 9) l) is_long
          ∙ ap (λ t. make number t long) ends,
    )
