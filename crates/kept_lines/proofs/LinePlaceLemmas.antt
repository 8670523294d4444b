-- The places of lines that are kept behind heads: their order, and how one is found.
use Rattle.std.proofs.Common.{◌≡◌, ◌≤◌, ◌<◌, ℕ, ◌+◌, ◌*◌, suc, zero, List, ◌++◌, length}
use Rattle.std.proofs.Common.{get_or, refl, ap, ◌∙◌, arith, sym, subst, ◌-◌, ◌/◌, ◌%◌}
use Rattle.kept_lines.specs.declared.line_head.LinePlace.{LinePlace}
use Rattle.kept_lines.specs.inside.LineHeads.{head_at}
use Rattle.kept_lines.specs.inside.LineBlocks.{AreLineMarks}
use Rattle.kept_lines.specs.inside.LineBlocks.{first_place, head_of_line}
use Rattle.kept_lines.specs.inside.LineBlocks.{place_after, place_behind}
use Rattle.kept_lines.specs.inside.LineBlocks.{stride}
use Rattle.kept_lines.proofs.LineHeadLemmas.{head-before, head_in_order, same_bounds}

-- a later line begins later
later_than : (bytes : List ℕ) (from : LinePlace) (more before : ℕ)
    → (place_after before from bytes).start ≤ (place_after (more + before) from bytes).start
later_than bytes from zero before =
    let is : zero + before ≡ before = omega arith in
    omega (arith, ap (λ n. (place_after n from bytes).start) is)
later_than bytes from (suc more) before =
    let is : suc more + before ≡ suc (more + before) = omega arith in
    let order = head_in_order bytes (place_after (more + before) from bytes) in
    omega (
      arith,
      order.0,
      order.1,
      later_than bytes from more before,
      ap (λ n. (place_after n from bytes).start) is,
    )

pub in_order : (bytes : List ℕ) (from : LinePlace) (before after : ℕ) → before ≤ after
    → (place_after before from bytes).start ≤ (place_after after from bytes).start
in_order bytes from before after order =
    let P = λ (n : ℕ). (place_after before from bytes).start ≤ (place_after n from bytes).start in
    let more = after - before in
    let is : more + before ≡ after = omega arith in
    subst P is (later_than bytes from more before)

-- so many lines on, and so many more
pub place-sum : (bytes : List ℕ) (from : LinePlace) (more before : ℕ)
    → place_after (more + before) from bytes
    ≡ place_after more (place_after before from bytes) bytes
place-sum bytes from zero before =
    let is : zero + before ≡ before = omega arith in
    ap (λ n. place_after n from bytes) is
place-sum bytes from (suc more) before =
    let is : suc more + before ≡ suc (more + before) = omega arith in
    ap (λ n. place_after n from bytes) is
    ∙ ap (λ place. place_behind (head_at bytes place)) (place-sum bytes from more before)

-- the text of a line ends where the next line begins
pub text_before : (bytes : List ℕ) (at until : ℕ) → suc at ≤ until
    → (place_after until first_place bytes).start ≤ length bytes
    → ((head_of_line bytes at).text ≤ (head_of_line bytes at).end)
    × ((head_of_line bytes at).end ≤ length bytes)
text_before bytes at until before within = (
  (head_in_order bytes (place_after at first_place bytes)).1,
  omega (arith, in_order bytes first_place (suc at) until before),
)

-- what is put behind the bytes moves no line
pub place-before : (bytes more : List ℕ) (count : ℕ)
    → (place_after count first_place bytes).start ≤ length bytes
    → place_after count first_place (bytes ++ more) ≡ place_after count first_place bytes
place-before bytes more zero within = refl
place-before bytes more (suc count) within =
    let part = text_before bytes count (suc count) (omega arith) within in
    let order = in_order bytes first_place count (suc count) (omega arith) in
    ap (λ place. place_behind (head_at (bytes ++ more) place))
    (place-before bytes more count (omega (arith, order, within)))
    ∙ ap place_behind (head-before bytes more (place_after count first_place bytes)
    (omega (arith, part.0, part.1)))

-- lines behind places with one start begin at one start
starts_same : (bytes : List ℕ) (place other : LinePlace) (count : ℕ) → place.start ≡ other.start
    → (place_after count place bytes).start ≡ (place_after count other bytes).start
starts_same bytes place other zero same = same
starts_same bytes place other (suc count) same =
    (same_bounds bytes (place_after count place bytes) (place_after count other bytes)
    (starts_same bytes place other count same)).1

-- where a mark leads
pub mark_leads : (bytes marks : List ℕ) (at number : ℕ) → AreLineMarks bytes marks
    → at < stride * length marks
    → (place_after (at % 8) (record { start = get_or marks (at / 8) 0; number = number })
    bytes).start ≡ (place_after at first_place bytes).start
mark_leads bytes marks at number are within =
    let inside : at / 8 < length marks = omega (arith, within) in
    let from : LinePlace = place_after (stride * (at / 8)) first_place bytes in
    let whole : at % 8 + stride * (at / 8) ≡ at = omega arith in
    starts_same bytes (record { start = get_or marks (at / 8) 0; number = number }) from (at % 8)
    (are (at / 8) inside)
    ∙ ap (λ (place : LinePlace). place.start)
    (sym (place-sum bytes first_place (at % 8) (stride * (at / 8)))
    ∙ ap (λ n. place_after n first_place bytes) whole)
