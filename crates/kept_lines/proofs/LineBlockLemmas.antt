-- Lines that are kept behind heads: what stands at a position, and what one line more makes.
use Rattle.std.proofs.Common.{◌≡◌, ◌≤◌, ◌<◌, ℕ, ◌+◌, ◌*◌, suc, zero, List, [], ◌∷◌, ◌++◌, length}
use Rattle.std.proofs.Common.{get_or, inl, inr, refl, ap, ◌∙◌, arith, sym, subst}
use Rattle.std.specs.Prelude.{slice_range}
use Rattle.std.proofs.lemmas.Bool.{cases_eq}
use Rattle.std.proofs.lemmas.List.{append_assoc, get_or-map, get_or_append_left, get_or_push}
use Rattle.std.proofs.lemmas.List.{length-append, length_push}
use Rattle.kept_lines.specs.declared.line_head.LineHead.{LineHead}
use Rattle.kept_lines.specs.declared.line_head.LinePlace.{LinePlace}
use Rattle.kept_lines.specs.LineLists.{NumberedLine, line_number_at, text_at}
use Rattle.kept_lines.specs.inside.LineHeads.{WritesHead, head_at}
use Rattle.kept_lines.specs.inside.LineBlocks.{AreLinesKept, WritesLine}
use Rattle.kept_lines.specs.inside.LineBlocks.{first_place, head_of_line}
use Rattle.kept_lines.specs.inside.LineBlocks.{line_of_head, lines_in, place_after, place_behind}
use Rattle.kept_lines.specs.inside.LineBlocks.{last_number}
use Rattle.kept_lines.specs.inside.LineBlocks.{stride}
use Rattle.kept_lines.proofs.LineHeadLemmas.{head-before}
use Rattle.league_core.proofs.plain.Parts.{slice-before, slice-after}
use Rattle.kept_lines.proofs.LinePlaceLemmas.{in_order, place-before, text_before}

-- nor does it change one
pub line-before : (bytes more : List ℕ) (count : ℕ)
    → (place_after (suc count) first_place bytes).start ≤ length bytes
    → line_of_head (bytes ++ more) (head_of_line (bytes ++ more) count)
    ≡ line_of_head bytes (head_of_line bytes count)
line-before bytes more count within =
    let part = text_before bytes count (suc count) (omega arith) within in
    let order = in_order bytes first_place count (suc count) (omega arith) in
    let head : head_of_line (bytes ++ more) count ≡ head_of_line bytes count =
    ap (head_at (bytes ++ more))
    (place-before bytes more count (omega (arith, order, within)))
    ∙ head-before bytes more (place_after count first_place bytes)
    (omega (arith, part.0, part.1)) in
    let number = (head_of_line bytes count).number in
    let line : List ℕ → NumberedLine = λ text. record { number = number; text = text } in
    ap (line_of_head (bytes ++ more)) head
    ∙ ap line (slice-before bytes more (head_of_line bytes count).text
    (head_of_line bytes count).end part.0 part.1)

pub lines-before : (bytes more : List ℕ) (count : ℕ)
    → (place_after count first_place bytes).start ≤ length bytes
    → lines_in count (bytes ++ more) ≡ lines_in count bytes
lines-before bytes more zero within = refl
lines-before bytes more (suc count) within =
    let order = in_order bytes first_place count (suc count) (omega arith) in
    ap (λ lines. lines ++ line_of_head (bytes ++ more) (head_of_line (bytes ++ more) count) ∷ [])
    (lines-before bytes more count (omega (arith, order, within)))
    ∙ ap (λ line. lines_in count bytes ++ line ∷ []) (line-before bytes more count within)

-- there are so many
pub lines-length : (bytes : List ℕ) (count : ℕ) → length (lines_in count bytes) ≡ count
lines-length bytes zero = refl
lines-length bytes (suc count) =
    omega (
      arith,
      length_push (lines_in count bytes)
          (line_of_head bytes (head_of_line bytes count)),
      lines-length bytes count,
    )

-- the line at a position
pub line-found : (bytes : List ℕ) (count at : ℕ) (other : NumberedLine) → at < count
    → get_or (lines_in count bytes) at other ≡ line_of_head bytes (head_of_line bytes at)
line-found bytes zero at other within = absurd (omega arith)
line-found bytes (suc count) at other within =
    let long = lines-length bytes count in
    let line = line_of_head bytes (head_of_line bytes count) in
    elim (cases_eq at count) [
      | inl same ↦ ap (λ n. get_or (lines_in (suc count) bytes) n other) same
          ∙ get_or_push (lines_in count bytes) line other count long
          ∙ ap (λ n. line_of_head bytes (head_of_line bytes n)) (sym same)
      | inr different ↦
          get_or_append_left (lines_in count bytes) (line ∷ []) other at (omega arith)
          ∙ line-found bytes count at other (omega arith)
    ]

-- its number and its text
pub number-found : (bytes : List ℕ) (count at : ℕ) → at < count
    → line_number_at (lines_in count bytes) at ≡ (head_of_line bytes at).number
number-found bytes count at within =
    let none : NumberedLine = record { number = 0; text = [] } in
    let there : at < length (lines_in count bytes) = omega (arith, lines-length bytes count) in
    get_or-map (λ (line : NumberedLine). line.number) (lines_in count bytes) at none 0 there
    ∙ ap (λ line. line.number) (line-found bytes count at none within)

pub text-found : (bytes : List ℕ) (count at : ℕ) → at < count
    → text_at (lines_in count bytes) at
    ≡ slice_range bytes (head_of_line bytes at).text (head_of_line bytes at).end
text-found bytes count at within =
    let none : NumberedLine = record { number = 0; text = [] } in
    let there : at < length (lines_in count bytes) = omega (arith, lines-length bytes count) in
    get_or-map (λ (line : NumberedLine). line.text) (lines_in count bytes) at none [] there
    ∙ ap (λ line. line.text) (line-found bytes count at none within)

-- a head and a text behind it are a line
pub line_written : (old middle new text : List ℕ) (last number long : ℕ)
    → WritesHead old middle last number long → new ≡ middle ++ text → long ≡ length text
    → WritesLine old new last number text
line_written old middle new text last number long head is_new is_long =
    let place : LinePlace = record { start = length old; number = last } in
    let said : LineHead = record {
      number = number;
      text = length middle;
      end = length middle + long;
    } in
    let within : (head_at middle place).text ≤ length middle =
    omega (arith, ap (λ (it : LineHead). it.text) head.2) in
    let says : head_at new place ≡ said =
    ap (λ bytes. head_at bytes place) is_new ∙ head-before middle text place within ∙ head.2 in
    let all : length middle + long ≡ length new =
    omega (arith, is_long, ap length is_new, length-append middle text) in
    let behind : ℕ → LinePlace = λ start. record { start = start; number = number } in
    let line : List ℕ → NumberedLine = λ part. record { number = number; text = part } in (
      head.0 ++ text,
      is_new ∙ ap (λ bytes. bytes ++ text) head.1 ∙ append_assoc old head.0 text,
      ap place_behind says ∙ ap behind all,
      ap (line_of_head new) says
          ∙ ap (λ bytes. line (slice_range bytes (length middle) (length middle + long))) is_new
          ∙ ap (λ n. line (slice_range (middle ++ text) (length middle) (length middle + n)))
          is_long
          ∙ ap line (slice-after middle text),
    )

-- the end of lines that are kept
end_place : (bytes marks : List ℕ) (count last : ℕ)
    → AreLinesKept bytes marks count → last_number count bytes ≡ last
    → place_after count first_place bytes ≡ record { start = length bytes; number = last }
end_place bytes marks count last kept is =
    ap (λ start. let it : LinePlace = record {
      start = start;
      number = (place_after count first_place bytes).number;
    } in it) kept.ends
    ∙ ap (λ number. let it : LinePlace = record {
      start = length bytes;
      number = number;
    } in it) is

-- with a line behind them
pub kept_more : (bytes new text marks : List ℕ) (count last number : ℕ)
    → AreLinesKept bytes marks count → last_number count bytes ≡ last
    → count < stride * length marks → WritesLine bytes new last number text
    → AreLinesKept new marks (suc count) × (last_number (suc count) new ≡ number)
    × (lines_in (suc count) new
    ≡ lines_in count bytes ++ record { number = number; text = text } ∷ [])
kept_more bytes new text marks count last number kept is room writes =
    let more = writes.0 in
    let end = end_place bytes marks count last kept is in
    let within : (place_after count first_place bytes).start ≤ length bytes =
    omega (arith, kept.ends) in
    let there : place_after count first_place new
    ≡ record { start = length bytes; number = last } =
    ap (place_after count first_place) writes.1 ∙ place-before bytes more count within ∙ end in
    let behind : place_after (suc count) first_place new
    ≡ record { start = length new; number = number } =
    ap (λ place. place_behind (head_at new place)) there ∙ writes.2 in (
      record {
        ends = ap (λ (place : LinePlace). place.start) behind;
        marked = λ at inside.
            let before : stride * at ≤ count = omega (arith, kept.none_more, inside) in
            let far = in_order bytes first_place (stride * at) count before in
            kept.marked at inside
            ∙ sym (ap (λ (place : LinePlace). place.start)
            (ap (place_after (stride * at) first_place) writes.1
            ∙ place-before bytes more (stride * at) (omega (arith, far, within))));
        all = omega (arith, room);
        none_more = omega (arith, kept.none_more);
      },
      ap (λ (place : LinePlace). place.number) behind,
      ap (λ lines. lines ++ line_of_head new (head_of_line new count) ∷ [])
          (ap (lines_in count) writes.1 ∙ lines-before bytes more count within)
          ∙ ap (λ place. lines_in count bytes ++ line_of_head new (head_at new place) ∷ []) there
          ∙ ap (λ line. lines_in count bytes ++ line ∷ []) writes.3,
    )

-- the same as the code counts
pub kept_next : (bytes new text marks : List ℕ) (count last number : ℕ)
    → AreLinesKept bytes marks count → last_number count bytes ≡ last
    → count < stride * length marks → WritesLine bytes new last number text
    → AreLinesKept new marks (count + 1) × (last_number (count + 1) new ≡ number)
    × (lines_in (count + 1) new
    ≡ lines_in count bytes ++ record { number = number; text = text } ∷ [])
kept_next bytes new text marks count last number kept is room writes =
    let P : ℕ → Type 0 = λ n. AreLinesKept new marks n × (last_number n new ≡ number)
    × (lines_in n new
    ≡ lines_in count bytes ++ record { number = number; text = text } ∷ []) in
    let next : suc count ≡ count + 1 = omega arith in
    subst P next (kept_more bytes new text marks count last number kept is room writes)
