-- No two questions about a sheet have one row: they differ in the line, the club or the claim.
use Rattle.std.proofs.Common.{◌≡◌, ℕ, zero, suc, ◌+◌, ◌<◌, ◌≤◌, ◌^◌, Bool, true, false, not, ◌&&◌}
use Rattle.std.proofs.Common.{◌||◌, List, [], ◌∷◌, ◌++◌, length, map, get_or, refl, sym, ap, ◌∙◌}
use Rattle.std.proofs.Common.{arith, inl, inr, bytes_eq, decimal, nat_eq, nat_le, nat_lt}
use Rattle.std.specs.List.{flat_map, list_all, list_any, range_with_len}
use Rattle.std.proofs.lemmas.Bool.{and_parts, and_from, cases_Bool, false≢true, ltb-true}
use Rattle.std.proofs.lemmas.Bool.{eqb-false}
use Rattle.std.proofs.lemmas.Fmt.{decimal_injective}
use Rattle.std.proofs.lemmas.List.Folds.{list_any-append}
use Rattle.league_core.specs.declared.sheet.Club.{Club}
use Rattle.league_core.specs.declared.sheet.Sheet.{Sheet}
use Rattle.league_core.specs.declared.question.Claim.TheVariants.{Inside, Outside}
use Rattle.league_core.specs.declared.question.Question.{Question}
use Rattle.league_core.specs.game.Limits.{most_clubs}
use Rattle.league_core.specs.game.Questions.{full_question}
use Rattle.league_core.specs.game.Sheets.{IsWithinLimits, are_different, is_line, same_name}
use Rattle.league_core.proofs.plain.Texts.{bytes_eq-true, bytes_eq-swap}
use Rattle.cert_text.specs.Lines.{claim_word}
use Rattle.line_tokens.specs.LineRanges.{name_of_club}
use Rattle.answer_rows.specs.AskedQuestions.{both_questions, questions_of, questions_of_line}
use Rattle.pool_save.specs.inside.SavedLaws.{HaveOwnRows, same_row}

-- ---- lists

not_so : (b : Bool) → not b ≡ true → b ≡ false
not_so true is = absurd (false≢true is)
not_so false is = refl

or_none : (a b : Bool) → a ≡ false → b ≡ false → (a || b) ≡ false
or_none a b first second = ap (λ x. x || b) first ∙ second

or_parts : (a b : Bool) → (a || b) ≡ false → (a ≡ false) × (b ≡ false)
or_parts true b none = absurd (false≢true (sym none))
or_parts false b none = (refl, none)

-- a list is all different if each of two parts is, and none of the second is as one of the first
different-append : (same : Question → Question → Bool) (xs ys : List Question)
    → are_different same xs ≡ true → are_different same ys ≡ true
    → list_all (λ x. not (list_any (same x) ys)) xs ≡ true
    → are_different same (xs ++ ys) ≡ true
different-append same [] ys own others apart = others
different-append same (x ∷ xs) ys own others apart =
    let mine = and_parts (not (list_any (same x) xs)) (are_different same xs) own in
    let far = and_parts (not (list_any (same x) ys)) (list_all (λ z. not (list_any (same z) ys)) xs)
    apart in
    and_from (not (list_any (same x) (xs ++ ys))) (are_different same (xs ++ ys))
    (ap not (list_any-append (same x) xs ys
    ∙ or_none (list_any (same x) xs) (list_any (same x) ys)
    (not_so (list_any (same x) xs) mine.0) (not_so (list_any (same x) ys) far.0)))
    (different-append same xs ys mine.1 others far.1)

-- ---- two rows

bytes_differ : (text other : List ℕ) → (text ≡ other → ⊥) → bytes_eq text other ≡ false
bytes_differ text other apart =
    elim (cases_Bool (bytes_eq text other)) as (λ _. bytes_eq text other ≡ false) [
      | inl same ↦ absurd (apart (bytes_eq-true text other same))
      | inr differ ↦ differ
    ]

first_none : (a b c : Bool) → a ≡ false → (a && b && c) ≡ false
first_none a b c none = ap (λ x. x && b && c) none

second_none : (a b c : Bool) → b ≡ false → (a && b && c) ≡ false
second_none true b c none = ap (λ x. x && c) none
second_none false b c none = refl

third_none : (a b c : Bool) → c ≡ false → (a && b && c) ≡ false
third_none true true c none = none
third_none true false c none = refl
third_none false b c none = refl

module _ (sheet : Sheet) (question other : Question) where
  -- whether the numbers, the names and the claims are the same
  abbrev lines : Bool
  lines = bytes_eq (decimal other.line) (decimal question.line)

  abbrev names : Bool
  names = bytes_eq (name_of_club sheet other.club) (name_of_club sheet question.club)

  abbrev claims : Bool
  claims = bytes_eq (claim_word other.claim) (claim_word question.claim)

  lines_apart : question.line < 2 ^ 64 → other.line < 2 ^ 64 → (other.line ≡ question.line → ⊥)
      → same_row sheet question other ≡ false
  lines_apart small few apart =
      first_none lines names claims
      (bytes_differ (decimal other.line) (decimal question.line)
      (λ same. apart (decimal_injective other.line question.line few small same)))

  names_apart : names ≡ false → same_row sheet question other ≡ false
  names_apart apart = second_none lines names claims apart

  claims_apart : claims ≡ false → same_row sheet question other ≡ false
  claims_apart apart = third_none lines names claims apart

-- ---- names

-- the name of a club is none of those that it differs from
named_apart : (name : List ℕ) (clubs : List Club) (place : ℕ)
    → list_any (λ (club : Club). bytes_eq name club.name) clubs ≡ false → place < length clubs
    → bytes_eq name (get_or (map (λ (club : Club). club.name) clubs) place []) ≡ false
named_apart name [] place none within = absurd (omega (arith, within))
named_apart name (club ∷ clubs) zero none within =
    (or_parts (bytes_eq name club.name)
    (list_any (λ (it : Club). bytes_eq name it.name) clubs) none).0
named_apart name (club ∷ clubs) (suc place) none within =
    named_apart name clubs place
    (or_parts (bytes_eq name club.name)
    (list_any (λ (it : Club). bytes_eq name it.name) clubs) none).1 (omega (arith, within))

-- the names of two clubs of a sheet differ
clubs_apart : (clubs : List Club) (place later : ℕ) → are_different same_name clubs ≡ true
    → place < later → later < length clubs
    → bytes_eq (get_or (map (λ (club : Club). club.name) clubs) place [])
    (get_or (map (λ (club : Club). club.name) clubs) later []) ≡ false
clubs_apart [] place later differ before within = absurd (omega (arith, within))
clubs_apart (club ∷ clubs) place zero differ before within = absurd (omega (arith, before))
clubs_apart (club ∷ clubs) zero (suc later) differ before within =
    named_apart club.name clubs later
    (not_so (list_any (same_name club) clubs)
    (and_parts (not (list_any (same_name club) clubs)) (are_different same_name clubs) differ).0)
    (omega (arith, within))
clubs_apart (club ∷ clubs) (suc place) (suc later) differ before within =
    clubs_apart clubs place later
    (and_parts (not (list_any (same_name club) clubs)) (are_different same_name clubs) differ).1
    (omega (arith, before)) (omega (arith, within))

-- ---- the questions about a line

-- none about a later club has the row of one
none_later : (sheet : Sheet) (question : Question) (line from count : ℕ)
    → are_different same_name sheet.clubs ≡ true → question.club < from
    → from + count ≤ length sheet.clubs
    → list_any (same_row sheet question)
    (flat_map (both_questions line) (range_with_len from count)) ≡ false
none_later sheet question line from zero differ before few = refl
none_later sheet question line from (suc count) differ before few =
    let apart = bytes_eq-swap (name_of_club sheet from) (name_of_club sheet question.club)
    ∙ clubs_apart sheet.clubs question.club from differ before (omega (arith, few)) in
    or_none (same_row sheet question (full_question from line Inside))
    (same_row sheet question (full_question from line Outside)
    || list_any (same_row sheet question)
    (flat_map (both_questions line) (range_with_len (from + 1) count)))
    (names_apart sheet question (full_question from line Inside) apart)
    (or_none (same_row sheet question (full_question from line Outside))
    (list_any (same_row sheet question)
    (flat_map (both_questions line) (range_with_len (from + 1) count)))
    (names_apart sheet question (full_question from line Outside) apart)
    (none_later sheet question line (from + 1) count differ (omega (arith, before))
    (omega (arith, few))))

-- no two about one line have one row
line_differs : (sheet : Sheet) (line from count : ℕ) → are_different same_name sheet.clubs ≡ true
    → from + count ≤ length sheet.clubs
    → are_different (same_row sheet) (flat_map (both_questions line) (range_with_len from count))
    ≡ true
line_differs sheet line from zero differ few = refl
line_differs sheet line from (suc count) differ few =
    let inside = full_question from line Inside in
    let outside = full_question from line Outside in
    let rest = flat_map (both_questions line) (range_with_len (from + 1) count) in
    let later = line_differs sheet line (from + 1) count differ (omega (arith, few)) in
    let none_in = none_later sheet inside line (from + 1) count differ (omega arith)
    (omega (arith, few)) in
    let none_out = none_later sheet outside line (from + 1) count differ (omega arith)
    (omega (arith, few)) in
    and_from (not (same_row sheet inside outside || list_any (same_row sheet inside) rest))
    (not (list_any (same_row sheet outside) rest) && are_different (same_row sheet) rest)
    (ap not (or_none (same_row sheet inside outside) (list_any (same_row sheet inside) rest)
    (claims_apart sheet inside outside refl) none_in))
    (and_from (not (list_any (same_row sheet outside) rest)) (are_different (same_row sheet) rest)
    (ap not none_out) later)

-- none about another line has the row of one
none_of_line : (sheet : Sheet) (question : Question) (line from count : ℕ)
    → question.line < 2 ^ 64 → line < 2 ^ 64 → (line ≡ question.line → ⊥)
    → list_any (same_row sheet question)
    (flat_map (both_questions line) (range_with_len from count)) ≡ false
none_of_line sheet question line from zero small few apart = refl
none_of_line sheet question line from (suc count) small few apart =
    or_none (same_row sheet question (full_question from line Inside))
    (same_row sheet question (full_question from line Outside)
    || list_any (same_row sheet question)
    (flat_map (both_questions line) (range_with_len (from + 1) count)))
    (lines_apart sheet question (full_question from line Inside) small few apart)
    (or_none (same_row sheet question (full_question from line Outside))
    (list_any (same_row sheet question)
    (flat_map (both_questions line) (range_with_len (from + 1) count)))
    (lines_apart sheet question (full_question from line Outside) small few apart)
    (none_of_line sheet question line (from + 1) count small few apart))

-- ---- all questions

line_small : (clubs line : ℕ) → clubs ≤ most_clubs → is_line clubs line ≡ true → line < 2 ^ 64
line_small clubs line few may =
    let below = ltb-true line clubs (and_parts (nat_le 1 line) (nat_lt line clubs) may).1 in
    omega (arith, below, few)

-- none about other lines has the row of one
none_of_lines : (sheet : Sheet) (question : Question) (clubs : ℕ) (lines : List ℕ)
    → clubs ≤ most_clubs → question.line < 2 ^ 64 → list_all (is_line clubs) lines ≡ true
    → list_any (nat_eq question.line) lines ≡ false
    → list_any (same_row sheet question) (flat_map (questions_of_line clubs) lines) ≡ false
unfolding questions_of_line
none_of_lines sheet question clubs [] few small may none = refl
none_of_lines sheet question clubs (line ∷ lines) few small may none =
    let parts = and_parts (is_line clubs line) (list_all (is_line clubs) lines) may in
    let apart = or_parts (nat_eq question.line line) (list_any (nat_eq question.line) lines) none in
    list_any-append (same_row sheet question) (questions_of_line clubs line)
    (flat_map (questions_of_line clubs) lines)
    ∙ or_none (list_any (same_row sheet question) (questions_of_line clubs line))
    (list_any (same_row sheet question) (flat_map (questions_of_line clubs) lines))
    (none_of_line sheet question line 0 clubs small (line_small clubs line few parts.0)
    (λ same. eqb-false question.line line apart.0 (sym same)))
    (none_of_lines sheet question clubs lines few small parts.1 apart.1)

-- so it is with each question about a line
each_apart : (sheet : Sheet) (others : List Question) (line from count : ℕ)
    → ((question : Question) → question.line ≡ line
    → list_any (same_row sheet question) others ≡ false)
    → list_all (λ question. not (list_any (same_row sheet question) others))
    (flat_map (both_questions line) (range_with_len from count)) ≡ true
each_apart sheet others line from zero apart = refl
each_apart sheet others line from (suc count) apart =
    let test : Question → Bool = λ question. not (list_any (same_row sheet question) others) in
    let rest = flat_map (both_questions line) (range_with_len (from + 1) count) in
    and_from (test (full_question from line Inside))
    (test (full_question from line Outside) && list_all test rest)
    (ap not (apart (full_question from line Inside) refl))
    (and_from (test (full_question from line Outside)) (list_all test rest)
    (ap not (apart (full_question from line Outside) refl))
    (each_apart sheet others line (from + 1) count apart))

lines_differ : (sheet : Sheet) (lines : List ℕ) → length sheet.clubs ≤ most_clubs
    → are_different same_name sheet.clubs ≡ true
    → list_all (is_line (length sheet.clubs)) lines ≡ true → are_different nat_eq lines ≡ true
    → are_different (same_row sheet) (flat_map (questions_of_line (length sheet.clubs)) lines)
    ≡ true
unfolding questions_of_line
lines_differ sheet [] few names may differ = refl
lines_differ sheet (line ∷ lines) few names may differ =
    let clubs = length sheet.clubs in
    let parts = and_parts (is_line clubs line) (list_all (is_line clubs) lines) may in
    let apart = and_parts (not (list_any (nat_eq line) lines)) (are_different nat_eq lines)
    differ in
    let others = flat_map (questions_of_line clubs) lines in
    different-append (same_row sheet) (questions_of_line clubs line) others
    (line_differs sheet line 0 clubs names (omega arith))
    (lines_differ sheet lines few names parts.1 apart.1)
    (each_apart sheet others line 0 clubs (λ question is.
    none_of_lines sheet question clubs lines few
    (rw is (line_small clubs line few parts.0)) parts.1
    (rw is (not_so (list_any (nat_eq line) lines) apart.0))))

pub questions_have_own_rows : (sheet : Sheet) → IsWithinLimits sheet
    → HaveOwnRows sheet (questions_of sheet)
questions_have_own_rows sheet limits =
    lines_differ sheet sheet.lines limits.most_clubs limits.different_names limits.lines
    limits.different_lines
