-- The questions about a sheet, club by club and line by line: each one is about the sheet, and they
-- are few.
use Rattle.std.proofs.Common.{◌≡◌, ℕ, zero, suc, ◌+◌, ◌*◌, ◌<◌, ◌≤◌, true, List, [], ◌∷◌, ◌++◌}
use Rattle.std.proofs.Common.{length, refl, ap, sym, ◌∙◌, arith, append_assoc, length-append}
use Rattle.std.proofs.Common.{nat_lt, nat_le}
use Rattle.std.specs.Prelude.{All}
use Rattle.std.specs.List.{flat_map, list_all, range_with_len}
use Rattle.std.proofs.lemmas.Bool.{and_parts, ltb-true, leb-true}
use Rattle.std.proofs.lemmas.List.{flat_map_more}
use Rattle.std.proofs.lemmas.List.Elements.{All-nil, All-cons, All-append}
use Rattle.league_core.specs.declared.sheet.Sheet.{Sheet}
use Rattle.league_core.specs.declared.question.Claim.{Claim}
use Rattle.league_core.specs.declared.question.Claim.TheVariants.{Inside, Outside}
use Rattle.league_core.specs.declared.question.Question.{Question}
use Rattle.league_core.specs.game.Sheets.{IsWithinLimits, is_line}
use Rattle.league_core.specs.game.Questions.{IsQuestionOf, full_question}
use Rattle.answer_rows.specs.AskedQuestions.{both_questions, questions_of_line, questions_of}
use Rattle.league_core.proofs.plain.Runs.{range_with_len-suc}

-- two questions about the next club come after those so far
pub line-push : (before : List Question) (line club : ℕ)
    → (before ++ questions_of_line club line) ++ both_questions line club
    ≡ before ++ questions_of_line (club + 1) line
unfolding questions_of_line
line-push before line club =
    flat_map_more (both_questions line) before (range_with_len 0 club) club
    ∙ ap (λ clubs. before ++ flat_map (both_questions line) clubs) (sym (range_with_len-suc club))

-- so it is after two pushes
pub pair-push : (start before after last : List Question) (line club : ℕ)
    (inside outside : Question) → before ≡ start ++ questions_of_line club line
    → after ≡ before ++ inside ∷ [] → last ≡ after ++ outside ∷ []
    → inside ≡ full_question club line Inside → outside ≡ full_question club line Outside
    → last ≡ start ++ questions_of_line (club + 1) line
pair-push start before after last line club inside outside so_far one two in_is out_is =
    two ∙ ap (λ qs. qs ++ outside ∷ []) one ∙ append_assoc before (inside ∷ []) (outside ∷ [])
    ∙ ap (λ q. before ++ q ∷ outside ∷ []) in_is
    ∙ ap (λ q. before ++ full_question club line Inside ∷ q ∷ []) out_is
    ∙ ap (λ qs. qs ++ both_questions line club) so_far ∙ line-push start line club

-- the questions about a club and a line of the sheet are about the sheet
both_are_asked : (sheet : Sheet) (line club : ℕ) → club < length sheet.clubs
    → is_line (length sheet.clubs) line ≡ true → All (IsQuestionOf sheet) (both_questions line club)
both_are_asked sheet line club inside may =
    let parts = and_parts (nat_le 1 line) (nat_lt line (length sheet.clubs)) may in
    let least : 1 ≤ line = leb-true 1 line parts.0 in
    let most : line < length sheet.clubs = ltb-true line (length sheet.clubs) parts.1 in
    let asked : (claim : Claim) → IsQuestionOf sheet (full_question club line claim) =
    λ claim. record { club = inside; least_line = least; most_line = most } in
    All-cons (IsQuestionOf sheet) (full_question club line Inside)
    (full_question club line Outside ∷ []) (asked Inside)
    (All-cons (IsQuestionOf sheet) (full_question club line Outside) [] (asked Outside)
    (All-nil (IsQuestionOf sheet)))

-- so are those about some clubs and a line
clubs_are_asked : (sheet : Sheet) (line from count : ℕ) → from + count ≤ length sheet.clubs
    → is_line (length sheet.clubs) line ≡ true
    → All (IsQuestionOf sheet) (flat_map (both_questions line) (range_with_len from count))
clubs_are_asked sheet line from zero few may = All-nil (IsQuestionOf sheet)
clubs_are_asked sheet line from (suc count) few may =
    All-append (IsQuestionOf sheet) (both_questions line from)
    (flat_map (both_questions line) (range_with_len (from + 1) count))
    (both_are_asked sheet line from (omega (arith, few)) may)
    (clubs_are_asked sheet line (from + 1) count (omega (arith, few)) may)

-- so are those about some lines
lines_are_asked : (sheet : Sheet) (lines : List ℕ)
    → list_all (is_line (length sheet.clubs)) lines ≡ true
    → All (IsQuestionOf sheet) (flat_map (questions_of_line (length sheet.clubs)) lines)
unfolding questions_of_line
lines_are_asked sheet [] may = All-nil (IsQuestionOf sheet)
lines_are_asked sheet (line ∷ lines) may =
    let clubs = length sheet.clubs in
    let parts = and_parts (is_line clubs line) (list_all (is_line clubs) lines) may in
    All-append (IsQuestionOf sheet) (questions_of_line clubs line)
    (flat_map (questions_of_line clubs) lines)
    (clubs_are_asked sheet line 0 clubs (omega arith) parts.0)
    (lines_are_asked sheet lines parts.1)

-- all questions are about the sheet
pub all_are_asked : (sheet : Sheet) → IsWithinLimits sheet
    → All (IsQuestionOf sheet) (questions_of sheet)
all_are_asked sheet limits = lines_are_asked sheet sheet.lines limits.lines

-- two questions a club
length-clubs : (line from count : ℕ)
    → length (flat_map (both_questions line) (range_with_len from count)) ≡ 2 * count
length-clubs line from zero = refl
length-clubs line from (suc count) = omega (arith, length-clubs line (from + 1) count)

-- for each line
length-lines : (clubs : ℕ) (lines : List ℕ)
    → length (flat_map (questions_of_line clubs) lines) ≡ length lines * (2 * clubs)
unfolding questions_of_line
length-lines clubs [] = omega arith
length-lines clubs (line ∷ lines) =
    let asked = flat_map (both_questions line) (range_with_len 0 clubs) in
    let rest = flat_map (questions_of_line clubs) lines in
    let here : length asked ≡ 2 * clubs = length-clubs line 0 clubs in
    let there : length rest ≡ length lines * (2 * clubs) = length-lines clubs lines in
    length-append asked rest ∙ omega (arith, here, there)

-- at most four lines and twenty-four clubs
few_of : (lines clubs asked : ℕ) → asked ≡ lines * (2 * clubs) → lines ≤ 4 → clubs ≤ 24 → asked ≤
    192
few_of lines clubs asked is few_lines few_clubs = grind arith

-- the questions are few
pub all_are_few : (sheet : Sheet) → IsWithinLimits sheet → length (questions_of sheet) ≤ 192
all_are_few sheet limits =
    few_of (length sheet.lines) (length sheet.clubs) (length (questions_of sheet))
    (length-lines (length sheet.clubs) sheet.lines) limits.most_lines limits.most_clubs
