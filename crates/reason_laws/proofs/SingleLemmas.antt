-- In a zone in which each fixture has one option every sum has one value, so that it is known how
-- any two clubs stand: as the ranking has it.
use Rattle.std.proofs.Common.{◌≡◌, ◌≢◌, ℕ, zero, suc, ℤ, pos, neg_ℤ, Bool, true, false, ◌&&◌, ◌||◌}
use Rattle.std.proofs.Common.{◌==◌, cond, List, [], ◌∷◌, length, filter, Ordering, refl, sym, ap}
use Rattle.std.specs.Prelude.{int_lt}
use Rattle.std.specs.List.{list_all}
use Rattle.std.proofs.lemmas.Bool.{false≢true, and_parts, and_from}
use Rattle.std.proofs.lemmas.Bool.Decides.{Decides-int_eq}
use Rattle.league_core.specs.declared.sheet.Sheet.{Sheet}
use Rattle.league_core.specs.declared.sheet.Order.{Order}
use Rattle.league_core.specs.declared.sheet.Order.TheVariants.{HeadFirst, OverallFirst}
use Rattle.league_core.specs.declared.sheet.Fixture.{Fixture}
use Rattle.league_core.specs.declared.season.Score.{Score}
use Rattle.league_core.specs.declared.sure.Sure.{Sure}
use Rattle.league_core.specs.declared.sure.Sure.TheVariants.{Above, Below, Level, Unknown}
use Rattle.league_core.specs.declared.zone.Literal.{Literal}
use Rattle.league_core.specs.game.Results.{Results}
use Rattle.league_core.specs.game.Sums.{Worth, match_points, goal_difference, goals, away_goals}
use Rattle.league_core.specs.game.Sums.{wins, away_wins, worth_to, worth_among}
use Rattle.league_core.specs.game.Ahead.{rank_of}
use Rattle.league_core.specs.inside.LotsFor.{order_without_lots}
use Rattle.league_core.specs.search.Options.{options_in, has_one_score, has_one_outcome, is_single}
use Rattle.league_core.specs.search.Options.{IsInBox}
use Rattle.league_core.specs.search.PointRanges.{Range, range_from, points_range}
use Rattle.league_core.specs.search.SureOrder.{has_one_value, sure_by_range, sure_then}
use Rattle.league_core.specs.search.SureOrder.{sure_by_ranges, is_level, is_apart, range_over}
use Rattle.league_core.specs.search.SureOrder.{range_among, record_ranges, overall_ranges}
use Rattle.league_core.specs.search.SureOrder.{by_record_ranges, by_overall_ranges, is_surely_in}
use Rattle.league_core.specs.search.SureOrder.{is_surely_out, are_all_sure, sure_within}
use Rattle.league_core.specs.search.SureOrder.{first_sum_ranges, by_first_sum_ranges}
use Rattle.league_core.specs.search.SureOrder.{is_surely_level_overall, is_surely_apart_overall}
use Rattle.league_core.specs.search.SureOrder.{are_all_sure_overall, surely_level_overall, sure_in}
use Rattle.league_core.specs.search.SureOrder.{sure_by, sure_by_points, level_on_points, sure_order}
use Rattle.league_core.specs.search.Splits.{are_outcomes_fixed}
use Rattle.reason_laws.specs.inside.SureLaws.{sure_of}
use Rattle.reason_laws.proofs.FixedLemmas.{range_from-alike, scores_alike, one_score-outcome}
use Rattle.reason_laws.proofs.RangeOrderLemmas.{Agrees}
use Rattle.reason_laws.proofs.SureOrderLemmas.{points_fixed, range_clear, order_agrees}
use Rattle.league_core.proofs.plain.Lists.{list_all-weaker, list_all-each}

-- each of some ranges has one value
abbrev HaveOneValue : List Range → Type 0
HaveOneValue ranges = list_all has_one_value ranges ≡ true

then_clear : (sure next : Sure) → sure ≢ Unknown → next ≢ Unknown → sure_then sure next ≢ Unknown
then_clear Above next known more unknown = let e : Above ≡ Unknown = unknown in cc
then_clear Below next known more unknown = let e : Below ≡ Unknown = unknown in cc
then_clear Level next known more unknown = more unknown
then_clear Unknown next known more unknown = known refl

ranges_clear : (rivals clubs : List Range) → HaveOneValue rivals → HaveOneValue clubs
    → sure_by_ranges rivals clubs ≢ Unknown
ranges_clear [] clubs one other unknown = let e : Level ≡ Unknown = unknown in cc
ranges_clear (rival ∷ rivals) [] one other unknown = let e : Level ≡ Unknown = unknown in cc
ranges_clear (rival ∷ rivals) (club ∷ clubs) one other unknown =
    let mine = and_parts (has_one_value rival) (list_all has_one_value rivals) one in
    let theirs = and_parts (has_one_value club) (list_all has_one_value clubs) other in
    then_clear (sure_by_range rival club) (sure_by_ranges rivals clubs)
    (range_clear rival club mine.0 theirs.0) (ranges_clear rivals clubs mine.1 theirs.1) unknown

-- two lists of single values are level, or a value of the one misses that of the other
level_or_apart : (rivals clubs : List Range) → HaveOneValue rivals → HaveOneValue clubs
    → (is_level (sure_by_ranges rivals clubs) || is_apart rivals clubs) ≡ true
level_or_apart [] clubs one other = refl
level_or_apart (rival ∷ rivals) [] one other = refl
level_or_apart (rival ∷ rivals) (club ∷ clubs) one other =
    let mine = and_parts (has_one_value rival) (list_all has_one_value rivals) one in
    let theirs = and_parts (has_one_value club) (list_all has_one_value clubs) other in
    by_tests (int_lt club.greatest rival.least) (int_lt rival.greatest club.least)
    (has_one_value rival && has_one_value club)
    (and_from (has_one_value rival) (has_one_value club) mine.0 theirs.0)
    (level_or_apart rivals clubs mine.1 theirs.1)
  where
    by_tests : (above below level : Bool) → level ≡ true
        → (is_level (sure_by_ranges rivals clubs) || is_apart rivals clubs) ≡ true
        → (is_level (sure_then (cond above Above (cond below Below (cond level Level Unknown)))
        (sure_by_ranges rivals clubs)) || (above || below || is_apart rivals clubs)) ≡ true
    by_tests true below level is rest = refl
    by_tests false true level is rest = refl
    by_tests false false true is rest = rest
    by_tests false false false is rest = absurd (false≢true is)

one_range : (value : Fixture → Score → ℤ) (matches : List Fixture) (options : List (List Score))
    → list_all has_one_score options ≡ true
    → has_one_value (range_from value matches options) ≡ true
one_range value matches options one =
    (Decides-int_eq (range_from value matches options).least
    (range_from value matches options).greatest).1
    (range_from-alike value has_one_score matches options
    (λ match scores. scores_alike (value match) scores) one)

-- so have the ranges of a club's record, and those of its sums over all matches
one_record : (sheet : Sheet) (options : List (List Score)) (group : List ℕ) (club : ℕ)
    → list_all has_one_score options ≡ true → HaveOneValue (record_ranges sheet options group club)
one_record sheet options group club one =
    all_three (among match_points) (among goal_difference) (among goals)
  where
    among : (worth : Worth) → has_one_value (range_among group worth sheet options club) ≡ true
    among worth = one_range (worth_among group worth club) sheet.fixtures options one

    all_three : {a b c : Bool} → a ≡ true → b ≡ true → c ≡ true → (a && (b && (c && true))) ≡ true
    all_three {a} {b} {c} p q r = and_from a _ p (and_from b _ q (and_from c true r refl))

one_overall : (sheet : Sheet) (options : List (List Score)) (club : ℕ)
    → list_all has_one_score options ≡ true → HaveOneValue (overall_ranges sheet options club)
one_overall sheet options club one =
    all_six (over goal_difference) (over goals) (over away_goals) (over wins) (over away_wins)
    ((Decides-int_eq (neg_ℤ (pos (rank_of sheet club))) (neg_ℤ (pos (rank_of sheet club)))).1 refl)
  where
    over : (worth : Worth) → has_one_value (range_over worth sheet options club) ≡ true
    over worth = one_range (worth_to worth club) sheet.fixtures options one

    all_six : {a b c d e f : Bool} → a ≡ true → b ≡ true → c ≡ true → d ≡ true → e ≡ true
        → f ≡ true → (a && (b && (c && (d && (e && (f && true)))))) ≡ true
    all_six {a} {b} {c} {d} {e} {f} p q r s t u =
        and_from a _ p
        (and_from b _ q
        (and_from c _ r (and_from d _ s (and_from e _ t (and_from f true u refl)))))

-- so of each club it is known whether it shares the club's record
all_sure : (sheet : Sheet) (options : List (List Score)) (group : List ℕ) (club : ℕ)
    → list_all has_one_score options ≡ true → are_all_sure sheet options group club ≡ true
all_sure sheet options group club one =
    list_all-each (λ other. is_surely_in sheet options group club other
    || is_surely_out sheet options group club other) group
    (λ other. level_or_apart (record_ranges sheet options group other)
    (record_ranges sheet options group club) (one_record sheet options group other one)
    (one_record sheet options group club one))

chosen_clear : (sure whole : Bool) (here further : Sure) → sure ≡ true → here ≢ Unknown
    → further ≢ Unknown
    → elim sure [ false ↦ Unknown | true ↦ elim whole [ true ↦ here | false ↦ further ] ] ≢ Unknown
chosen_clear true true here further sure known more = known
chosen_clear true false here further sure known more = more
chosen_clear false whole here further sure known more = absurd (false≢true sure)

within_clear : (times : ℕ) (sheet : Sheet) (options : List (List Score)) (group : List ℕ)
    (rival club : ℕ) → list_all has_one_score options ≡ true
    → sure_within times sheet options group rival club ≢ Unknown
within_clear zero sheet options group rival club one unknown =
    let e : Level ≡ Unknown = unknown in cc
within_clear (suc times) sheet options group rival club one unknown =
    let level = filter (is_surely_in sheet options group club) group in
    then_clear (by_record_ranges sheet options group rival club) _
    (ranges_clear (record_ranges sheet options group rival)
    (record_ranges sheet options group club) (one_record sheet options group rival one)
    (one_record sheet options group club one))
    (chosen_clear (are_all_sure sheet options group club) (length level == length group)
    (by_overall_ranges sheet options rival club)
    (sure_within times sheet options level rival club)
    (all_sure sheet options group club one)
    (ranges_clear (overall_ranges sheet options rival) (overall_ranges sheet options club)
    (one_overall sheet options rival one) (one_overall sheet options club one))
    (within_clear times sheet options level rival club one))
    unknown

-- so have difference and goals over all matches
one_first_sums : (sheet : Sheet) (options : List (List Score)) (club : ℕ)
    → list_all has_one_score options ≡ true → HaveOneValue (first_sum_ranges sheet options club)
one_first_sums sheet options club one =
    both (over goal_difference) (over goals)
  where
    over : (worth : Worth) → has_one_value (range_over worth sheet options club) ≡ true
    over worth = one_range (worth_to worth club) sheet.fixtures options one

    both : {a b : Bool} → a ≡ true → b ≡ true → (a && (b && true)) ≡ true
    both {a} {b} p q = and_from a _ p (and_from b true q refl)

if_sure_clear : (sure : Bool) (further : Sure) → sure ≡ true → further ≢ Unknown
    → elim sure [ false ↦ Unknown | true ↦ further ] ≢ Unknown
if_sure_clear true further sure more = more
if_sure_clear false further sure more = absurd (false≢true sure)

by_clear : (order : Order) (sheet : Sheet) (options : List (List Score)) (group : List ℕ)
    (rival club : ℕ) → list_all has_one_score options ≡ true
    → sure_by order sheet options group rival club ≢ Unknown
by_clear HeadFirst sheet options group rival club one =
    within_clear (length group) sheet options group rival club one
by_clear OverallFirst sheet options group rival club one =
    let level = surely_level_overall sheet options group club in
    then_clear (by_first_sum_ranges sheet options rival club) _
    (ranges_clear (first_sum_ranges sheet options rival) (first_sum_ranges sheet options club)
    (one_first_sums sheet options rival one) (one_first_sums sheet options club one))
    (if_sure_clear (are_all_sure_overall sheet options group club)
    (sure_in sheet options level rival club)
    (list_all-each (λ other. is_surely_level_overall sheet options club other
    || is_surely_apart_overall sheet options club other) group
    (λ other. level_or_apart (first_sum_ranges sheet options other)
    (first_sum_ranges sheet options club) (one_first_sums sheet options other one)
    (one_first_sums sheet options club one)))
    (within_clear (length level) sheet options level rival club one))

-- one option has one outcome
pub single_fixed : (sheet : Sheet) (season : Results) (zone : List Literal)
    → is_single sheet season zone ≡ true → are_outcomes_fixed sheet season zone ≡ true
unfolding is_single
single_fixed sheet season zone single =
    list_all-weaker has_one_score has_one_outcome
    (options_in sheet season zone) one_score-outcome single

-- it is never unknown how two clubs stand
pub order_clear : (sheet : Sheet) (season : Results) (zone : List Literal) (rival club : ℕ)
    → is_single sheet season zone ≡ true → sure_order sheet season zone rival club ≢ Unknown
unfolding sure_order is_single
order_clear sheet season zone rival club single =
    let options = options_in sheet season zone in
    let group = level_on_points sheet season options club in
    let fixed = single_fixed sheet season zone single in
    then_clear (sure_by_points sheet season options rival club)
    (sure_by sheet.order sheet options group rival club)
    (range_clear (points_range sheet season options (rival ∷ []))
    (points_range sheet season options (club ∷ [])) (points_fixed sheet season zone rival fixed)
    (points_fixed sheet season zone club fixed))
    (by_clear sheet.order sheet options group rival club single)

-- what is known and agrees with a comparison is that comparison
known_is : (sure : Sure) (order : Ordering) → sure ≢ Unknown → Agrees sure order
    → sure ≡ sure_of order
known_is Above order known is = sym (ap sure_of is)
known_is Below order known is = sym (ap sure_of is)
known_is Level order known is = sym (ap sure_of is)
known_is Unknown order known is = absurd (known refl)

-- so they stand as the ranking has it
pub order_is : (sheet : Sheet) (season : Results) (zone : List Literal) (finish : Results)
    (rival club : ℕ) → is_single sheet season zone ≡ true → IsInBox sheet season zone finish
    → sure_order sheet season zone rival club ≡ sure_of (order_without_lots sheet finish rival club)
order_is sheet season zone finish rival club single box =
    known_is (sure_order sheet season zone rival club) (order_without_lots sheet finish rival club)
    (order_clear sheet season zone rival club single)
    (order_agrees sheet season zone finish rival club (single_fixed sheet season zone single) box)
