-- Rounds of the criteria: what tables of records say, and how the next round goes on.
use Rattle.std.proofs.Common.{◌≡◌, ◌≢◌, ℕ, zero, suc, ◌-◌, Bool, true, false, ◌||◌, ◌==◌}
use Rattle.std.proofs.Common.{List, [], ◌∷◌, ◌<◌, length, drop, get_or, filter, refl, sym, ap, ◌∙◌}
use Rattle.std.proofs.Common.{arith}
use Rattle.std.specs.List.{list_all}
use Rattle.std.proofs.lemmas.Bool.{eq-eqb, ne_eqb}
use Rattle.league_core.specs.declared.sheet.Sheet.{Sheet}
use Rattle.league_core.specs.declared.season.Score.{Score}
use Rattle.league_core.specs.declared.sure.Sure.{Sure}
use Rattle.league_core.specs.declared.sure.Sure.TheVariants.{Unknown}
use Rattle.league_core.specs.search.PointRanges.{Range}
use Rattle.league_core.specs.search.SureOrder.{sure_then, sure_by_ranges, record_ranges}
use Rattle.league_core.specs.search.SureOrder.{by_record_ranges, by_overall_ranges, is_surely_in}
use Rattle.league_core.specs.search.SureOrder.{are_all_sure, sure_within, is_level, is_apart}
use Rattle.league_core.specs.search.SureOrder.{sure_in, first_sum_ranges, by_first_sum_ranges}
use Rattle.league_core.specs.search.SureOrder.{sure_by, are_all_sure_overall, surely_level_overall}
use Rattle.league_core.specs.declared.sheet.Order.TheVariants.{OverallFirst}
use Rattle.league_core.specs.search.SureOrder.{range_over, sure_by_range}
use Rattle.league_core.proofs.SureLemmas.{sure_then-level}
use Rattle.check_bounds.specs.declared.term.Measure.{Measure}
use Rattle.check_bounds.specs.declared.int_range.IntRange.{IntRange}
use Rattle.check_bounds.specs.inside.Terms.{worth_by}
use Rattle.check_bounds.specs.inside.IntRanges.{as_sum_range, range_at}
use Rattle.check_bounds.specs.inside.Walks.{sum_ranges}
use Rattle.check_bounds.specs.inside.Tables.{HoldRanges}
use Rattle.check_bounds.specs.inside.Steps.{sure_by_tables, is_level_by_tables, is_sure_by_tables}

-- what tables say is what their ranges say
pub by_tables-is : (tables : List (List IntRange)) (ranges : ℕ → List Range) (club rival : ℕ)
    → HoldRanges tables ranges
    → sure_by_tables tables club rival ≡ sure_by_ranges (ranges rival) (ranges club)
by_tables-is tables ranges club rival hold = λ i. sure_by_ranges (hold rival i) (hold club i)

pub level_by_tables-is : (tables : List (List IntRange)) (ranges : ℕ → List Range) (club : ℕ)
    → HoldRanges tables ranges
    → is_level_by_tables tables club ≡ (λ other. is_level
    (sure_by_ranges (ranges other) (ranges club)))
level_by_tables-is tables ranges club hold =
    λ i other. is_level (sure_by_ranges (hold other i) (hold club i))

pub sure_by_tables-is : (tables : List (List IntRange)) (ranges : ℕ → List Range) (club : ℕ)
    → HoldRanges tables ranges
    → is_sure_by_tables tables club ≡ (λ other. is_level
    (sure_by_ranges (ranges other) (ranges club)) || is_apart (ranges other) (ranges club))
sure_by_tables-is tables ranges club hold =
    λ i other. is_level (sure_by_ranges (hold other i) (hold club i))
    || is_apart (hold other i) (hold club i)

-- how a round goes on after the records
abbrev pub rest_of_round : Bool → Bool → Sure → Sure → Sure
rest_of_round sure whole overall next =
    elim sure [
      | false ↦ Unknown
      | true ↦ elim whole [
        | true ↦ overall
        | false ↦ next
      ]
    ]

round_is : (times : ℕ) (sheet : Sheet) (corners : List (List Score)) (group : List ℕ)
    (rival club : ℕ) (sure whole : Bool) → are_all_sure sheet corners group club ≡ sure
    → (length (filter (is_surely_in sheet corners group club) group) == length group) ≡ whole
    → sure_within (suc times) sheet corners group rival club
    ≡ sure_then (by_record_ranges sheet corners group rival club)
    (rest_of_round sure whole (by_overall_ranges sheet corners rival club)
    (sure_within times sheet corners (filter (is_surely_in sheet corners group club) group) rival
    club))
round_is times sheet corners group rival club sure whole all same =
    let record_says = by_record_ranges sheet corners group rival club in
    let overall = by_overall_ranges sheet corners rival club in
    let level = filter (is_surely_in sheet corners group club) group in
    let next = sure_within times sheet corners level rival club in
    ap (λ b. sure_then record_says
    (rest_of_round b (length level == length group) overall next)) all
    ∙ ap (λ b. sure_then record_says (rest_of_round sure b overall next)) same

-- if it is not sure who shares the record, nothing is
pub unsure_round : (times : ℕ) (sheet : Sheet) (corners : List (List Score))
    (tables : List (List IntRange)) (group : List ℕ) (rival club : ℕ) → times ≢ 0
    → HoldRanges tables (record_ranges sheet corners group)
    → list_all (is_sure_by_tables tables club) group ≡ false
    → sure_then (sure_by_tables tables club rival) Unknown
    ≡ sure_within times sheet corners group rival club
unsure_round zero sheet corners tables group rival club some hold unsure = absurd (some refl)
unsure_round (suc times) sheet corners tables group rival club some hold unsure =
    ap (λ s. sure_then s Unknown)
    (by_tables-is tables (record_ranges sheet corners group) club rival hold)
    ∙ sym (round_is times sheet corners group rival club false
    (length (filter (is_surely_in sheet corners group club) group) == length group)
    (ap (λ test. list_all test group)
    (sym (sure_by_tables-is tables (record_ranges sheet corners group) club hold)) ∙ unsure) refl)

-- if all share it, the sums over all matches decide
pub last_round : (times : ℕ) (sheet : Sheet) (corners : List (List Score))
    (tables : List (List IntRange)) (group level : List ℕ) (rival club : ℕ) → times ≢ 0
    → HoldRanges tables (record_ranges sheet corners group)
    → list_all (is_sure_by_tables tables club) group ≡ true
    → level ≡ filter (is_level_by_tables tables club) group → length level ≡ length group
    → sure_then (sure_by_tables tables club rival) (by_overall_ranges sheet corners rival club)
    ≡ sure_within times sheet corners group rival club
last_round zero sheet corners tables group level rival club some hold sure level_is same =
    absurd (some refl)
last_round (suc times) sheet corners tables group level rival club some hold sure level_is same =
    ap (λ s. sure_then s (by_overall_ranges sheet corners rival club))
    (by_tables-is tables (record_ranges sheet corners group) club rival hold)
    ∙ sym (round_is times sheet corners group rival club true true
    (ap (λ test. list_all test group)
    (sym (sure_by_tables-is tables (record_ranges sheet corners group) club hold)) ∙ sure)
    (eq-eqb (length (filter (is_surely_in sheet corners group club) group)) (length group)
    (ap (λ test. length (filter test group))
    (sym (level_by_tables-is tables (record_ranges sheet corners group) club hold))
    ∙ ap length (sym level_is) ∙ same)))

-- if fewer do, they go on among themselves
pub next_round : (times : ℕ) (sheet : Sheet) (corners : List (List Score))
    (tables : List (List IntRange)) (group level : List ℕ) (rival club : ℕ) → times ≢ 0
    → HoldRanges tables (record_ranges sheet corners group)
    → list_all (is_sure_by_tables tables club) group ≡ true
    → level ≡ filter (is_level_by_tables tables club) group → length level ≢ length group
    → sure_then (sure_by_tables tables club rival)
    (sure_within (times - 1) sheet corners level rival club)
    ≡ sure_within times sheet corners group rival club
next_round zero sheet corners tables group level rival club some hold sure level_is other =
    absurd (some refl)
next_round (suc times) sheet corners tables group level rival club some hold sure level_is other =
    let level_there = level_is ∙ ap (λ test. filter test group)
    (level_by_tables-is tables (record_ranges sheet corners group) club hold) in
    (λ i. sure_then (by_tables-is tables (record_ranges sheet corners group) club rival hold i)
    (sure_within (less i) sheet corners (level_there i) rival club))
    ∙ sym (round_is times sheet corners group rival club true false
    (ap (λ test. list_all test group)
    (sym (sure_by_tables-is tables (record_ranges sheet corners group) club hold)) ∙ sure)
    (ne_eqb (length (filter (is_surely_in sheet corners group club) group)) (length group)
    (λ e. other (ap length level_there ∙ e))))
  where
    less : suc times - 1 ≡ times
    less = omega arith

-- the first of the sums over all matches says what a table of it says, and the others what they say
pub sums_say : (sheet : Sheet) (corners : List (List Score)) (kinds later : List Measure)
    (d : Measure)
    (table : List IntRange) (club rival : ℕ) → 0 < length kinds → later ≡ drop 1 kinds
    → as_sum_range (range_at table club)
    ≡ range_over (worth_by (get_or kinds 0 d)) sheet corners club
    → as_sum_range (range_at table rival)
    ≡ range_over (worth_by (get_or kinds 0 d)) sheet corners rival
    → sure_then (sure_by_tables (table ∷ []) club rival)
    (sure_by_ranges (sum_ranges sheet corners later rival) (sum_ranges sheet corners later club))
    ≡ sure_by_ranges (sum_ranges sheet corners kinds rival) (sum_ranges sheet corners kinds club)
sums_say sheet corners [] later d table club rival some rest own there =
    absurd (omega (arith, some))
sums_say sheet corners (kind ∷ kinds) later d table club rival some rest own there =
    let first = sure_then-level _ ∙ (λ i. sure_by_range (there i) (own i)) in
    λ i. sure_then (first i) (sure_by_ranges (sum_ranges sheet corners (rest i) rival)
    (sum_ranges sheet corners (rest i) club))

-- how the second order goes on after difference and goals
abbrev pub rest_of_sums : Bool → Sure → Sure
rest_of_sums sure next =
    elim sure [
      | false ↦ Unknown
      | true ↦ next
    ]

by_sums_first : (sheet : Sheet) (corners : List (List Score)) (group : List ℕ) (rival club : ℕ)
    (sure : Bool) → are_all_sure_overall sheet corners group club ≡ sure
    → sure_by OverallFirst sheet corners group rival club
    ≡ sure_then (by_first_sum_ranges sheet corners rival club)
    (rest_of_sums sure
    (sure_in sheet corners (surely_level_overall sheet corners group club) rival club))
by_sums_first sheet corners group rival club sure all =
    ap (λ b. sure_then (by_first_sum_ranges sheet corners rival club)
    (rest_of_sums b
    (sure_in sheet corners (surely_level_overall sheet corners group club) rival club))) all

-- if it is not sure who shares them, nothing is
pub unsure_sums : (sheet : Sheet) (corners : List (List Score)) (tables : List (List IntRange))
    (group : List ℕ) (rival club : ℕ) → HoldRanges tables (first_sum_ranges sheet corners)
    → list_all (is_sure_by_tables tables club) group ≡ false
    → sure_then (sure_by_tables tables club rival) Unknown
    ≡ sure_by OverallFirst sheet corners group rival club
unsure_sums sheet corners tables group rival club hold unsure =
    ap (λ s. sure_then s Unknown)
    (by_tables-is tables (first_sum_ranges sheet corners) club rival hold)
    ∙ sym (by_sums_first sheet corners group rival club false
    (ap (λ test. list_all test group)
    (sym (sure_by_tables-is tables (first_sum_ranges sheet corners) club hold)) ∙ unsure))

-- if it is, they go on among themselves
pub sure_sums : (sheet : Sheet) (corners : List (List Score)) (tables : List (List IntRange))
    (group level : List ℕ) (rival club : ℕ) → HoldRanges tables (first_sum_ranges sheet corners)
    → list_all (is_sure_by_tables tables club) group ≡ true
    → level ≡ filter (is_level_by_tables tables club) group
    → sure_then (sure_by_tables tables club rival) (sure_in sheet corners level rival club)
    ≡ sure_by OverallFirst sheet corners group rival club
sure_sums sheet corners tables group level rival club hold sure level_is =
    (λ i. sure_then (by_tables-is tables (first_sum_ranges sheet corners) club rival hold i)
    (sure_in sheet corners ((level_is ∙ ap (λ test. filter test group)
    (level_by_tables-is tables (first_sum_ranges sheet corners) club hold)) i) rival club))
    ∙ sym (by_sums_first sheet corners group rival club true
    (ap (λ test. list_all test group)
    (sym (sure_by_tables-is tables (first_sum_ranges sheet corners) club hold)) ∙ sure))
