-- What tables of sums say of clubs is what the ranges of the definition say, step by step.
use Rattle.std.proofs.Common.{◌≡◌, ◌⊎◌, inl, inr, ℕ, ◌<◌, ◌≤◌, Bool, true, false, ◌&&◌, ◌||◌, ltb}
use Rattle.std.proofs.Common.{◌==◌, cond, List, [], ◌∷◌, length, refl, sym, ap, ◌∙◌, arith}
use Rattle.std.specs.List.{list_all}
use Rattle.std.proofs.lemmas.Bool.{cases_lt, lt-ltb, le-ltb, eq-eqb, or_right}
use Rattle.league_core.specs.declared.sheet.Sheet.{Sheet}
use Rattle.league_core.specs.declared.sheet.Order.TheVariants.{OverallFirst}
use Rattle.league_core.specs.declared.season.Score.{Score}
use Rattle.league_core.specs.declared.sure.Sure.{Sure}
use Rattle.league_core.specs.declared.sure.Sure.TheVariants.{Unknown}
use Rattle.league_core.specs.game.Sums.{has_club, worth_among}
use Rattle.league_core.specs.game.Ahead.{rank_of}
use Rattle.league_core.specs.search.SureOrder.{sure_by_ranges, sure_then, sure_by_points, is_level}
use Rattle.league_core.specs.search.SureOrder.{is_apart, record_ranges, overall_ranges}
use Rattle.league_core.specs.search.SureOrder.{first_sum_ranges, by_record_ranges}
use Rattle.league_core.specs.search.SureOrder.{by_overall_ranges, by_first_sum_ranges, is_surely_in}
use Rattle.league_core.specs.search.SureOrder.{is_surely_out, are_all_sure, is_surely_level_overall}
use Rattle.league_core.specs.search.SureOrder.{is_surely_apart_overall, are_all_sure_overall}
use Rattle.league_core.specs.search.SureOrder.{surely_level_overall, sure_in, sure_by}
use Rattle.league_core.specs.search.SureOrder.{level_on_points, sure_order}
use Rattle.league_core.specs.game.ClubSets.{clubs_below}
use Rattle.league_core.proofs.ClubSetLemmas.{clubs_below-filter_range}
use Rattle.league_core.proofs.SureLemmas.{sure_then-assoc}
use Rattle.score_box.specs.inside.ZoneBoxViews.{ZoneBoxView}
use Rattle.tie_bound.specs.declared.answer_sets.Answers.{Answers}
use Rattle.tie_bound.specs.declared.parts.Parts.TheVariants.{Record, FirstSums}
use Rattle.tie_bound.specs.declared.sums.Sums.{Sums}
use Rattle.tie_bound.specs.inside.Sums.{sums_at}
use Rattle.tie_bound.specs.inside.Boxes.{options_in_box}
use Rattle.tie_bound.specs.inside.Tables.{AreSums, AreSumsFor}
use Rattle.tie_bound.specs.inside.Answers.{record_ranges_of, first_ranges_of, overall_ranges_of}
use Rattle.tie_bound.specs.inside.Answers.{by_table, by_overall_table, is_sure_by, answer_at}
use Rattle.tie_bound.specs.inside.Answers.{AreByPoints, AreLevelIn, IsStepIn}
use Rattle.tie_bound.proofs.AnswerLemmas.{record_ranges_of-is, overall_ranges_of-is}
use Rattle.tie_bound.proofs.AnswerLemmas.{first_ranges_of-is, step_as}

-- the records by the table of a group
pub step_by_records : (sheet : Sheet) (options : List (List Score)) (club : ℕ) (group : List ℕ)
    (table : List Sums) (answers taken : Answers)
    → AreSums (worth_among group) sheet.fixtures options table
    → IsStepIn group (by_table Record table club) answers taken
    → IsStepIn group (λ rival. by_record_ranges sheet options group rival club) answers taken
step_by_records sheet options club group table answers taken are step =
    step_as group (by_table Record table club)
    (λ rival. by_record_ranges sheet options group rival club) answers taken step
    (λ rival has.
    ap (λ rs. sure_by_ranges rs (record_ranges_of (sums_at table club)))
    (record_ranges_of-is sheet options group table rival are)
    ∙ ap (sure_by_ranges (record_ranges sheet options group rival))
    (record_ranges_of-is sheet options group table club are))

-- difference and goals by a table of all matches for the group and the club
pub step_by_first_sums : (sheet : Sheet) (options : List (List Score)) (club : ℕ)
    (group : List ℕ) (table : List Sums) (answers taken : Answers)
    → AreSumsFor group club sheet.fixtures options table
    → IsStepIn group (by_table FirstSums table club) answers taken
    → IsStepIn group (λ rival. by_first_sum_ranges sheet options rival club) answers taken
step_by_first_sums sheet options club group table answers taken are step =
    step_as group (by_table FirstSums table club)
    (λ rival. by_first_sum_ranges sheet options rival club) answers taken step
    (λ rival has.
    ap (λ rs. sure_by_ranges rs (first_ranges_of (sums_at table club)))
    (first_ranges_of-is sheet options table rival (are rival (inl has)))
    ∙ ap (sure_by_ranges (first_sum_ranges sheet options rival))
    (first_ranges_of-is sheet options table club (are club (inr refl))))

-- the sums over all matches, and the ranks
pub step_by_overall : (sheet read : Sheet) (options : List (List Score)) (club : ℕ)
    (group : List ℕ) (table : List Sums) (taken last : Answers) → read ≡ sheet
    → AreSumsFor group club sheet.fixtures options table
    → IsStepIn group (by_overall_table read table club) taken last
    → IsStepIn group (λ rival. by_overall_ranges sheet options rival club) taken last
step_by_overall sheet read options club group table taken last same are step =
    step_as group (by_overall_table read table club)
    (λ rival. by_overall_ranges sheet options rival club) taken last step
    (λ rival has.
    ap (λ s. by_overall_table s table club rival) same
    ∙ ap (λ rs. sure_by_ranges rs (overall_ranges_of (sums_at table club) (rank_of sheet club)))
    (overall_ranges_of-is sheet options table rival (are rival (inl has)))
    ∙ ap (sure_by_ranges (overall_ranges sheet options rival))
    (overall_ranges_of-is sheet options table club (are club (inr refl))))

-- it is sure by the table of a group who shares the club's record there
pub all_sure-records : (sheet : Sheet) (options : List (List Score)) (group : List ℕ)
    (table : List Sums) (club : ℕ) → AreSums (worth_among group) sheet.fixtures options table
    → list_all (is_sure_by Record table club) group ≡ are_all_sure sheet options group club
all_sure-records sheet options group table club are =
    ap (λ test. list_all test group) (λ i other. same other i)
  where
    same : (other : ℕ) → is_sure_by Record table club other
        ≡ (is_surely_in sheet options group club other
        || is_surely_out sheet options group club other)
    same other =
        ap (λ rs. is_level (sure_by_ranges rs (record_ranges_of (sums_at table club)))
        || is_apart rs (record_ranges_of (sums_at table club)))
        (record_ranges_of-is sheet options group table other are)
        ∙ ap (λ rs. is_level (sure_by_ranges (record_ranges sheet options group other) rs)
        || is_apart (record_ranges sheet options group other) rs)
        (record_ranges_of-is sheet options group table club are)

-- two tests that agree on each club of a group
all_agree : (test other : ℕ → Bool) (group : List ℕ)
    → ((x : ℕ) → has_club group x ≡ true → test x ≡ other x)
    → list_all test group ≡ list_all other group
all_agree test other [] same = refl
all_agree test other (club ∷ group) same =
    ap (λ b. b && list_all test group)
    (same club (ap (λ b. b || has_club group club) (eq-eqb club club refl)))
    ∙ ap (λ b. other club && b)
    (all_agree test other group (λ x has. same x (or_right (club == x) (has_club group x) has)))

-- and by a table of all matches who shares the club's difference and goals
pub all_sure-first_sums : (sheet : Sheet) (options : List (List Score)) (group : List ℕ)
    (table : List Sums) (club : ℕ) → AreSumsFor group club sheet.fixtures options table
    → list_all (is_sure_by FirstSums table club) group
    ≡ are_all_sure_overall sheet options group club
all_sure-first_sums sheet options group table club are =
    all_agree (is_sure_by FirstSums table club)
    (λ other. is_surely_level_overall sheet options club other
    || is_surely_apart_overall sheet options club other) group same
  where
    same : (other : ℕ) → has_club group other ≡ true → is_sure_by FirstSums table club other
        ≡ (is_surely_level_overall sheet options club other
        || is_surely_apart_overall sheet options club other)
    same other has =
        ap (λ rs. is_level (sure_by_ranges rs (first_ranges_of (sums_at table club)))
        || is_apart rs (first_ranges_of (sums_at table club)))
        (first_ranges_of-is sheet options table other (are other (inl has)))
        ∙ ap (λ rs. is_level (sure_by_ranges (first_sum_ranges sheet options other) rs)
        || is_apart (first_sum_ranges sheet options other) rs)
        (first_ranges_of-is sheet options table club (are club (inr refl)))

-- with difference and goals first: nothing more is sure if it is not sure who shares them
abbrev after_first_sums : Sheet → List (List Score) → List ℕ → ℕ → ℕ → Bool → Sure
after_first_sums sheet options group rival club sure =
    elim sure [
      | false ↦ Unknown
      | true ↦ sure_in sheet options (surely_level_overall sheet options group club) rival club
    ]

pub overall_first_open : (sheet : Sheet) (options : List (List Score)) (club : ℕ) (group : List ℕ)
    (rival : ℕ) (answers taken last : Answers)
    → are_all_sure_overall sheet options group club ≡ false
    → answer_at taken rival
    ≡ sure_then (answer_at answers rival) (by_first_sum_ranges sheet options rival club)
    → answer_at last rival ≡ sure_then (answer_at taken rival) Unknown
    → answer_at last rival ≡ sure_then (answer_at answers rival)
    (sure_by OverallFirst sheet options group rival club)
overall_first_open sheet options club group rival answers taken last not_sure takes lasts =
    let first = by_first_sum_ranges sheet options rival club in
    lasts
    ∙ ap (λ a. sure_then a Unknown) takes
    ∙ sure_then-assoc (answer_at answers rival) first Unknown
    ∙ sym (ap (λ b. sure_then (answer_at answers rival)
    (sure_then first (after_first_sums sheet options group rival club b))) not_sure)

-- and else the criteria are taken among the clubs that share them
pub overall_first_sure : (sheet : Sheet) (options : List (List Score)) (club : ℕ)
    (group level : List ℕ) (rival : ℕ) (answers taken last : Answers)
    → are_all_sure_overall sheet options group club ≡ true
    → level ≡ surely_level_overall sheet options group club
    → answer_at taken rival
    ≡ sure_then (answer_at answers rival) (by_first_sum_ranges sheet options rival club)
    → answer_at last rival
    ≡ sure_then (answer_at taken rival) (sure_in sheet options level rival club)
    → answer_at last rival ≡ sure_then (answer_at answers rival)
    (sure_by OverallFirst sheet options group rival club)
overall_first_sure sheet options club group level rival answers taken last sure is takes lasts =
    let first = by_first_sum_ranges sheet options rival club in
    lasts
    ∙ ap (λ g. sure_then (answer_at taken rival) (sure_in sheet options g rival club)) is
    ∙ ap (λ a. sure_then a (after_first_sums sheet options group rival club true)) takes
    ∙ sure_then-assoc (answer_at answers rival) first
    (after_first_sums sheet options group rival club true)
    ∙ sym (ap (λ b. sure_then (answer_at answers rival)
    (sure_then first (after_first_sums sheet options group rival club b))) sure)

-- by points and then by the criteria within the group of all clubs on the club's points
pub sure_order-is : (box : ZoneBoxView) (club bits rival : ℕ) (answers last : Answers)
    → length box.sheet.clubs ≤ 24 → AreByPoints box club answers
    → AreLevelIn (length box.sheet.clubs) answers (clubs_below 32 bits)
    → rival < length box.sheet.clubs
    → answer_at last rival ≡ sure_then (answer_at answers rival)
    (sure_by box.sheet.order box.sheet (options_in_box box) (clubs_below 32 bits) rival club)
    → answer_at last rival ≡ sure_order box.sheet box.season box.zone rival club
unfolding sure_order
sure_order-is box club bits rival answers last few by_points level low takes =
    takes
    ∙ ap (λ a. sure_then a (sure_by box.sheet.order box.sheet (options_in_box box)
    (clubs_below 32 bits) rival
    club)) (here rival low)
    ∙ ap (λ g. sure_then (on_points rival)
    (sure_by box.sheet.order box.sheet (options_in_box box) g rival club)) same
  where
    on_points : ℕ → Sure
    on_points x = sure_by_points box.sheet box.season (options_in_box box) x club

    here : (x : ℕ) → x < length box.sheet.clubs → answer_at answers x ≡ on_points x
    here x below =
        by_points x
        ∙ ap (λ b. cond b (on_points x) Unknown) (lt-ltb x (length box.sheet.clubs) below)

    as_level : (x : ℕ) → (x < length box.sheet.clubs) ⊎ (length box.sheet.clubs ≤ x)
        → (ltb x (length box.sheet.clubs) && is_level (answer_at answers x))
        ≡ (ltb x (length box.sheet.clubs) && is_level (on_points x))
    as_level x (inl below) =
        ap (λ a. ltb x (length box.sheet.clubs) && is_level a) (here x below)
    as_level x (inr past) =
        ap (λ b. b && is_level (answer_at answers x)) (le-ltb x (length box.sheet.clubs) past)
        ∙ sym (ap (λ b. b && is_level (on_points x)) (le-ltb x (length box.sheet.clubs) past))

    same : clubs_below 32 bits ≡ level_on_points box.sheet box.season (options_in_box box) club
    same =
        clubs_below-filter_range 32 bits (length box.sheet.clubs) (λ x. is_level (on_points x))
        (omega arith) (λ x. level x ∙ as_level x (cases_lt x (length box.sheet.clubs)))
