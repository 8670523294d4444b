-- What is sure of two clubs in a zone is so at each of its finishes: if two ranges decide, the sums
-- compare that way, and if they leave two clubs level, the clubs are level.
use Rattle.std.proofs.Common.{◌≡◌, ℕ, zero, suc, Bool, true, false, ◌||◌, ◌==◌, List, length}
use Rattle.std.proofs.Common.{filter, Ordering, Less, Equal, Greater, is_eq, refl, sym, ap, ◌∙◌}
use Rattle.std.proofs.Common.{subst, arith}
use Rattle.std.proofs.lemmas.Int.{ints}
use Rattle.std.proofs.lemmas.Bool.{false≢true}
use Rattle.league_core.specs.declared.sheet.Sheet.{Sheet}
use Rattle.league_core.specs.declared.season.Score.{Score}
use Rattle.league_core.specs.declared.sure.Sure.{Sure}
use Rattle.league_core.specs.declared.sure.Sure.TheVariants.{Above, Below, Level, Unknown}
use Rattle.league_core.specs.game.Results.{Results}
use Rattle.league_core.specs.game.Sums.{Worth, match_points, goal_difference, goals, away_goals}
use Rattle.league_core.specs.game.Sums.{wins, away_wins, worth_to, worth_among, sum_of, sum_among}
use Rattle.league_core.specs.game.HeadToHead.{head_to_head_of, by_head_to_head, are_level_in}
use Rattle.league_core.specs.game.HeadToHead.{level_with}
use Rattle.league_core.specs.game.Ahead.{overall_of, by_overall, lead_within}
use Rattle.league_core.specs.search.Options.{take_options}
use Rattle.league_core.specs.search.SureOrder.{is_level, range_over, range_among, record_ranges}
use Rattle.league_core.specs.search.SureOrder.{overall_ranges, by_record_ranges, by_overall_ranges}
use Rattle.league_core.specs.search.SureOrder.{is_surely_in, is_surely_out, are_all_sure}
use Rattle.league_core.specs.search.SureOrder.{sure_within}
use Rattle.league_core.proofs.StandingLemmas.{level_with-tied}
use Rattle.reason_laws.proofs.MemberLemmas.{sum_in_range}
use Rattle.reason_laws.proofs.RangeOrderLemmas.{Agrees, then_agrees, IsInRange, AreInRanges}
use Rattle.reason_laws.proofs.RangeOrderLemmas.{ranges_agree, apart_differ}
use Rattle.league_core.proofs.plain.Filters.{filter_where}

-- a club's sum over all matches, or over those of a group, is in its range
pub over_in_range : (worth : Worth) (sheet : Sheet) (options : List (List Score))
    (finish : Results) (club : ℕ) → take_options options finish.scores ≡ true
    → IsInRange (range_over worth sheet options club) (sum_of worth sheet finish club)
over_in_range worth sheet options finish club takes =
    sum_in_range (worth_to worth club) sheet.fixtures options finish.scores takes

among_in_range : (group : List ℕ) (worth : Worth) (sheet : Sheet) (options : List (List Score))
    (finish : Results) (club : ℕ) → take_options options finish.scores ≡ true
    → IsInRange (range_among group worth sheet options club)
    (sum_among group worth sheet finish club)
among_in_range group worth sheet options finish club takes =
    sum_in_range (worth_among group worth club) sheet.fixtures options finish.scores takes

record_in_ranges : (sheet : Sheet) (options : List (List Score)) (finish : Results)
    (group : List ℕ) (club : ℕ) → take_options options finish.scores ≡ true
    → AreInRanges (record_ranges sheet options group club) (head_to_head_of sheet finish group club)
record_in_ranges sheet options finish group club takes = (
  among_in_range group match_points sheet options finish club takes,
  (
    among_in_range group goal_difference sheet options finish club takes,
    (among_in_range group goals sheet options finish club takes, tt),
  ),
)

overall_in_ranges : (sheet : Sheet) (options : List (List Score)) (finish : Results) (club : ℕ)
    → take_options options finish.scores ≡ true
    → AreInRanges (overall_ranges sheet options club) (overall_of sheet finish club)
overall_in_ranges sheet options finish club takes =
    let over = λ (worth : Worth). over_in_range worth sheet options finish club takes in (
      over goal_difference,
      (
        over goals,
        (
          over away_goals,
          (over wins, (over away_wins, ((omega (arith, ints), omega (arith, ints)), tt))),
        ),
      ),
    )

record_agrees : (sheet : Sheet) (options : List (List Score)) (finish : Results) (group : List ℕ)
    (rival club : ℕ) → take_options options finish.scores ≡ true
    → Agrees (by_record_ranges sheet options group rival club)
    (by_head_to_head sheet finish group rival club)
record_agrees sheet options finish group rival club takes =
    ranges_agree (record_ranges sheet options group rival) (record_ranges sheet options group club)
    (head_to_head_of sheet finish group rival) (head_to_head_of sheet finish group club) refl
    (record_in_ranges sheet options finish group rival takes)
    (record_in_ranges sheet options finish group club takes)

overall_agrees : (sheet : Sheet) (options : List (List Score)) (finish : Results) (rival club : ℕ)
    → take_options options finish.scores ≡ true
    → Agrees (by_overall_ranges sheet options rival club) (by_overall sheet finish rival club)
overall_agrees sheet options finish rival club takes =
    ranges_agree (overall_ranges sheet options rival) (overall_ranges sheet options club)
    (overall_of sheet finish rival) (overall_of sheet finish club) refl
    (overall_in_ranges sheet options finish rival takes)
    (overall_in_ranges sheet options finish club takes)

-- what comparison distinguishes a club that is surely level with another from one that surely is
-- not
pub in_or_out : (sure : Sure) (out : Bool) (order : Ordering) → Agrees sure order
    → (out ≡ true → order ≡ Equal → ⊥) → (is_level sure || out) ≡ true → is_level sure ≡ is_eq order
in_or_out Above out order is differs known = sym (ap is_eq is)
in_or_out Below out order is differs known = sym (ap is_eq is)
in_or_out Level out order is differs known = sym (ap is_eq is)
in_or_out Unknown true order is differs known = not_equal order (differs refl)
  where
    not_equal : (o : Ordering) → (o ≡ Equal → ⊥) → false ≡ is_eq o
    not_equal Less other = refl
    not_equal Equal other = absurd (other refl)
    not_equal Greater other = refl
in_or_out Unknown false order is differs known = absurd (false≢true known)

-- if it is sure who shares the club's record, those are the clubs that share it
surely_level : (sheet : Sheet) (options : List (List Score)) (finish : Results) (group : List ℕ)
    (club : ℕ) → take_options options finish.scores ≡ true
    → are_all_sure sheet options group club ≡ true
    → filter (is_surely_in sheet options group club) group ≡ level_with sheet finish group club
surely_level sheet options finish group club takes sure =
    filter_where (is_surely_in sheet options group club) (are_level_in sheet finish group club)
    (λ other. is_surely_in sheet options group club other
    || is_surely_out sheet options group club other) group
    (λ other. in_or_out (by_record_ranges sheet options group other club)
    (is_surely_out sheet options group club other)
    (by_head_to_head sheet finish group other club)
    (record_agrees sheet options finish group other club takes)
    (apart_differ (record_ranges sheet options group other)
    (record_ranges sheet options group club) (head_to_head_of sheet finish group other)
    (head_to_head_of sheet finish group club)
    (record_in_ranges sheet options finish group other takes)
    (record_in_ranges sheet options finish group club takes)))
    sure

-- the comparison goes the same way on both sides
chosen_agrees : (sure whole other : Bool) (here further : Sure) (order beyond : Ordering)
    → (sure ≡ true → whole ≡ other) → Agrees here order → (sure ≡ true → Agrees further beyond)
    → Agrees (elim sure [ false ↦ Unknown | true ↦ elim whole [ true ↦ here | false ↦ further ] ])
    (elim other [ true ↦ order | false ↦ beyond ])
chosen_agrees false whole other here further order beyond same is more = tt
chosen_agrees true whole other here further order beyond same is more = by_way whole other
    (same refl)
  where
    by_way : (a b : Bool) → a ≡ b
        → Agrees (elim a [ true ↦ here | false ↦ further ])
        (elim b [ true ↦ order | false ↦ beyond ])
    by_way true true e = is
    by_way false false e = more refl
    by_way true false e = absurd (false≢true (sym e))
    by_way false true e = absurd (false≢true e)

-- within a group, the head-to-head taken as often on both sides
pub within_agrees : (times : ℕ) (sheet : Sheet) (options : List (List Score)) (finish : Results)
    (group : List ℕ) (rival club : ℕ) → take_options options finish.scores ≡ true
    → Agrees (sure_within times sheet options group rival club)
    (lead_within times sheet finish group rival club)
within_agrees zero sheet options finish group rival club takes = refl
within_agrees (suc times) sheet options finish group rival club takes =
    let level = filter (is_surely_in sheet options group club) group in
    then_agrees (by_record_ranges sheet options group rival club) _
    (by_head_to_head sheet finish group rival club) _
    (record_agrees sheet options finish group rival club takes)
    (λ tied.
    let same = λ (sure : are_all_sure sheet options group club ≡ true). surely_level sheet options
    finish group club takes sure ∙ sym (level_with-tied sheet finish group rival club tied) in
    chosen_agrees (are_all_sure sheet options group club) (length level == length group)
    (length (level_with sheet finish group rival) == length group)
    (by_overall_ranges sheet options rival club) (sure_within times sheet options level rival club)
    (by_overall sheet finish rival club)
    (lead_within times sheet finish (level_with sheet finish group rival) rival club)
    (λ sure. ap (λ (g : List ℕ). length g == length group) (same sure))
    (overall_agrees sheet options finish rival club takes)
    (λ sure. subst
    (λ (g : List ℕ). Agrees (sure_within times sheet options level rival club)
    (lead_within times sheet finish g rival club)) (same sure)
    (within_agrees times sheet options finish level rival club takes)))
