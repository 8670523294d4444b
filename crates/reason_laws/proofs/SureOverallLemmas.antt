-- What is sure within a group is how two clubs stand there at each finish, for either order of the
-- criteria: the two sums over all matches may come before the head-to-head.
use Rattle.std.proofs.Common.{◌≡◌, ℕ, Bool, true, false, ◌||◌, List, length, Ordering, refl, sym}
use Rattle.std.proofs.Common.{◌∙◌, subst}
use Rattle.league_core.specs.declared.sheet.Sheet.{Sheet}
use Rattle.league_core.specs.declared.sheet.Order.{Order}
use Rattle.league_core.specs.declared.sheet.Order.TheVariants.{HeadFirst, OverallFirst}
use Rattle.league_core.specs.declared.season.Score.{Score}
use Rattle.league_core.specs.declared.sure.Sure.{Sure}
use Rattle.league_core.specs.declared.sure.Sure.TheVariants.{Unknown}
use Rattle.league_core.specs.game.Results.{Results}
use Rattle.league_core.specs.game.Sums.{goal_difference, goals}
use Rattle.league_core.specs.game.Ahead.{lead_in, first_sums_of, by_first_sums, are_level_overall}
use Rattle.league_core.specs.game.Ahead.{level_overall, standing_by}
use Rattle.league_core.specs.search.Options.{take_options}
use Rattle.league_core.specs.search.SureOrder.{first_sum_ranges, by_first_sum_ranges}
use Rattle.league_core.specs.search.SureOrder.{is_surely_level_overall, is_surely_apart_overall}
use Rattle.league_core.specs.search.SureOrder.{are_all_sure_overall, surely_level_overall, sure_in}
use Rattle.league_core.specs.search.SureOrder.{sure_by}
use Rattle.league_core.proofs.StandingLemmas.{level_overall-tied}
use Rattle.reason_laws.proofs.RangeOrderLemmas.{Agrees, AreInRanges, then_agrees, ranges_agree}
use Rattle.reason_laws.proofs.RangeOrderLemmas.{apart_differ}
use Rattle.reason_laws.proofs.SureLemmas.{over_in_range, in_or_out, within_agrees}
use Rattle.league_core.proofs.plain.Filters.{filter_where}

-- a club's difference and goals over all matches are in their ranges
first_sums_in_ranges : (sheet : Sheet) (options : List (List Score)) (finish : Results) (club : ℕ)
    → take_options options finish.scores ≡ true
    → AreInRanges (first_sum_ranges sheet options club) (first_sums_of sheet finish club)
first_sums_in_ranges sheet options finish club takes = (
  over_in_range goal_difference sheet options finish club takes,
  (over_in_range goals sheet options finish club takes, tt),
)

-- so what their ranges say of two clubs is how these compare by them
first_sums_agree : (sheet : Sheet) (options : List (List Score)) (finish : Results)
    (rival club : ℕ) → take_options options finish.scores ≡ true
    → Agrees (by_first_sum_ranges sheet options rival club) (by_first_sums sheet finish rival club)
first_sums_agree sheet options finish rival club takes =
    ranges_agree (first_sum_ranges sheet options rival) (first_sum_ranges sheet options club)
    (first_sums_of sheet finish rival) (first_sums_of sheet finish club) refl
    (first_sums_in_ranges sheet options finish rival takes)
    (first_sums_in_ranges sheet options finish club takes)

-- if it is sure who shares the club's difference and goals, those are the clubs that share them
surely_level_is : (sheet : Sheet) (options : List (List Score)) (finish : Results)
    (group : List ℕ) (club : ℕ) → take_options options finish.scores ≡ true
    → are_all_sure_overall sheet options group club ≡ true
    → surely_level_overall sheet options group club ≡ level_overall sheet finish group club
surely_level_is sheet options finish group club takes sure =
    filter_where (is_surely_level_overall sheet options club) (are_level_overall sheet finish club)
    (λ other. is_surely_level_overall sheet options club other
    || is_surely_apart_overall sheet options club other) group
    (λ other. in_or_out (by_first_sum_ranges sheet options other club)
    (is_surely_apart_overall sheet options club other) (by_first_sums sheet finish other club)
    (first_sums_agree sheet options finish other club takes)
    (apart_differ (first_sum_ranges sheet options other) (first_sum_ranges sheet options club)
    (first_sums_of sheet finish other) (first_sums_of sheet finish club)
    (first_sums_in_ranges sheet options finish other takes)
    (first_sums_in_ranges sheet options finish club takes)))
    sure

-- if it is not sure who is in the smaller group nothing is said
if_sure_agrees : (sure : Bool) (further : Sure) (beyond : Ordering)
    → (sure ≡ true → Agrees further beyond)
    → Agrees (elim sure [ false ↦ Unknown | true ↦ further ]) beyond
if_sure_agrees false further beyond more = tt
if_sure_agrees true further beyond more = more refl

-- within a group, by either order of the criteria
pub by_agrees : (order : Order) (sheet : Sheet) (options : List (List Score)) (finish : Results)
    (group : List ℕ) (rival club : ℕ) → take_options options finish.scores ≡ true
    → Agrees (sure_by order sheet options group rival club)
    (standing_by order sheet finish group rival club)
by_agrees HeadFirst sheet options finish group rival club takes =
    within_agrees (length group) sheet options finish group rival club takes
by_agrees OverallFirst sheet options finish group rival club takes =
    let level = surely_level_overall sheet options group club in
    let next : Sure = elim (are_all_sure_overall sheet options group club) [
      | false ↦ Unknown
      | true ↦ sure_in sheet options level rival club
    ] in
    let beyond : Ordering = lead_in sheet finish (level_overall sheet finish group
    rival) rival club in
    then_agrees (by_first_sum_ranges sheet options rival club) next
    (by_first_sums sheet finish rival club) beyond
    (first_sums_agree sheet options finish rival club takes)
    (λ tied. if_sure_agrees (are_all_sure_overall sheet options group club)
    (sure_in sheet options level rival club) beyond
    (λ sure. subst
    (λ (g : List ℕ). Agrees (sure_in sheet options level rival club)
    (lead_in sheet finish g rival club))
    (surely_level_is sheet options finish group club takes sure
    ∙ sym (level_overall-tied sheet finish group rival club tied))
    (within_agrees (length level) sheet options finish level rival club takes)))
