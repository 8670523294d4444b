-- What is sure of two clubs, and what a reason says, is the same over the extremes of a zone as
-- over its options.
use Rattle.std.proofs.Common.{◌≡◌, ℕ, zero, suc, pos, neg_ℤ, ◌-ℤ◌, Bool, ◌&&◌, ◌||◌, ◌==◌, List}
use Rattle.std.proofs.Common.{[], ◌∷◌, length, filter, refl, ap, ◌∙◌}
use Rattle.std.specs.Prelude.{int_lt}
use Rattle.std.specs.Int.{int_min, int_max}
use Rattle.std.specs.List.{list_all, list_any}
use Rattle.league_core.specs.declared.sheet.Sheet.{Sheet}
use Rattle.league_core.specs.declared.sheet.Order.{Order}
use Rattle.league_core.specs.declared.sheet.Order.TheVariants.{HeadFirst, OverallFirst}
use Rattle.league_core.specs.declared.season.Score.{Score}
use Rattle.league_core.specs.declared.question.Question.{Question}
use Rattle.league_core.specs.declared.zone.Literal.{Literal}
use Rattle.league_core.specs.declared.zone.Reason.{Reason}
use Rattle.league_core.specs.declared.zone.Reason.TheVariants.{Count, Window, Low, High, Tie}
use Rattle.league_core.specs.game.Results.{Results}
use Rattle.league_core.specs.game.Ahead.{rank_of}
use Rattle.league_core.specs.game.Sheets.{clubs_of}
use Rattle.league_core.specs.game.ClubSets.{clubs_in}
use Rattle.league_core.specs.game.Sums.{worth_to, worth_among, match_points, goal_difference, goals}
use Rattle.league_core.specs.game.Sums.{away_goals, wins, away_wins}
use Rattle.league_core.specs.search.Zones.{rivals_of, marked_before, marked_after}
use Rattle.league_core.specs.search.Options.{options_in, has_option, has_one_outcome, has_finish}
use Rattle.league_core.specs.search.PointRanges.{added, one_value, points_together, points_range}
use Rattle.league_core.specs.search.PointRanges.{deducted_from, least_points_of, most_points_of}
use Rattle.league_core.specs.search.Reasons.{too_many, has_member, times, refutes, has_reason}
use Rattle.league_core.specs.search.SureOrder.{sure_then, sure_by_range, sure_by_ranges}
use Rattle.league_core.specs.search.SureOrder.{record_ranges, overall_ranges, first_sum_ranges}
use Rattle.league_core.specs.search.SureOrder.{sure_within, sure_in, sure_by, level_on_points}
use Rattle.league_core.specs.search.SureOrder.{sure_order, is_surely_in, are_all_sure, is_level}
use Rattle.league_core.specs.search.SureOrder.{is_apart, is_above, is_below, surely_level_overall}
use Rattle.check_bounds.specs.declared.term.Measure.TheVariants as kind
use Rattle.check_bounds.specs.inside.Zones.{AreAllExtremesOf}
use Rattle.check_bounds.specs.inside.Refutes.{sure_over, refutes_over}
use Rattle.check_bounds.proofs.TieRoundLemmas.{rest_of_round, rest_of_sums}
use Rattle.check_bounds.proofs.TransferLemmas.{ranges_same, worth_same, among_same, together_same}
use Rattle.check_bounds.proofs.TransferLemmas.{tests_same, some_same, one_same}

record_same : (sheet : Sheet) (corners options : List (List Score)) (group : List ℕ) (club : ℕ)
    → AreAllExtremesOf corners options
    → record_ranges sheet corners group club ≡ record_ranges sheet options group club
record_same sheet corners options group club are =
    λ i. ranges_same (worth_among group match_points club) (among_same group kind.Points club)
    sheet.fixtures corners options are i
    ∷ ranges_same (worth_among group goal_difference club)
    (among_same group kind.Difference club) sheet.fixtures corners options are i
    ∷ ranges_same (worth_among group goals club) (among_same group kind.Goals club)
    sheet.fixtures corners options are i
    ∷ []

first_same : (sheet : Sheet) (corners options : List (List Score)) (club : ℕ)
    → AreAllExtremesOf corners options
    → first_sum_ranges sheet corners club ≡ first_sum_ranges sheet options club
first_same sheet corners options club are =
    λ i. ranges_same (worth_to goal_difference club) (worth_same kind.Difference club)
    sheet.fixtures corners options are i
    ∷ ranges_same (worth_to goals club) (worth_same kind.Goals club)
    sheet.fixtures corners options are i
    ∷ []

overall_same : (sheet : Sheet) (corners options : List (List Score)) (club : ℕ)
    → AreAllExtremesOf corners options
    → overall_ranges sheet corners club ≡ overall_ranges sheet options club
overall_same sheet corners options club are =
    λ i. ranges_same (worth_to goal_difference club) (worth_same kind.Difference club)
    sheet.fixtures corners options are i
    ∷ ranges_same (worth_to goals club) (worth_same kind.Goals club)
    sheet.fixtures corners options are i
    ∷ ranges_same (worth_to away_goals club) (worth_same kind.AwayGoals club)
    sheet.fixtures corners options are i
    ∷ ranges_same (worth_to wins club) (worth_same kind.Wins club)
    sheet.fixtures corners options are i
    ∷ ranges_same (worth_to away_wins club) (worth_same kind.AwayWins club)
    sheet.fixtures corners options are i
    ∷ one_value (neg_ℤ (pos (rank_of sheet club)))
    ∷ []

level_same : (sheet : Sheet) (corners options : List (List Score)) (group : List ℕ) (club : ℕ)
    → AreAllExtremesOf corners options
    → filter (is_surely_in sheet corners group club) group
    ≡ filter (is_surely_in sheet options group club) group
level_same sheet corners options group club are =
    λ i. filter (λ other. is_level
    (sure_by_ranges (record_same sheet corners options group other are i)
    (record_same sheet corners options group club are i))) group

all_same : (sheet : Sheet) (corners options : List (List Score)) (group : List ℕ) (club : ℕ)
    → AreAllExtremesOf corners options
    → are_all_sure sheet corners group club ≡ are_all_sure sheet options group club
all_same sheet corners options group club are =
    λ i. list_all (λ other. is_level
    (sure_by_ranges (record_same sheet corners options group other are i)
    (record_same sheet corners options group club are i))
    || is_apart (record_same sheet corners options group other are i)
    (record_same sheet corners options group club are i)) group

within_same : (times : ℕ) (sheet : Sheet) (corners options : List (List Score)) (group : List ℕ)
    (rival club : ℕ) → AreAllExtremesOf corners options
    → sure_within times sheet corners group rival club
    ≡ sure_within times sheet options group rival club
within_same zero sheet corners options group rival club are = refl
within_same (suc times) sheet corners options group rival club are =
    let level = level_same sheet corners options group club are in
    let next = within_same times sheet corners options
    (filter (is_surely_in sheet corners group club) group) rival club are
    ∙ ap (λ clubs. sure_within times sheet options clubs rival club) level in
    λ i. sure_then (sure_by_ranges (record_same sheet corners options group rival are i)
    (record_same sheet corners options group club are i))
    (rest_of_round (all_same sheet corners options group club are i)
    (length (level i) == length group)
    (sure_by_ranges (overall_same sheet corners options rival are i)
    (overall_same sheet corners options club are i)) (next i))

in_same : (sheet : Sheet) (corners options : List (List Score)) (group : List ℕ) (rival club : ℕ)
    → AreAllExtremesOf corners options
    → sure_in sheet corners group rival club ≡ sure_in sheet options group rival club
in_same sheet corners options group rival club are =
    within_same (length group) sheet corners options group rival club are

by_same : (order : Order) (sheet : Sheet) (corners options : List (List Score)) (group : List ℕ)
    (rival club : ℕ) → AreAllExtremesOf corners options
    → sure_by order sheet corners group rival club ≡ sure_by order sheet options group rival club
by_same HeadFirst sheet corners options group rival club are =
    in_same sheet corners options group rival club are
by_same OverallFirst sheet corners options group rival club are =
    let level : surely_level_overall sheet corners group club
    ≡ surely_level_overall sheet options group club =
    λ i. filter (λ other. is_level
    (sure_by_ranges (first_same sheet corners options other are i)
    (first_same sheet corners options club are i))) group in
    let next = in_same sheet corners options (surely_level_overall sheet corners group club) rival
    club are ∙ ap (λ clubs. sure_in sheet options clubs rival club) level in
    λ i. sure_then (sure_by_ranges (first_same sheet corners options rival are i)
    (first_same sheet corners options club are i))
    (rest_of_sums (list_all (λ other. is_level
    (sure_by_ranges (first_same sheet corners options other are i)
    (first_same sheet corners options club are i))
    || is_apart (first_same sheet corners options other are i)
    (first_same sheet corners options club are i)) group) (next i))

pub points_same : (sheet : Sheet) (season : Results) (corners options : List (List Score))
    (clubs : List ℕ) → AreAllExtremesOf corners options
    → points_range sheet season corners clubs ≡ points_range sheet season options clubs
points_same sheet season corners options clubs are =
    λ i. added (ranges_same (points_together clubs) (together_same clubs) sheet.fixtures corners
    options are i) (one_value (pos 0 -ℤ deducted_from season clubs))

-- what is sure over extremes is what is sure
pub sure_over-is : (sheet : Sheet) (season : Results) (zone : List Literal)
    (corners : List (List Score)) (club rival : ℕ)
    → AreAllExtremesOf corners (options_in sheet season zone)
    → sure_over sheet season corners club rival ≡ sure_order sheet season zone rival club
unfolding sure_order
sure_over-is sheet season zone corners club rival are =
    let options = options_in sheet season zone in
    let level : level_on_points sheet season corners club
    ≡ level_on_points sheet season options club =
    λ i. filter (λ other. is_level
    (sure_by_range (points_same sheet season corners options (other ∷ []) are i)
    (points_same sheet season corners options (club ∷ []) are i))) (clubs_of sheet) in
    let next = by_same sheet.order sheet corners options (level_on_points sheet season corners club)
    rival club are ∙ ap (λ clubs. sure_by sheet.order sheet options clubs rival club) level in
    λ i. sure_then (sure_by_range (points_same sheet season corners options (rival ∷ []) are i)
    (points_same sheet season corners options (club ∷ []) are i)) (next i)

-- what a reason says over extremes and sets is what it says
pub refutes_over-is : (sheet : Sheet) (season : Results) (question : Question)
    (zone : List Literal) (corners : List (List Score)) (before after : ℕ → Bool)
    (reason : Reason) → AreAllExtremesOf corners (options_in sheet season zone)
    → before ≡ marked_before zone → after ≡ marked_after zone
    → refutes_over sheet season question corners before after reason
    ≡ refutes sheet season question zone reason
unfolding least_points_of most_points_of
refutes_over-is sheet season question zone corners before after Count are before_is after_is =
    λ i. too_many sheet question (before_is i) (after_is i) question.claim
refutes_over-is sheet season question zone corners before after Window are before_is after_is =
    let own = points_same sheet season corners (options_in sheet season zone)
    (question.club ∷ []) are in
    λ i. int_lt (own i).greatest question.low || int_lt question.high (own i).least
refutes_over-is sheet season question zone corners before after (Low set) are before_is after_is =
    let own = points_same sheet season corners (options_in sheet season zone)
    (question.club ∷ []) are in
    let all = points_same sheet season corners (options_in sheet season zone) (clubs_in set) are in
    λ i. has_member (clubs_in set) && list_all (after_is i) (clubs_in set)
    && int_lt (times (clubs_in set) (int_min question.high (own i).greatest)) (all i).least
refutes_over-is sheet season question zone corners before after (High set) are before_is after_is =
    let own = points_same sheet season corners (options_in sheet season zone)
    (question.club ∷ []) are in
    let all = points_same sheet season corners (options_in sheet season zone) (clubs_in set) are in
    λ i. has_member (clubs_in set) && list_all (before_is i) (clubs_in set)
    && int_lt (all i).greatest (times (clubs_in set) (int_max question.low (own i).least))
refutes_over-is sheet season question zone corners before after Tie are before_is after_is =
    let options = options_in sheet season zone in
    let one = tests_same has_one_outcome one_same corners options are in
    let sure : sure_over sheet season corners question.club
    ≡ (λ rival. sure_order sheet season zone rival question.club) =
    λ i rival. sure_over-is sheet season zone corners question.club rival are i in
    λ i. one i
    && (too_many sheet question (λ rival. before_is i rival || is_above (sure i rival))
    (λ rival. after_is i rival || is_below (sure i rival)) question.claim
    || list_any (λ rival. (after_is i rival && is_above (sure i rival))
    || (before_is i rival && is_below (sure i rival))) (rivals_of sheet question.club))

-- whether the zone has a finish
pub has_finish-is : (sheet : Sheet) (season : Results) (zone : List Literal)
    (corners : List (List Score)) → AreAllExtremesOf corners (options_in sheet season zone)
    → list_all has_option corners ≡ has_finish sheet season zone
unfolding has_finish
has_finish-is sheet season zone corners are =
    tests_same has_option some_same corners (options_in sheet season zone) are

-- whether a reason holds
pub has_reason-is : (sheet : Sheet) (season : Results) (question : Question)
    (zone : List Literal) (corners : List (List Score)) (before after : ℕ → Bool)
    (reason : Reason) → AreAllExtremesOf corners (options_in sheet season zone)
    → before ≡ marked_before zone → after ≡ marked_after zone
    → (list_all has_option corners
    && refutes_over sheet season question corners before after reason)
    ≡ has_reason sheet season question zone reason
unfolding has_reason has_finish
has_reason-is sheet season question zone corners before after reason are before_is after_is =
    λ i. tests_same has_option some_same corners (options_in sheet season zone) are i
    && refutes_over-is sheet season question zone corners before after reason are before_is
    after_is i
