-- What is sure of two clubs in a zone in which all options of each fixture have the same outcome.
-- Points then have one value; each other sum of the ranking has a range. The comparison goes the
-- way of the ranking and stops where a range leaves it open.
use Rattle.std.specs.Prelude.{ℕ, zero, suc, pos, neg_ℤ, Bool, true, false, ◌&&◌, ◌||◌, ◌==◌, int_lt}
use Rattle.std.specs.Prelude.{if◌then◌else◌, List, [], ◌∷◌, length, filter}
use Rattle.std.specs.List.{list_all}
use Rattle.std.specs.Ordering.{int_eq}
use Rattle.league_core.specs.declared.sheet.Sheet.{Sheet}
use Rattle.league_core.specs.declared.sheet.Order.{Order}
use Rattle.league_core.specs.declared.sheet.Order.TheVariants.{HeadFirst, OverallFirst}
use Rattle.league_core.specs.declared.season.Score.{Score}
use Rattle.league_core.specs.declared.sure.Sure.{Sure}
use Rattle.league_core.specs.declared.sure.Sure.TheVariants.{Above, Below, Level, Unknown}
use Rattle.league_core.specs.declared.zone.Literal.{Literal}
use Rattle.league_core.specs.game.Results.{Results}
use Rattle.league_core.specs.game.Sheets.{clubs_of}
use Rattle.league_core.specs.game.Sums.{Worth, match_points, goal_difference, goals, away_goals}
use Rattle.league_core.specs.game.Sums.{wins, away_wins, worth_to, worth_among}
use Rattle.league_core.specs.game.Ahead.{rank_of}
use Rattle.league_core.specs.search.Options.{options_in}
use Rattle.league_core.specs.search.PointRanges.{Range, one_value, range_from, points_range}

-- a sum that has one value
abbrev pub has_one_value : Range → Bool
has_one_value range = int_eq range.least range.greatest

-- one sum of a rival against that of the club: a range above the other or below it decides, two
-- equal single values leave the two level, and nothing else says anything
abbrev pub sure_by_range : Range → Range → Sure
sure_by_range rival club =
    if int_lt club.greatest rival.least then Above
    else if int_lt rival.greatest club.least then Below
    else if has_one_value rival && has_one_value club then Level
    else Unknown

-- if one step leaves the two level, the next decides
abbrev pub sure_then : Sure → Sure → Sure
sure_then Above next = Above
sure_then Below next = Below
sure_then Level next = next
sure_then Unknown next = Unknown

-- sum after sum
abbrev pub sure_by_ranges : List Range → List Range → Sure
sure_by_ranges [] others = Level
sure_by_ranges (rival ∷ rivals) [] = Level
sure_by_ranges (rival ∷ rivals) (club ∷ clubs) =
    sure_then (sure_by_range rival club) (sure_by_ranges rivals clubs)

-- the answer is that the rival is before the club
abbrev pub is_above : Sure → Bool
is_above Above = true
is_above Below = false
is_above Level = false
is_above Unknown = false

-- the answer is that it is behind the club
abbrev pub is_below : Sure → Bool
is_below Above = false
is_below Below = true
is_below Level = false
is_below Unknown = false

-- the answer is that the two are level
abbrev pub is_level : Sure → Bool
is_level Above = false
is_level Below = false
is_level Level = true
is_level Unknown = false

-- one of the sums is above that of the club, or below it, whatever the finish
abbrev pub is_apart : List Range → List Range → Bool
is_apart [] others = false
is_apart (range ∷ ranges) [] = false
is_apart (range ∷ ranges) (other ∷ others) =
    int_lt other.greatest range.least || int_lt range.greatest other.least || is_apart ranges others

-- a club's sum over all matches
abbrev pub range_over : Worth → Sheet → List (List Score) → ℕ → Range
range_over worth sheet options club = range_from (worth_to worth club) sheet.fixtures options

-- a club's sum over the matches of a group
abbrev pub range_among : List ℕ → Worth → Sheet → List (List Score) → ℕ → Range
range_among group worth sheet options club =
    range_from (worth_among group worth club) sheet.fixtures options

-- the ranges of a club's head-to-head record in a group: points, goal difference, goals
abbrev pub record_ranges : Sheet → List (List Score) → List ℕ → ℕ → List Range
record_ranges sheet options group club =
    range_among group match_points sheet options club
    ∷ range_among group goal_difference sheet options club
    ∷ range_among group goals sheet options club
    ∷ []

-- the ranges of what decides after the head-to-head, the fixed rank last
abbrev pub overall_ranges : Sheet → List (List Score) → ℕ → List Range
overall_ranges sheet options club =
    range_over goal_difference sheet options club
    ∷ range_over goals sheet options club
    ∷ range_over away_goals sheet options club
    ∷ range_over wins sheet options club
    ∷ range_over away_wins sheet options club
    ∷ one_value (neg_ℤ (pos (rank_of sheet club)))
    ∷ []

-- a rival's record in the group against the club's
abbrev pub by_record_ranges : Sheet → List (List Score) → List ℕ → ℕ → ℕ → Sure
by_record_ranges sheet options group rival club =
    sure_by_ranges (record_ranges sheet options group rival)
    (record_ranges sheet options group club)

-- a rival's sums over all matches, and then its fixed rank, against the club's
abbrev pub by_overall_ranges : Sheet → List (List Score) → ℕ → ℕ → Sure
by_overall_ranges sheet options rival club =
    sure_by_ranges (overall_ranges sheet options rival) (overall_ranges sheet options club)

-- a club of the group surely has the club's record there: each part has one value, the club's own
abbrev pub is_surely_in : Sheet → List (List Score) → List ℕ → ℕ → ℕ → Bool
is_surely_in sheet options group club other =
    is_level (by_record_ranges sheet options group other club)

-- a club of the group surely has another record there: a part misses the club's own value. It is
-- used only if each part of the club's record has one value
abbrev pub is_surely_out : Sheet → List (List Score) → List ℕ → ℕ → ℕ → Bool
is_surely_out sheet options group club other =
    is_apart (record_ranges sheet options group other) (record_ranges sheet options group club)

-- of each club of the group it is sure whether it has the club's record there
abbrev pub are_all_sure : Sheet → List (List Score) → List ℕ → ℕ → Bool
are_all_sure sheet options group club =
    list_all (λ other. is_surely_in sheet options group club other
    || is_surely_out sheet options group club other) group

-- the rival against the club within a group, with the head-to-head taken at most so many times: if
-- their records are level and it is sure who shares them, it is taken again over those clubs, and
-- if these are the whole group the sums over all matches decide, and then the fixed rank. As many
-- times as the group has clubs are enough for a club of the group, so that Level is said only if
-- all sums and the ranks are level
abbrev pub sure_within : ℕ → Sheet → List (List Score) → List ℕ → ℕ → ℕ → Sure
sure_within zero sheet options group rival club = Level
sure_within (suc times) sheet options group rival club =
    let level = filter (is_surely_in sheet options group club) group in
    sure_then (by_record_ranges sheet options group rival club)
    (elim (are_all_sure sheet options group club) [
      | false ↦ Unknown
      | true ↦ elim (length level == length group) [
        | true ↦ by_overall_ranges sheet options rival club
        | false ↦ sure_within times sheet options level rival club
      ]
    ])

-- the rival against the club within a group, with the head-to-head first
abbrev pub sure_in : Sheet → List (List Score) → List ℕ → ℕ → ℕ → Sure
sure_in sheet options group rival club = sure_within (length group) sheet options group rival club

-- the ranges of the two sums that may come before the head-to-head: difference and goals over all
-- matches
abbrev pub first_sum_ranges : Sheet → List (List Score) → ℕ → List Range
first_sum_ranges sheet options club =
    range_over goal_difference sheet options club
    ∷ range_over goals sheet options club
    ∷ []

-- a rival's difference and goals over all matches against the club's
abbrev pub by_first_sum_ranges : Sheet → List (List Score) → ℕ → ℕ → Sure
by_first_sum_ranges sheet options rival club =
    sure_by_ranges (first_sum_ranges sheet options rival) (first_sum_ranges sheet options club)

-- a club surely has the club's difference and goals: each has one value, the club's own
abbrev pub is_surely_level_overall : Sheet → List (List Score) → ℕ → ℕ → Bool
is_surely_level_overall sheet options club other =
    is_level (by_first_sum_ranges sheet options other club)

-- a club surely has another difference or other goals: one of the two misses the club's own value.
-- It is used only if the club's difference and goals have one value each
abbrev pub is_surely_apart_overall : Sheet → List (List Score) → ℕ → ℕ → Bool
is_surely_apart_overall sheet options club other =
    is_apart (first_sum_ranges sheet options other) (first_sum_ranges sheet options club)

-- of each club of the group it is sure whether it has the club's difference and goals
abbrev pub are_all_sure_overall : Sheet → List (List Score) → List ℕ → ℕ → Bool
are_all_sure_overall sheet options group club =
    list_all (λ other. is_surely_level_overall sheet options club other
    || is_surely_apart_overall sheet options club other) group

-- the clubs of the group that surely have the club's difference and goals
abbrev pub surely_level_overall : Sheet → List (List Score) → List ℕ → ℕ → List ℕ
surely_level_overall sheet options group club =
    filter (is_surely_level_overall sheet options club) group

-- the rival against the club within a group by an order of the criteria: with the head-to-head
-- first; or by difference and goals over all matches, and if these are level and it is sure who
-- shares them, with the head-to-head among those clubs
abbrev pub sure_by : Order → Sheet → List (List Score) → List ℕ → ℕ → ℕ → Sure
sure_by HeadFirst sheet options group rival club = sure_in sheet options group rival club
sure_by OverallFirst sheet options group rival club =
    sure_then (by_first_sum_ranges sheet options rival club)
    (elim (are_all_sure_overall sheet options group club) [
      | false ↦ Unknown
      | true ↦ sure_in sheet options (surely_level_overall sheet options group club) rival club
    ])

-- the rival's points against the club's
abbrev pub sure_by_points : Sheet → Results → List (List Score) → ℕ → ℕ → Sure
sure_by_points sheet season options rival club =
    sure_by_range (points_range sheet season options (rival ∷ []))
    (points_range sheet season options (club ∷ []))

-- the clubs that are on the club's points
abbrev pub level_on_points : Sheet → Results → List (List Score) → ℕ → List ℕ
level_on_points sheet season options club =
    filter (λ other. is_level (sure_by_points sheet season options other club)) (clubs_of sheet)

-- what is sure of the rival against the club: by points, then within the group of all clubs on them
-- by the sheet's order of the criteria
unfoldable pub sure_order : Sheet → Results → List Literal → ℕ → ℕ → Sure
sure_order sheet season zone rival club =
    let options = options_in sheet season zone in
    let group = level_on_points sheet season options club in
    sure_then (sure_by_points sheet season options rival club)
    (sure_by sheet.order sheet options group rival club)
