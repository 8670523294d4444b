-- What holds of the standing in a group, for either order of the criteria: each statement is the
-- contract of a function of src/laws.rt that does nothing.
use Rattle.std.specs.Prelude.{◌≡◌, ◌≤◌, ℕ, ◌==◌, IsTrue, List}
use Rattle.std.specs.Prelude.{length, if◌then◌else◌}
use Rattle.std.specs.Cmp.{IsTotalOrder}
use Rattle.std.specs.declared.cmp.Ordering.{Ordering}
use Rattle.std.specs.declared.cmp.Ordering.TheVariants.{Equal}
use Rattle.std.specs.Ordering.{ordering_then}
use Rattle.league_core.specs.declared.sheet.Sheet.{Sheet}
use Rattle.league_core.specs.declared.sheet.Order.{Order}
use Rattle.league_core.specs.declared.sheet.Order.TheVariants.{HeadFirst, OverallFirst}
use Rattle.league_core.specs.game.Results.{Results}
use Rattle.league_core.specs.game.Sums.{has_club, sum_of, goal_difference, goals}
use Rattle.league_core.specs.game.HeadToHead.{greater_first, by_head_to_head, level_with}
use Rattle.league_core.specs.game.Ahead.{by_overall, lead_within, lead_in, level_overall}
use Rattle.league_core.specs.game.Ahead.{standing_in, IsAheadIn}

-- the standing in a group is a total order of the clubs and of their blocks
abbrev pub StandingIsATotalOrder : Type 0
StandingIsATotalOrder =
    (sheet : Sheet) (season : Results) (group : List ℕ)
    → IsTotalOrder (standing_in sheet season group)

-- of two clubs one at most is ahead
abbrev pub OneAtMostIsAhead : Type 0
OneAtMostIsAhead =
    (sheet : Sheet) (season : Results) (group : List ℕ) (club other : ℕ)
    → IsAheadIn sheet season group club other → ¬ IsAheadIn sheet season group other club

-- two clubs of which neither is ahead stand alike to each third club
abbrev pub BlocksStandAlike : Type 0
BlocksStandAlike =
    (sheet : Sheet) (season : Results) (group : List ℕ) (club other third : ℕ)
    → standing_in sheet season group club other ≡ Equal
    → standing_in sheet season group club third ≡ standing_in sheet season group other third

-- and each third club stands alike to them
abbrev pub EachStandsAlikeToABlock : Type 0
EachStandsAlikeToABlock =
    (sheet : Sheet) (season : Results) (group : List ℕ) (club other third : ℕ)
    → standing_in sheet season group club other ≡ Equal
    → standing_in sheet season group third club ≡ standing_in sheet season group third other

-- for a club of the group any two numbers of times that its clubs do not exceed give one lead
abbrev pub TimesAreEnough : Type 0
TimesAreEnough =
    (sheet : Sheet) (season : Results) (group : List ℕ) (club other times more : ℕ)
    → IsTrue (has_club group club) → length group ≤ times → length group ≤ more
    → lead_within times sheet season group club other
    ≡ lead_within more sheet season group club other

-- the rule as it is said: the head-to-head record; if that is the same, the sums over all matches
-- and then the fixed rank if the clubs with that record are the whole group, else the lead among
-- those clubs
abbrev pub lead_by_the_rule : Sheet → Results → List ℕ → ℕ → ℕ → Ordering
lead_by_the_rule sheet season group club other =
    let level = level_with sheet season group club in
    let overall = by_overall sheet season club other in
    let again = lead_in sheet season level club other in
    ordering_then (by_head_to_head sheet season group club other)
    (if length level == length group then overall else again)

-- either order as it is said: the lead in the group; or the greater difference over all matches,
-- then the more goals, then the lead among the clubs of the group with that difference and those
-- goals
abbrev pub standing_by_the_rule : Order → Sheet → Results → List ℕ → ℕ → ℕ → Ordering
standing_by_the_rule HeadFirst sheet season group club other =
    lead_by_the_rule sheet season group club other
standing_by_the_rule OverallFirst sheet season group club other =
    ordering_then
    (greater_first (sum_of goal_difference sheet season club)
    (sum_of goal_difference sheet season other))
    (ordering_then
    (greater_first (sum_of goals sheet season club) (sum_of goals sheet season other))
    (lead_by_the_rule sheet season (level_overall sheet season group club) club other))

-- for a club of the group the standing is the one by the rule
abbrev pub StandingIsByTheRule : Type 0
StandingIsByTheRule =
    (sheet : Sheet) (season : Results) (group : List ℕ) (club other : ℕ)
    → IsTrue (has_club group club)
    → standing_in sheet season group club other
    ≡ standing_by_the_rule sheet.order sheet season group club other
