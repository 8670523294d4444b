-- Which of two clubs on one number of points is ahead, by the tie-break criteria. The head-to-head
-- record is taken again over the clubs that it leaves level, as long as these are fewer than
-- before: when it is taken again, and over whom, is this project's own choice. After it come the
-- sums over all matches, then the sheet's fixed rank, which is this project's own step. A sheet may
-- put the difference and the goals over all matches before the head-to-head; that order too is this
-- project's own.
use Rattle.std.specs.Prelude.{◌≡◌, ℕ, zero, suc, ℤ, pos, neg_ℤ, Bool, true, false, ◌==◌}
use Rattle.std.specs.Prelude.{slice_index, List, [], ◌∷◌, length, filter, map}
use Rattle.std.specs.declared.cmp.Ordering.{Ordering}
use Rattle.std.specs.declared.cmp.Ordering.TheVariants.{Less, Equal}
use Rattle.std.specs.Ordering.{ordering_then, is_eq}
use Rattle.league_core.specs.declared.sheet.Sheet.{Sheet}
use Rattle.league_core.specs.declared.sheet.Order.{Order}
use Rattle.league_core.specs.declared.sheet.Order.TheVariants.{HeadFirst, OverallFirst}
use Rattle.league_core.specs.game.Results.{Results}
use Rattle.league_core.specs.game.Sums.{sum_of, goal_difference, goals, away_goals, wins, away_wins}
use Rattle.league_core.specs.game.HeadToHead.{by_first_difference, by_head_to_head, level_with}

-- the club's fixed rank; 0 for a number that is no club's
abbrev pub rank_of : Sheet → ℕ → ℕ
rank_of sheet club = slice_index (map (λ c. c.rank) sheet.clubs) club

-- what decides after the head-to-head: goal difference, goals, away goals, wins and away wins over
-- all matches, greater first; then the fixed rank, negated, so that the lower comes first
abbrev pub overall_of : Sheet → Results → ℕ → List ℤ
overall_of sheet season club =
    sum_of goal_difference sheet season club
    ∷ sum_of goals sheet season club
    ∷ sum_of away_goals sheet season club
    ∷ sum_of wins sheet season club
    ∷ sum_of away_wins sheet season club
    ∷ neg_ℤ (pos (rank_of sheet club))
    ∷ []

-- Less if the one club is the greater over all matches, or else has the lower fixed rank
abbrev pub by_overall : Sheet → Results → ℕ → ℕ → Ordering
by_overall sheet season club other =
    by_first_difference (overall_of sheet season club) (overall_of sheet season other)

-- which of two clubs of a group leads, with the head-to-head taken at most so many times; with none
-- left, neither does. For a club of the group, as many times as the group has clubs are enough
abbrev pub lead_within : ℕ → Sheet → Results → List ℕ → ℕ → ℕ → Ordering
lead_within zero sheet season group club other = Equal
lead_within (suc times) sheet season group club other =
    let level = level_with sheet season group club in
    ordering_then (by_head_to_head sheet season group club other)
    (elim (length level == length group) [
      | true ↦ by_overall sheet season club other
      | false ↦ lead_within times sheet season level club other
    ])

-- of two clubs of a group, by the head-to-head first: Less if the one leads, Greater if the other
-- does, Equal if neither
abbrev pub lead_in : Sheet → Results → List ℕ → ℕ → ℕ → Ordering
lead_in sheet season group club other = lead_within (length group) sheet season group club other

-- the two sums that may come before the head-to-head: goal difference and goals over all matches
abbrev pub first_sums_of : Sheet → Results → ℕ → List ℤ
first_sums_of sheet season club =
    sum_of goal_difference sheet season club
    ∷ sum_of goals sheet season club
    ∷ []

-- Less if the one club has the greater difference over all matches, or else the more goals
abbrev pub by_first_sums : Sheet → Results → ℕ → ℕ → Ordering
by_first_sums sheet season club other =
    by_first_difference (first_sums_of sheet season club) (first_sums_of sheet season other)

-- both clubs have one difference and one number of goals over all matches
abbrev pub are_level_overall : Sheet → Results → ℕ → ℕ → Bool
are_level_overall sheet season club other = is_eq (by_first_sums sheet season other club)

-- the clubs of the group that have the club's difference and goals over all matches
abbrev pub level_overall : Sheet → Results → List ℕ → ℕ → List ℕ
level_overall sheet season group club = filter (are_level_overall sheet season club) group

-- how two clubs of a group stand by an order of the criteria: with the head-to-head first, as the
-- one leads the other; with the two sums over all matches first, by these, then as the one leads
-- the other among the clubs of the group that share them
abbrev pub standing_by : Order → Sheet → Results → List ℕ → ℕ → ℕ → Ordering
standing_by HeadFirst sheet season group club other = lead_in sheet season group club other
standing_by OverallFirst sheet season group club other =
    ordering_then (by_first_sums sheet season club other)
    (lead_in sheet season (level_overall sheet season group club) club other)

-- of two clubs of a group, by the criteria in the sheet's order: Less if the one is ahead, Greater
-- if the other is, Equal if neither
abbrev pub standing_in : Sheet → Results → List ℕ → ℕ → ℕ → Ordering
standing_in sheet season group club other = standing_by sheet.order sheet season group club other

-- the club is ahead of the other in the group
abbrev pub IsAheadIn : Sheet → Results → List ℕ → ℕ → ℕ → Type 0
IsAheadIn sheet season group club other = standing_in sheet season group club other ≡ Less
