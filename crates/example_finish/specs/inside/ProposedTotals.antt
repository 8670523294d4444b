-- What matches add up to for clubs, kept by the clubs' numbers, and the comparisons of clubs by
-- these sums.
use Rattle.std.specs.Prelude.{ℕ, ℤ, pos, neg_ℤ, IsTrue, List, [], ◌∷◌}
use Rattle.std.specs.Prelude.{slice_index_or, None}
use Rattle.std.specs.declared.cmp.Ordering.{Ordering}
use Rattle.league_core.specs.declared.sheet.Sheet.{Sheet}
use Rattle.league_core.specs.game.Results.{Results}
use Rattle.league_core.specs.game.Sums.{Worth, has_club, worth_among, sum_of, sum_among, if_played}
use Rattle.league_core.specs.game.HeadToHead.{by_first_difference}
use Rattle.league_core.specs.game.Ahead.{rank_of}
use Rattle.score_box.specs.declared.totals.Totals.{Totals}
use Rattle.score_box.specs.inside.Totals.{AreTotals, AreTotalsNear, totals_at}
use Rattle.example_finish.specs.inside.ProposalViews.{ProposedView, sheet_asked, finish_asked}
use Rattle.example_finish.specs.declared.criterion.Criterion.{Criterion}
use Rattle.example_finish.specs.declared.criterion.Criterion.TheVariants.{Record}
use Rattle.example_finish.specs.declared.criterion.Criterion.TheVariants.{Goals, Overall}

-- each of these clubs has what the matches of the group add up to for it
abbrev pub AreTotalsFor : Sheet → Results → List ℕ → List ℕ → List Totals → Type 0
AreTotalsFor sheet season group rows table =
    (club : ℕ) → IsTrue (has_club rows club)
    → AreTotals (λ worth. sum_among group worth sheet season club) (totals_at table club)

-- each club of the group has what the matches of the group add up to for it
abbrev pub AreTotalsAmong : Sheet → Results → List ℕ → List Totals → Type 0
AreTotalsAmong sheet season group table = AreTotalsFor sheet season group group table

-- each of these clubs has what all matches add up to for it
abbrev pub AreTotalsOver : Sheet → Results → List ℕ → List Totals → Type 0
AreTotalsOver sheet season rows table =
    (club : ℕ) → IsTrue (has_club rows club)
    → AreTotals (λ worth. sum_of worth sheet season club) (totals_at table club)

-- all rows of the table are at most this far from zero
abbrev pub AreTotalsAllNear : ℕ → List Totals → Type 0
AreTotalsAllNear bound table = (club : ℕ) → AreTotalsNear bound (totals_at table club)

-- what a fixture of the proposed finish is worth to a club among the clubs of a group
abbrev pub worth_proposed : ProposedView → List ℕ → ℕ → ℕ → Worth → ℤ
worth_proposed asked group club fixture worth =
    if_played (worth_among group worth club)
    (slice_index_or (sheet_asked asked).fixtures fixture (record { home = 0; away = 0 }))
    (slice_index_or (finish_asked asked).scores fixture None)

-- the numbers by which clubs are compared: the record of points, difference and goals; difference
-- and goals alone; or all that decides after the records
abbrev pub numbers_by : Criterion → Sheet → Results → List Totals → ℕ → List ℤ
numbers_by Record sheet season table club =
    (totals_at table club).points
    ∷ (totals_at table club).difference
    ∷ (totals_at table club).goals
    ∷ []
numbers_by Goals sheet season table club =
    (totals_at table club).difference ∷ (totals_at table club).goals ∷ []
numbers_by Overall sheet season table club =
    (totals_at table club).difference
    ∷ (totals_at table club).goals
    ∷ (totals_at table club).away_goals
    ∷ (totals_at table club).wins
    ∷ (totals_at table club).away_wins
    ∷ neg_ℤ (pos (rank_of sheet club))
    ∷ []

-- Less if the one club comes before the other
abbrev pub by_criterion : Criterion → Sheet → Results → List Totals → ℕ → ℕ → Ordering
by_criterion criterion sheet season table club other =
    by_first_difference (numbers_by criterion sheet season table club)
    (numbers_by criterion sheet season table other)
