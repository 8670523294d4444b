-- Comparisons by tables of sums are the comparisons of the criteria.
use Rattle.std.proofs.Common.{◌≡◌, ℕ, pos, neg_ℤ, List, [], ◌∷◌}
use Rattle.std.proofs.Common.{refl, true}
use Rattle.league_core.specs.declared.sheet.Sheet.{Sheet}
use Rattle.league_core.specs.declared.question.Question.{Question}
use Rattle.league_core.specs.declared.zone.Literal.{Literal}
use Rattle.league_core.specs.game.Results.{Results}
use Rattle.league_core.specs.game.Sums.{has_club}
use Rattle.league_core.specs.game.HeadToHead.{by_first_difference, by_head_to_head}
use Rattle.league_core.specs.game.Ahead.{by_overall, by_first_sums, rank_of}
use Rattle.league_core.specs.search.Proposals.{proposed_finish}
use Rattle.score_box.specs.declared.totals.Totals.{Totals}
use Rattle.score_box.specs.inside.Totals.{points_column, difference_column, goals_column}
use Rattle.score_box.specs.inside.Totals.{away_goals_column, wins_column, away_wins_column}
use Rattle.example_finish.specs.declared.criterion.Criterion.TheVariants.{Record}
use Rattle.example_finish.specs.declared.criterion.Criterion.TheVariants.{Goals, Overall}
use Rattle.example_finish.specs.inside.ProposedTotals.{AreTotalsAmong, AreTotalsOver, by_criterion}

-- nothing is taken off in the proposed finish but what is taken off in the season
pub deductions_stay : (sheet : Sheet) (season : Results) (question : Question)
    (zone : List Literal)
    → (proposed_finish sheet season question zone).deductions ≡ season.deductions
unfolding proposed_finish
deductions_stay sheet season question zone = refl

-- difference and goals over all matches
pub by_goals_is : (sheet other : Sheet) (season finish : Results) (group : List ℕ)
    (table : List Totals) (club rival : ℕ) → AreTotalsOver sheet finish group table
    → has_club group club ≡ true → has_club group rival ≡ true
    → by_criterion Goals other season table club rival ≡ by_first_sums sheet finish club rival
by_goals_is sheet other season finish group table club rival are has has_rival =
    let mine = are club has in
    let theirs = are rival has_rival in
    (λ i. by_first_difference (mine difference_column i ∷ mine goals_column i ∷ [])
    (theirs difference_column i ∷ theirs goals_column i ∷ []))

-- all that decides after the records
pub by_overall_is : (sheet other : Sheet) (season finish : Results) (group : List ℕ)
    (table : List Totals) (club rival : ℕ) → other ≡ sheet
    → AreTotalsOver sheet finish group table
    → has_club group club ≡ true → has_club group rival ≡ true
    → by_criterion Overall other season table club rival ≡ by_overall sheet finish club rival
by_overall_is sheet other season finish group table club rival same are has has_rival =
    let mine = are club has in
    let theirs = are rival has_rival in
    (λ i. by_first_difference
    (mine difference_column i ∷ mine goals_column i ∷ mine away_goals_column i ∷ mine wins_column i
    ∷ mine away_wins_column i
    ∷ neg_ℤ (pos (rank_of (same i) club)) ∷ [])
    (theirs difference_column i ∷ theirs goals_column i ∷ theirs away_goals_column i ∷ theirs
    wins_column i
    ∷ theirs away_wins_column i ∷ neg_ℤ (pos (rank_of (same i) rival)) ∷ []))

-- the record in a group
pub by_record_is : (sheet other : Sheet) (season finish : Results) (group : List ℕ)
    (table : List Totals) (club rival : ℕ) → AreTotalsAmong sheet finish group table
    → has_club group club ≡ true → has_club group rival ≡ true
    → by_criterion Record other season table club rival
    ≡ by_head_to_head sheet finish group club rival
by_record_is sheet other season finish group table club rival are has has_rival =
    let mine = are club has in
    let theirs = are rival has_rival in
    (λ i. by_first_difference (mine points_column i ∷ mine difference_column i ∷ mine goals_column
    i ∷ [])
    (theirs points_column i ∷ theirs difference_column i ∷ theirs goals_column i ∷ []))
