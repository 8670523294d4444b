-- Each sum by itself.
use Rattle.std.proofs.Common.{◌≡◌, ℕ, ◌+◌, ℤ, ◌+ℤ◌, to_z, of_z, w32}
use Rattle.league_core.specs.game.Sums.{if_played}
use Rattle.tie_criteria.specs.declared.measure.Measure.{Measure}
use Rattle.tie_criteria.specs.declared.measure.Measure.TheVariants.{Points, Difference, Goals}
use Rattle.tie_criteria.specs.declared.measure.Measure.TheVariants.{AwayGoals, Wins, AwayWins}
use Rattle.tie_criteria.specs.declared.sums.Sums.{Sums}
use Rattle.tie_criteria.specs.inside.Measures.{worth_of, value_in}
use Rattle.tie_criteria.specs.inside.Sums.{sum_by, IsNear}
use Rattle.tie_criteria.proofs.SumLemmas.{near_kept, grown_sum, grown_near, each_measure}
use Rattle.tie_criteria.proofs.sums.Sums.plus.Goals as goal

pub grown-requires : goal.grown-requires
grown-requires c = near_kept c.args.self.now.points (c.requires Points)

pub grown-requires-2 : goal.grown-requires-2
grown-requires-2 c = near_kept c.args.self.now.difference (c.requires Difference)

pub grown-requires-3 : goal.grown-requires-3
grown-requires-3 c = near_kept c.args.self.now.goals (c.requires Goals)

pub grown-requires-4 : goal.grown-requires-4
grown-requires-4 c = near_kept c.args.self.now.away_goals (c.requires AwayGoals)

pub grown-requires-5 : goal.grown-requires-5
grown-requires-5 c = near_kept c.args.self.now.wins (c.requires Wins)

pub grown-requires-6 : goal.grown-requires-6
grown-requires-6 c = near_kept c.args.self.now.away_wins (c.requires AwayWins)

pub returns-clause-sums : goal.returns-clause-sums
returns-clause-sums c =
    let old = c.args.self.now in
    let new : Sums = record {
      points = to_z w32 (of_z w32 c.grown.result);
      difference = to_z w32 (of_z w32 c.grown-2.result);
      goals = to_z w32 (of_z w32 c.grown-3.result);
      away_goals = to_z w32 (of_z w32 c.grown-4.result);
      wins = to_z w32 (of_z w32 c.grown-5.result);
      away_wins = to_z w32 (of_z w32 c.grown-6.result);
    } in
    let worth : Measure → ℤ = λ measure. if_played
    (value_in c.args.matches (worth_of measure) c.args.club) c.args.fixture c.args.score in
    each_measure (λ measure. sum_by new measure ≡ (sum_by old measure +ℤ worth measure))
    (grown_sum old.points c.grown.result (worth Points)
    (c.requires Points) c.grown.ensures.sum c.grown.ensures.near)
    (grown_sum old.difference c.grown-2.result (worth Difference)
    (c.requires Difference) c.grown-2.ensures.sum c.grown-2.ensures.near)
    (grown_sum old.goals c.grown-3.result (worth Goals)
    (c.requires Goals) c.grown-3.ensures.sum c.grown-3.ensures.near)
    (grown_sum old.away_goals c.grown-4.result (worth AwayGoals)
    (c.requires AwayGoals) c.grown-4.ensures.sum c.grown-4.ensures.near)
    (grown_sum old.wins c.grown-5.result (worth Wins)
    (c.requires Wins) c.grown-5.ensures.sum c.grown-5.ensures.near)
    (grown_sum old.away_wins c.grown-6.result (worth AwayWins)
    (c.requires AwayWins) c.grown-6.ensures.sum c.grown-6.ensures.near)

pub returns-clause-near : goal.returns-clause-near
returns-clause-near c =
    let old = c.args.self.now in
    let new : Sums = record {
      points = to_z w32 (of_z w32 c.grown.result);
      difference = to_z w32 (of_z w32 c.grown-2.result);
      goals = to_z w32 (of_z w32 c.grown-3.result);
      away_goals = to_z w32 (of_z w32 c.grown-4.result);
      wins = to_z w32 (of_z w32 c.grown-5.result);
      away_wins = to_z w32 (of_z w32 c.grown-6.result);
    } in
    each_measure (λ measure. (bound : ℕ) → IsNear bound (sum_by old measure)
    → IsNear (bound + 255) (sum_by new measure))
    (grown_near old.points c.grown.result (c.requires Points) c.grown.ensures.near)
    (grown_near old.difference c.grown-2.result (c.requires Difference) c.grown-2.ensures.near)
    (grown_near old.goals c.grown-3.result (c.requires Goals) c.grown-3.ensures.near)
    (grown_near old.away_goals c.grown-4.result (c.requires AwayGoals) c.grown-4.ensures.near)
    (grown_near old.wins c.grown-5.result (c.requires Wins) c.grown-5.ensures.near)
    (grown_near old.away_wins c.grown-6.result (c.requires AwayWins) c.grown-6.ensures.near)
