-- Each column by itself.
use Rattle.std.proofs.Common.{arith}
use Rattle.std.proofs.lemmas.Int.{ints}
use Rattle.score_box.specs.inside.Totals.{points_column, difference_column, goals_column}
use Rattle.score_box.specs.inside.Totals.{away_goals_column, wins_column, away_wins_column}
use Rattle.score_box.proofs.TotalLemmas.{each_column}
use Rattle.score_box.proofs.totals.Totals.with.Goals as goal

pub overflow_add-result : goal.overflow_add-result
overflow_add-result c =
    let own = c.requires.near points_column in
    let other = c.requires.other_near points_column in
    omega (arith, ints, own.0, own.1, other.0, other.1)

pub overflow_add-result-2 : goal.overflow_add-result-2
overflow_add-result-2 c =
    let own = c.requires.near difference_column in
    let other = c.requires.other_near difference_column in
    omega (arith, ints, own.0, own.1, other.0, other.1)

pub overflow_add-result-3 : goal.overflow_add-result-3
overflow_add-result-3 c =
    let own = c.requires.near goals_column in
    let other = c.requires.other_near goals_column in
    omega (arith, ints, own.0, own.1, other.0, other.1)

pub overflow_add-result-4 : goal.overflow_add-result-4
overflow_add-result-4 c =
    let own = c.requires.near away_goals_column in
    let other = c.requires.other_near away_goals_column in
    omega (arith, ints, own.0, own.1, other.0, other.1)

pub overflow_add-result-5 : goal.overflow_add-result-5
overflow_add-result-5 c =
    let own = c.requires.near wins_column in
    let other = c.requires.other_near wins_column in
    omega (arith, ints, own.0, own.1, other.0, other.1)

pub overflow_add-result-6 : goal.overflow_add-result-6
overflow_add-result-6 c =
    let own = c.requires.near away_wins_column in
    let other = c.requires.other_near away_wins_column in
    omega (arith, ints, own.0, own.1, other.0, other.1)

pub returns : goal.returns
returns c =
    let own = c.requires.near in
    let other = c.requires.other_near in
    each_column _
    (let a = own points_column in
    let b = other points_column in
    omega (arith, ints, a.0, a.1, b.0, b.1))
    (let a = own difference_column in
    let b = other difference_column in
    omega (arith, ints, a.0, a.1, b.0, b.1))
    (let a = own goals_column in
    let b = other goals_column in
    omega (arith, ints, a.0, a.1, b.0, b.1))
    (let a = own away_goals_column in
    let b = other away_goals_column in
    omega (arith, ints, a.0, a.1, b.0, b.1))
    (let a = own wins_column in
    let b = other wins_column in
    omega (arith, ints, a.0, a.1, b.0, b.1))
    (let a = own away_wins_column in
    let b = other away_wins_column in
    omega (arith, ints, a.0, a.1, b.0, b.1))
