-- No number of a row is far from 0.
use Rattle.std.proofs.Common.{◌≡◌, pos, ◌-ℤ◌, [], ◌∷◌, to_z, of_z, w32, arith}
use Rattle.std.proofs.lemmas.Int.{ints, to_z-of_z}
use Rattle.score_box.specs.inside.Totals.{Column, total_in, points_column, difference_column}
use Rattle.score_box.specs.inside.Totals.{goals_column, away_goals_column, wins_column}
use Rattle.score_box.specs.inside.Totals.{away_wins_column}
use Rattle.key_bounds.proofs.ends.key_of.Goals as goal

pub overflow_sub-result : goal.overflow_sub-result
overflow_sub-result c =
    let near = c.requires points_column in
    let off = c.from.ensures in
    omega (arith, ints, near.0, near.1, off)

pub returns : goal.returns
returns c =
    let row = c.args.row.now in
    let near = c.requires points_column in
    let off = c.from.ensures in
    let points : to_z w32 (of_z w32 (to_z w32 (of_z w32 row.points)
    -ℤ to_z w32 (of_z w32 c.from.result))) ≡ row.points -ℤ pos c.args.off =
    omega (arith, ints, near.0, near.1, off) in
    let kept : (column : Column) → to_z w32 (of_z w32 (total_in row column)) ≡ total_in row column =
    λ column. (let here = c.requires column in omega (arith, ints, here.0, here.1)) in
    let by_rank = to_z-of_z w32 c.args.by_rank c.ranges.by_rank in
    (λ i. points i ∷ kept difference_column i ∷ kept goals_column i ∷ kept away_goals_column i
    ∷ kept wins_column i ∷ kept away_wins_column i ∷ by_rank i ∷ [])
