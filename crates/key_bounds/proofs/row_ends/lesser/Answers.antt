-- Each column by itself.
use Rattle.std.proofs.Common.{arith}
use Rattle.std.proofs.lemmas.Int.{ints, clamps}
use Rattle.score_box.proofs.TotalLemmas.{each_column}
use Rattle.key_bounds.proofs.row_ends.lesser.Goals as goal

pub returns : goal.returns
returns c =
    each_column _ (omega (arith, ints, clamps)) (omega (arith, ints, clamps))
    (omega (arith, ints, clamps)) (omega (arith, ints, clamps)) (omega (arith, ints, clamps))
    (omega (arith, ints, clamps))
