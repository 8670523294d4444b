use Rattle.std.proofs.Common.{sym, subst, arith}
use Rattle.check_bounds.specs.declared.int_range.IntRange.{IntRange}
use Rattle.check_bounds.specs.inside.IntRanges.{IsRangeWithin}
use Rattle.check_bounds.proofs.IntRangeLemmas.{near_wider}
use Rattle.check_bounds.proofs.won.points_of_club.Goals as goal

pub returns-clause-near : goal.returns-clause-near
returns-clause-near c =
    let Near : IntRange → Type 0 = λ range. IsRangeWithin 2000 range in
    near_wider 12000 200000 c.less.result (omega arith)
    (c.less.ensures.near 2000 (subst Near (sym c.range_at.ensures) c.requires.near))
