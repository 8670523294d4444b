use Rattle.std.proofs.Common.{◌+◌, subst, sym}
use Rattle.std.proofs.lemmas.List.{get_or-set_same, get_or_default}
use Rattle.check_bounds.specs.declared.int_range.IntRange.{IntRange}
use Rattle.check_bounds.specs.inside.IntRanges.{no_range, IsRangeWithin}
use Rattle.check_bounds.proofs.IntRangeLemmas.{near_plus}
use Rattle.check_bounds.proofs.table.add.Goals as goal

pub returns-clause-grows : goal.returns-clause-grows
returns-clause-grows c = λ bound near.
    let table = c.args.table.now in
    let club = c.args.club in
    let At : IntRange → Type 0 = λ s. IsRangeWithin (bound + 255) s in
    let Was : IntRange → Type 0 = λ s. IsRangeWithin bound s in
    subst At (sym (get_or-set_same table club c.plus.result no_range c.requires.in_range))
    (near_plus bound 255 _ c.args.range c.plus.result c.plus.ensures
    (subst Was (sym (get_or_default table club _ no_range c.requires.in_range)) near)
    c.requires.small)
