use Rattle.std.proofs.Common.{rules, ℤ, List, [], Some, slice_get, FitsSigned, to_z, of_z, w32, sym}
use Rattle.std.proofs.Common.{ap, ◌∙◌}
use Rattle.std.proofs.lemmas.Int.{to_z-of_z}
use Rattle.league_core.specs.search.Keys.{key_ranges, low_key, high_key}
use Rattle.league_core.specs.search.PointRanges.{Range}
use Rattle.turning_keys.proofs.FindLemmas.{range_there}
use Rattle.turning_keys.proofs.find.whole_range.Goals as goal

pub returns : goal.returns
unfolding low_key high_key
returns c = λ sheet season club ends.
    let fits : FitsSigned w32 c.part_of.result = search rules in
    let other_fits : FitsSigned w32 c.part_of-2.result = search rules in
    let least = to_z w32 (of_z w32 c.part_of.result) in
    let greatest = to_z w32 (of_z w32 c.part_of-2.result) in
    range_there (key_ranges sheet season [] club) c.args.place least greatest
    (ap (λ (parts : List ℤ). slice_get parts c.args.place) (sym ends.low) ∙ c.part_of.ensures
    ∙ ap Some (sym (to_z-of_z w32 c.part_of.result fits)))
    (ap (λ (parts : List ℤ). slice_get parts c.args.place) (sym ends.high) ∙ c.part_of-2.ensures
    ∙ ap Some (sym (to_z-of_z w32 c.part_of-2.result other_fits)))
    ∙ ap (λ (it : Range). Some it) (sym c.span.ensures)
