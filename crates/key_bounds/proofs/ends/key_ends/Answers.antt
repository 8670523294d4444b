use Rattle.std.proofs.Common.{◌≡◌, to_z, of_z, w32, ap, ◌∙◌, arith}
use Rattle.std.proofs.lemmas.Int.{ints}
use Rattle.league_core.specs.declared.sheet.Sheet.{Sheet}
use Rattle.league_core.specs.search.Keys.{rank_part}
use Rattle.key_bounds.proofs.KeyLemmas.{low_from, high_from}
use Rattle.key_bounds.proofs.ends.key_ends.Goals as goal

pub returns : goal.returns
returns c =
    let box = c.args.zone_box.now in
    let club = c.args.club in
    let part = c.rank_part-by_rank.result in
    let within = c.rank_part-by_rank.ensures.within in
    let kept : to_z w32 (of_z w32 part) ≡ part = omega (arith, ints, within.0, within.1) in
    let rank = kept ∙ c.rank_part-by_rank.ensures.value
    ∙ ap (λ (s : Sheet). rank_part s club) c.sheet.ensures.sheet in
    record {
      low = c.key_of.ensures ∙ low_from box.sheet box.season box.zone club
          c.club_ends-sums.result c.deducted_from-off.result (to_z w32 (of_z w32 part))
          c.club_ends-sums.ensures c.deducted_from-off.ensures rank;
      high = c.key_of-2.ensures ∙ high_from box.sheet box.season box.zone club
          c.club_ends-sums.result c.deducted_from-off.result (to_z w32 (of_z w32 part))
          c.club_ends-sums.ensures c.deducted_from-off.ensures rank;
    }
