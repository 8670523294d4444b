use Rattle.std.proofs.Common.{◌++◌, [], ◌∷◌, map, ap, sym, ◌∙◌, arith}
use Rattle.std.specs.List.{range_with_len}
use Rattle.std.proofs.lemmas.List.FromFn.{map-range_with_len_more}
use Rattle.sample_counts.specs.Samples.{sample_club}
use Rattle.sample_counts.proofs.sample.clubs.Goals as goal

pub loop-club-preserved : goal.loop-club-preserved
loop-club-preserved c =
    let club = c.loop-club.club in
    c.in_ok-push.ensures.ok
    ∙ ap (λ clubs. clubs ++ c.in_ok-club_of.field-0 ∷ []) c.loop-club.invariant
    ∙ ap (λ made. map sample_club (range_with_len 0 club) ++ made ∷ []) c.in_ok-club_of.ensures
    ∙ sym (map-range_with_len_more sample_club 0 club club (omega arith))
