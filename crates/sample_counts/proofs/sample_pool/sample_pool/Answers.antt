use Rattle.std.proofs.Common.{List, length, ap, ◌∙◌, arith}
use Rattle.league_core.specs.declared.season.Event.{Event}
use Rattle.sample_counts.proofs.HeardLemmas.{sample_is_short}
use Rattle.sample_counts.proofs.sample_pool.sample_pool.Goals as goal

pub tell_all-requires-clause-few : goal.tell_all-requires-clause-few
tell_all-requires-clause-few c =
    let long = ap (λ (events : List Event). length events)
    (c.as_slice.ensures.value ∙ c.in_ok-sheet.ensures.events)
    ∙ sample_is_short c.args.seed in
    omega (arith, long)
