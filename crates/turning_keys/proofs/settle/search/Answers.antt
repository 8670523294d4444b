use Rattle.std.proofs.Common.{refl}
use Rattle.turning_keys.proofs.ReachedLemmas.{example_reached, refuted_at}
use Rattle.turning_keys.proofs.settle.search.Goals as goal

pub returns-in-Won : goal.returns-in-Won
returns-in-Won c =
    let found = rw c.in-Won.is at c.in_ok-found.ensures in
    example_reached c.args.sheet.now c.args.season.now c.args.sought.club c.args.sought.claim _
    c.in-Won.found (rw c.halving.ensures.question at found)

pub returns-in-Refuted : goal.returns-in-Refuted
returns-in-Refuted c =
    let found = rw c.in-Refuted.is at c.in_ok-found.ensures in (
      refl,
      refuted_at c.args.sheet.now c.args.season.now c.args.sought.club c.args.sought.claim _ _ _
          c.requires.league.limits c.scores-scores.ensures.within c.requires.in_range
          (rw c.halving.ensures.question at found),
    )
