use Rattle.turning_keys.specs.inside.TurningSearches.{range_spanned}
use Rattle.turning_keys.proofs.FindLemmas.{whole_halving}
use Rattle.turning_keys.proofs.find.find_part.Goals as goal

pub narrow-requires-clause-halving : goal.narrow-requires-clause-halving
narrow-requires-clause-halving c =
    whole_halving c.args.sheet.now c.args.season.now c.args.sought.claim c.args.sought.club
    c.requires.league.limits c.scores-scores.ensures.within c.requires.in_range
    c.args.reached.now (range_spanned c.args.whole) c.requires.reached c.requires.room
    c.requires.whole
