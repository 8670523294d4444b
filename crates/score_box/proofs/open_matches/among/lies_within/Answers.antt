-- Without the group nothing is left of the two clubs exactly when both are of it.
use Rattle.score_box.proofs.OpenSideLemmas.{none_outside}
use Rattle.score_box.proofs.open_matches.among.lies_within.Goals as goal

pub returns : goal.returns
returns c match are =
    none_outside match c.args.side c.args.group c.without.result c.is_empty.result are
    c.without.ensures c.is_empty.ensures
