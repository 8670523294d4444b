use Rattle.std.proofs.lemmas.Bool.{ne_eqb}
use Rattle.league_core.proofs.PutLemmas.{put_absent, zones_from-put_leaf, lent_zones-put_same}
use Rattle.league_core.proofs.PutLemmas.{lent_zones-put_other}
use Rattle.league_core.proofs.lending_laws.put_changes_its_leaves_alone.Goals as goal

pub returns-clause-absent : goal.returns-clause-absent
returns-clause-absent c = put_absent

pub returns-clause-zones : goal.returns-clause-zones
returns-clause-zones c = zones_from-put_leaf

pub returns-clause-taken : goal.returns-clause-taken
returns-clause-taken c = lent_zones-put_same

pub returns-clause-others : goal.returns-clause-others
returns-clause-others c =
    λ number other new tree zone apart. lent_zones-put_other number other new tree zone
    (ne_eqb other number apart)
