use Rattle.reason_laws.proofs.SplitLemmas.{leaves_cover, leaves_cover_zone}
use Rattle.reason_laws.proofs.splits.leaves_cover_the_season.Goals as goal

pub returns-clause-season : goal.returns-clause-season
returns-clause-season c = leaves_cover

pub returns-clause-zone : goal.returns-clause-zone
returns-clause-zone c = leaves_cover_zone
