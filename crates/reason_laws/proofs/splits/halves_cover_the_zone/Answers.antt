use Rattle.reason_laws.proofs.SplitLemmas.{halves_cover, halves_apart}
use Rattle.reason_laws.proofs.splits.halves_cover_the_zone.Goals as goal

pub returns-clause-covered : goal.returns-clause-covered
returns-clause-covered c = halves_cover

pub returns-clause-apart : goal.returns-clause-apart
returns-clause-apart c = halves_apart
