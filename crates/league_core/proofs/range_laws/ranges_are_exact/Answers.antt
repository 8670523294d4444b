use Rattle.std.proofs.Common.{refl}
use Rattle.league_core.specs.search.Options.{has_score}
use Rattle.league_core.proofs.ExtentLemmas.{extent-is, extent_at, range_of-extent}
use Rattle.league_core.specs.search.PointRanges.{range_of}
use Rattle.league_core.proofs.range_laws.ranges_are_exact.Goals as goal

pub returns : goal.returns
returns c value options range some = (
  λ extent. extent-is (has_score options) value range options extent (λ score. refl),
  λ same. extent_at (has_score options) value range (range_of value options) same
      (range_of-extent value options some),
)
