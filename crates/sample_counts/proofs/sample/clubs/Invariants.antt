use Rattle.std.proofs.Common.{◌≡◌, map}
use Rattle.std.specs.List.{range_with_len}
use Rattle.sample_counts.specs.Samples.{sample_club}
use Rattle.sample_counts.proofs.sample.clubs.Given as goal

-- the clubs so far
abbrev pub invariant-loop-club : goal.invariant-loop-club
invariant-loop-club l = l.clubs ≡ map sample_club (range_with_len 0 l.club)
