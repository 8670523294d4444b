use Rattle.std.proofs.Common.{◌≡◌, ◌*◌, pos, ◌-ℤ◌, ◌≤ℤ◌, length, slice_index}
use Rattle.std.specs.Prelude.{neg_ℤ}
use Rattle.league_core.specs.search.PointRanges.{total_of}
use Rattle.score_box.specs.inside.Ends.{end_at}
use Rattle.score_box.proofs.set_points.alone.Given as goal

-- what the clubs so far have
abbrev pub invariant-loop-club : goal.invariant-loop-club
invariant-loop-club l = record {
  least : l.points.least ≡ total_of
      (λ club. end_at l.ends.lows club -ℤ pos (slice_index l.deductions club)) l.yielded;
  most : l.points.most ≡ total_of
      (λ club. end_at l.ends.highs club -ℤ pos (slice_index l.deductions club)) l.yielded;
  near_least : (neg_ℤ (pos (1800 * length l.yielded)) ≤ℤ l.points.least)
      × (l.points.least ≤ℤ pos (1800 * length l.yielded));
  near_most : (neg_ℤ (pos (1800 * length l.yielded)) ≤ℤ l.points.most)
      × (l.points.most ≤ℤ pos (1800 * length l.yielded));
}
