use Rattle.std.proofs.Common.{◌≡◌, ℕ, ◌<◌, ◌≤◌, pos, neg_ℤ, ◌+ℤ◌, ◌≤ℤ◌, length}
use Rattle.flow_bound.specs.inside.Parts.{entry}
use Rattle.flow_bound.specs.inside.Fixtures.{own_end}
use Rattle.flow_bound.proofs.table.own_excess_table.Given as goal

-- the clubs so far have their own ends
abbrev pub invariant-loop-club : goal.invariant-loop-club
invariant-loop-club l = record {
  done : (other : ℕ) → other < l.club
      → entry l.table other ≡ l.fn.level
      +ℤ own_end l.cut l.zone_box.sheet l.zone_box.season l.zone_box.zone other;
  near : (other : ℕ) → other < l.club
      → (neg_ℤ (pos 8160) ≤ℤ own_end l.cut l.zone_box.sheet l.zone_box.season l.zone_box.zone other)
      × (own_end l.cut l.zone_box.sheet l.zone_box.season l.zone_box.zone other ≤ℤ pos 8160);
  long : length l.table ≡ 32;
  left : (other : ℕ) → l.club ≤ other → other < 32 → entry l.table other ≡ l.fn.level;
}
