use Rattle.std.proofs.Common.{◌≡◌, ◌<◌, ℕ, false, length, get_or}
use Rattle.example_finish.specs.inside.Wished.{has_wish}
use Rattle.example_finish.proofs.wishes.Wishes.table.Given as goal

-- the clubs passed have their wishes
abbrev pub invariant-loop-club : goal.invariant-loop-club
invariant-loop-club l = record {
  long : length l.table ≡ 24;
  passed : (k : ℕ) → k < l.club → get_or l.table k false ≡ has_wish l.self.near k l.self.claim;
}
