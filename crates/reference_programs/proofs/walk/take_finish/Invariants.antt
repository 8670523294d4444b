use Rattle.std.proofs.Common.{◌≡◌, ℕ, ◌<◌, ◌≤◌, get_or}
use Rattle.reference_programs.specs.declared.reach.Reach.{Reach}
use Rattle.final_rank.specs.declared.span.PlaceRange.{PlaceRange}
use Rattle.reference_programs.specs.inside.Reaches.{with_finish}
use Rattle.reference_programs.proofs.walk.take_finish.Given as goal

-- the clubs that were passed have the finish, the others do not have it yet
abbrev pub invariant-loop-club : goal.invariant-loop-club
invariant-loop-club l = record {
  done : (x : ℕ) (none : Reach) (blank : PlaceRange) → x < l.club
      → get_or l.reaches x none ≡ with_finish (get_or l.fn.reaches x none) (get_or l.spans x blank)
      l.finish;
  rest : (x : ℕ) (none : Reach) → l.club ≤ x → get_or l.reaches x none ≡ get_or l.fn.reaches x none;
}
