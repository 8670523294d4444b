-- The next pair adds its surplus at home.
use Rattle.std.proofs.Common.{◌≡◌, ℕ, ◌+◌, ◌<◌, cond, subst, length, arith}
use Rattle.std.proofs.lemmas.Int.{ints}
use Rattle.std.proofs.lemmas.List.Sums.{sum_by_more}
use Rattle.flow_bound.specs.declared.tally.Pair.{Pair}
use Rattle.flow_bound.specs.inside.Parts.{IsClubTable, side_of}
use Rattle.flow_bound.specs.inside.Network.{has_home_in}
use Rattle.flow_bound.proofs.network.weights_of.Goals as goal

pub loop-pair-preserved : goal.loop-pair-preserved
loop-pair-preserved c = record {
  sums = λ side.
      let pairs = c.args.pairs.now in
      let i = c.loop-pair.pair-index in
      let part = side_of c.args.rest in
      let blank : Pair = record { home = 0; away = 0; surplus = 0 } in
      let below : i < length pairs = c.loop-pair-test.true in
      let home = sum_by_more (λ (p : Pair). cond (has_home_in part side p) p.surplus 0) pairs i
      blank below in
      omega (arith, ints, c.credit_home.ensures.sums side, c.loop-pair.invariant.sums side);
  sized =
      let i = c.loop-pair.pair-index in
      let next : 1200 + i + 1 ≡ 1200 + (i + 1) = omega arith in
      subst (λ (n : ℕ). IsClubTable n c.credit_home.new.table) next
      (c.credit_home.ensures.sized (1200 + i) c.loop-pair.invariant.sized);
}
