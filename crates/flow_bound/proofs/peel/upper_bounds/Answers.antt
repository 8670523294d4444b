-- The next match adds its surplus at both ends.
use Rattle.std.proofs.Common.{◌≡◌, ℕ, ◌+◌, ◌*◌, ◌<◌, pos, ◌+ℤ◌, length, take, subst, arith}
use Rattle.std.proofs.lemmas.Int.{ints}
use Rattle.std.proofs.lemmas.List.Sums.{sum_by_more}
use Rattle.flow_bound.specs.inside.Fixtures.{sum_at}
use Rattle.flow_bound.specs.inside.Parts.{IsClubTable, side_of, sum_of_side}
use Rattle.flow_bound.specs.inside.Network.{has_away_in, has_home_in}
use Rattle.flow_bound.proofs.MeetingLemmas.{counted_at}
use Rattle.flow_bound.proofs.peel.upper_bounds.Goals as goal

pub bounds-held-i : goal.bounds-held-i
bounds-held-i c = omega (arith, c.requires.room, c.requires.many, c.loop-i-test.true)

pub loop-i-preserved : goal.loop-i-preserved
loop-i-preserved c = record {
  sums = λ side.
      let box = c.args.zone_box.now in
      let cut = c.args.cut in
      let held = c.args.held.now in
      let i = c.loop-i.i in
      let part = side_of c.args.rest in
      let within : i < length held =
      omega (arith, c.requires.room, c.requires.many, c.loop-i-test.true) in
      let home = sum_by_more (counted_at (has_home_in part side) cut box) held i 0 within in
      let away = sum_by_more (counted_at (has_away_in part side) cut box) held i 0 within in
      omega (
        arith,
        ints,
        home,
        away,
        c.credit_match.ensures.sums side,
        c.loop-i.invariant.sums side,
      );
  sized =
      let i = c.loop-i.i in
      let next : 1200 + 2 * i + 2 ≡ 1200 + 2 * (i + 1) = omega arith in
      subst (λ (n : ℕ). IsClubTable n c.credit_match.new.table) next
      (c.credit_match.ensures.sized (1200 + 2 * i) c.loop-i.invariant.sized);
}

pub credit_match-requires-clause-in_range : goal.credit_match-requires-clause-in_range
credit_match-requires-clause-in_range c = c.requires.in_range c.loop-i.i 0 c.loop-i-test.true

pub credit_match-requires-clause-sized : goal.credit_match-requires-clause-sized
credit_match-requires-clause-sized c = (
  1200 + 2 * c.loop-i.i,
  omega (arith, c.loop-i-test.true, c.requires.many),
  c.loop-i.invariant.sized,
)

pub returns : goal.returns
returns c side =
    let box = c.args.zone_box.now in
    let held = c.args.held.now in
    let part = side_of c.args.rest in
    let all : c.loop-i.i ≡ c.args.count =
    omega (arith, c.loop-i-test.false, c.loop-i.auto.i-end) in
    subst (λ n. sum_of_side c.loop-i.reach side
    ≡ sum_of_side c.args.alone.now side
    +ℤ pos (sum_at (has_home_in part side) c.args.cut box (take n held))
    +ℤ pos (sum_at (has_away_in part side) c.args.cut box (take n held))) all
    (c.loop-i.invariant.sums side)
