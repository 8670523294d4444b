use Rattle.std.proofs.Common.{◌≡◌, ◌∙◌, ℕ, ap, arith, length, set, subst, sym}
use Rattle.score_box.specs.inside.ZoneBoxViews.{ZoneBoxView}
use Rattle.branch_pool.specs.inside.Adoptions.{seat_adopted_if}
use Rattle.branch_pool.proofs.AdoptAllLemmas.{AreLeft, last_left, left_after, seat_last}
use Rattle.branch_pool.proofs.adopt.adopt_by.Goals as goal

pub adopt_left-requires-clause-adoptable : goal.adopt_left-requires-clause-adoptable
adopt_left-requires-clause-adoptable c =
    let rest = c.pop.new.self.items in
    let seats = c.loop-tree.seats.items in
    let seat = c.index_mut-seat.result.now in
    let at : c.len.result ≡ length rest =
    omega (arith, c.pop.new.self.ok.0, c.len.ensures) in
    let last = last_left c.args.zone_box.now.sheet seats c.loop-tree.trees.items rest
    c.in-Some.tree c.loop-tree.invariant.left.adoptable c.in-Some.ensures.items in
    rw c.loop-tree.invariant.same (last.own seat
    (seat_last seats rest c.len.result seat at last.within c.index_mut-seat.ensures.value))

pub loop-tree-preserved : goal.loop-tree-preserved
loop-tree-preserved c =
    let sheet = c.args.zone_box.now.sheet in
    let season = c.args.zone_box.now.season in
    let rest = c.pop.new.self.items in
    let seats = c.loop-tree.seats.items in
    let seat = c.index_mut-seat.result.now in
    let at : c.len.result ≡ length rest =
    omega (arith, c.pop.new.self.ok.0, c.len.ensures) in
    let last = last_left sheet seats c.loop-tree.trees.items rest c.in-Some.tree
    c.loop-tree.invariant.left.adoptable c.in-Some.ensures.items in
    let found = seat_last seats rest c.len.result seat at last.within
    c.index_mut-seat.ensures.value in
    let made = c.in_ok-adopt_left.ensures.seat
    ∙ ap (λ (zone_box : ZoneBoxView).
    seat_adopted_if zone_box.sheet zone_box.season c.in-Some.tree seat)
    c.loop-tree.invariant.same in
    record {
      left = subst (λ (place : ℕ). AreLeft sheet season c.args.seats.now.items c.args.trees.items
          (set seats place c.adopt_left.new.seat) rest) (sym at)
          (left_after sheet season c.args.seats.now.items seats c.args.trees.items
          c.loop-tree.trees.items rest c.in-Some.tree seat c.adopt_left.new.seat
          c.loop-tree.invariant.left c.in-Some.ensures.items found made);
      same = c.in_ok-adopt_left.ensures.same ∙ c.loop-tree.invariant.same;
    }
