-- The next club has its arc, or none if it is not in the set.
use mir.Syntax.{w64}
use mir.Val.{to_z, of_z}
use Rattle.std.proofs.Common.{◌≡◌, ℕ, pos, ◌+ℤ◌, Bool, cond, List, [], ◌∷◌, length, refl, ap, subst}
use Rattle.std.proofs.Common.{◌∙◌, arith}
use Rattle.std.proofs.lemmas.Int.{ints}
use Rattle.flow_net.specs.declared.arcs.Arc.{Arc}
use Rattle.flow_net.specs.inside.Cut.{capacity_of}
use Rattle.flow_bound.specs.inside.Network.{through}
use Rattle.flow_bound.specs.inside.Parts.{entry, in_both, side_of, sum_below}
use Rattle.flow_bound.proofs.PartLemmas.{sum_below-next}
use Rattle.flow_bound.proofs.network.add_clubs.Goals as goal

no_arc_no_capacity : (side : ℕ → Bool) (arcs : List Arc) → length arcs ≡ 0 → capacity_of side arcs
    ≡ 0
no_arc_no_capacity side [] none = refl
no_arc_no_capacity side (arc ∷ arcs) none = absurd (omega arith)

pub loop-club-init : goal.loop-club-init
unfolding sum_below
loop-club-init c = record {
  cut = λ side cut. let none = no_arc_no_capacity side c.args.net.now.arcs c.requires.empty in
      omega (arith, ints);
  within = omega arith;
  count = omega (arith, c.requires.empty);
  nodes = refl;
  room = refl;
}

pub loop-club-preserved : goal.loop-club-preserved
loop-club-preserved c = record {
  cut = λ side cut.
      let club = c.loop-club.club in
      let weight = entry c.args.weights.now club in
      let next = sum_below-next club (λ x. cond (in_both (side_of c.args.set) (through
      c.args.places.now side) x) (entry
      c.args.weights.now x) (pos 0)) in
      let fits : to_z w64 (of_z w64 weight) ≡ weight = omega (
        arith,
        ints,
        c.requires.sized.least
            club,
        c.requires.sized.most club,
      ) in
      let same = ap (λ n. cond (in_both (side_of c.args.set) (through c.args.places.now side) club)
      n (pos 0)) fits in
      omega (
        arith,
        ints,
        c.add_club-total.ensures.cut side cut,
        c.loop-club.invariant.cut side
            cut,
      );
  within = omega (arith, ints, c.add_club-total.ensures.within, c.loop-club.invariant.within);
  count = omega (arith, c.add_club-total.ensures.count, c.loop-club.invariant.count);
  nodes = c.add_club-total.ensures.nodes ∙ c.loop-club.invariant.nodes;
  room = c.add_club-total.ensures.room ∙ c.loop-club.invariant.room;
}

pub returns-clause-cut : goal.returns-clause-cut
returns-clause-cut c side cut =
    let all : c.loop-club.club ≡ 32 = omega (
      arith,
      c.loop-club-test.false,
      c.loop-club.auto.club-end,
    ) in
    subst (λ (n : ℕ). pos (capacity_of side c.loop-club.net.arcs) +ℤ sum_below n (λ x. cond
    (in_both (side_of c.args.set) (through c.args.places.now side) x) (entry c.args.weights.now x)
    (pos 0)) ≡ pos
    c.loop-club.total) all (c.loop-club.invariant.cut side cut)

pub add_club-total-requires-clause-node : goal.add_club-total-requires-clause-node
add_club-total-requires-clause-node c has =
    omega (arith, c.requires.numbered.within c.loop-club.club has, c.requires.clubs)
