-- The clubs of a pair of the set have their nodes.
use Rattle.std.proofs.Common.{sym, ◌∙◌, arith}
use Rattle.flow_bound.proofs.SetLemmas.{side_of-lt}
use Rattle.flow_bound.proofs.network.add_pair.Goals as goal

pub add_arc-requires-clause-from_in_range : goal.add_arc-requires-clause-from_in_range
add_arc-requires-clause-from_in_range c =
    omega (
      arith,
      c.requires.nodes,
      c.requires.numbered.within c.args.pair.home
          (sym c.has.ensures ∙ c.if-not-has.false),
    )

pub add_arc-requires-clause-to_in_range : goal.add_arc-requires-clause-to_in_range
add_arc-requires-clause-to_in_range c =
    omega (
      arith,
      c.requires.nodes,
      c.requires.numbered.within c.args.pair.away
          (sym c.has-else-not-has.ensures ∙ c.if-not-has-2.false),
    )

pub bounds-places-pair : goal.bounds-places-pair
bounds-places-pair c =
    let low = side_of-lt c.args.set c.args.pair.home (sym c.has.ensures ∙ c.if-not-has.false) in
    omega (arith, c.requires.numbered.long)

pub bounds-places-pair-2 : goal.bounds-places-pair-2
bounds-places-pair-2 c =
    let low = side_of-lt c.args.set c.args.pair.away
    (sym c.has-else-not-has.ensures ∙ c.if-not-has-2.false) in
    omega (arith, c.requires.numbered.long)
