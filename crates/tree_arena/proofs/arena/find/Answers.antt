use Rattle.std.proofs.Common.{◌-◌, arith}
use Rattle.tree_arena.specs.inside.Arena.{number_mark}
use Rattle.tree_arena.proofs.ArenaLemmas.{any_node}
use Rattle.tree_arena.proofs.FindLemmas.{entry_within, none_left, none_from}
use Rattle.tree_arena.proofs.arena.find.Goals as goal

pub bounds-nodes-lent : goal.bounds-nodes-lent
bounds-nodes-lent c =
    entry_within c.args.nodes.now c.args.lent.now (c.loop-place.place - 1) c.requires.listed
    (let within = c.loop-place.invariant.within in omega arith)

pub loop-place-preserved : goal.loop-place-preserved
loop-place-preserved c =
    let before = c.loop-place.invariant in
    let within = before.within in
    record {
      within = omega arith;
      none = none_from (number_mark c.args.number) c.args.nodes.now c.args.lent.now
          (c.loop-place.place - 1) c.loop-place.place any_node
          (entry_within c.args.nodes.now c.args.lent.now (c.loop-place.place - 1) c.requires.listed
          (omega arith)) (omega arith) c.if-is_lent_under.ensures before.none;
    }

pub unreachable-requires : goal.unreachable-requires
unreachable-requires c =
    none_left c.args.number c.args.nodes.now c.args.lent.now
    any_node c.requires.listed c.requires.once
    (λ place within. c.loop-place.invariant.none place
    any_node (omega arith) within)
