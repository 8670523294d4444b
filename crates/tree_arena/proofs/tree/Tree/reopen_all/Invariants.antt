use Rattle.std.proofs.Common.{length, reverse}
use Rattle.league_core.specs.inside.Lending.{all_opened}
use Rattle.tree_arena.specs.inside.LastPaths.{LeadsToNode}
use Rattle.tree_arena.proofs.RoomLemmas.{OpensLast}
use Rattle.tree_arena.proofs.tree.Tree.reopen_all.Given as goal

abbrev pub invariant-loop-self : goal.invariant-loop-self
invariant-loop-self l = record {
  opens : OpensLast (all_opened l.fn.self) l.self-inside.nodes l.self-inside.live
      l.self-inside.lent;
  leads : LeadsToNode l.self-inside.nodes.items (reverse l.self-inside.zone_box) l.self-inside.last;
}

abbrev pub decreases-loop-self : goal.decreases-loop-self
decreases-loop-self l = length l.self-inside.lent.items
