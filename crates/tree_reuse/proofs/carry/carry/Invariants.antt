use Rattle.std.proofs.Common.{◌≡◌, [], reverse}
use Rattle.league_core.specs.search.Trees.{preorder}
use Rattle.tree_reuse.specs.Retargets.{retargeted_from}
use Rattle.tree_reuse.specs.inside.Carrying.{IsWalk, count_to_come}
use Rattle.tree_arena.specs.inside.Steps.{from_next}
use Rattle.tree_reuse.proofs.carry.carry.Given as goal

abbrev pub invariant-loop-next : goal.invariant-loop-next
invariant-loop-next l = record {
  sheet_is : l.zone_box.sheet ≡ l.fn.zone_box.sheet;
  season_is : l.zone_box.season ≡ l.fn.zone_box.season;
  walk : IsWalk l.question l.subtrees l.zone_box (from_next l.next (reverse l.parts.items))
      l.found.items
      (preorder (retargeted_from l.fn.zone_box.sheet l.fn.zone_box.season l.question [] l.tree));
}

abbrev pub decreases-loop-next : goal.decreases-loop-next
decreases-loop-next l = count_to_come l.subtrees (from_next l.next (reverse l.parts.items))
