use Rattle.std.proofs.Common.{arith, reverse}
use Rattle.league_core.specs.inside.Lending.{all_opened}
use Rattle.tree_arena.proofs.RoomLemmas.{last_lent, opens_last, opens_all}
use Rattle.tree_arena.proofs.KeptRoomLemmas.{leads_opened}
use Rattle.tree_arena.proofs.tree.Tree.reopen_all.Goals as goal

pub write-requires : goal.write-requires
write-requires c =
    let last = last_lent c.loop-self.self-inside.nodes c.loop-self.self-inside.live
    c.loop-self.self-inside.lent c.pop-leaf.new.self c.pop-leaf.result
    c.loop-self.invariant.opens.roomy c.pop-leaf.ensures.items in
    last.0

pub loop-self-preserved : goal.loop-self-preserved
loop-self-preserved c = record {
  opens = opens_last (all_opened c.args.self.now) c.loop-self.self-inside.nodes c.write.new.nodes
      c.loop-self.self-inside.live c.loop-self.self-inside.lent c.pop-leaf.new.self
      c.pop-leaf.result c.loop-self.invariant.opens.roomy
      c.loop-self.invariant.opens.same c.pop-leaf.ensures.items c.write.ensures.room
      c.write.ensures.items;
  leads = leads_opened c.loop-self.self-inside.nodes c.write.new.nodes
      c.loop-self.self-inside.live c.loop-self.self-inside.lent c.pop-leaf.new.self
      c.pop-leaf.result (reverse c.loop-self.self-inside.zone_box) c.loop-self.self-inside.last
      c.loop-self.invariant.opens.roomy c.pop-leaf.ensures.items c.write.ensures.items
      c.loop-self.invariant.leads;
}

pub returns : goal.returns
returns c =
    opens_all (all_opened c.args.self.now) c.loop-self.self-inside.nodes
    c.loop-self.self-inside.live c.loop-self.self-inside.lent c.loop-self.invariant.opens
    (let size = c.len.ensures in omega arith)
