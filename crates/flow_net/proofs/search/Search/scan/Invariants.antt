use Rattle.std.proofs.Common.{◌≡◌, ◌≤◌, false, length}
use Rattle.flow_net.specs.inside.Cut.{marked}
use Rattle.flow_net.specs.inside.Lists.{IsNewest}
use Rattle.flow_net.specs.inside.Search.{IsGrown, IsScanned, IsSearch, reached_at}
use Rattle.flow_net.proofs.search.Search.scan.Given as goal

-- the arcs from the named one on have been looked at, and the sink was not reached
abbrev pub invariant-loop-name : goal.invariant-loop-name
invariant-loop-name l =
    let node = (reached_at l.fn.self.queue.items l.place).node in
    record {
      search : IsSearch l.graph.arcs.items l.flow l.self.reached.items l.self.queue.items;
      grown : IsGrown l.fn.self l.self;
      named : l.name ≤ length l.graph.arcs.items;
      newest : IsNewest l.way l.graph.arcs.items node l.name l.name;
      scanned : IsScanned l.graph.arcs.items l.flow l.way l.self.reached.items node l.name;
      missed : marked l.self.reached.items l.sink ≡ false;
    }

abbrev pub decreases-loop-name : goal.decreases-loop-name
decreases-loop-name l = l.name
