use Rattle.std.proofs.Common.{◌≡◌}
use Rattle.par_check.specs.FeedAsks.{AreAsksSoFar}
use Rattle.par_check.proofs.feed_asks.asks_of.Given as goal

abbrev pub invariant-loop-entry : goal.invariant-loop-entry
invariant-loop-entry l =
    AreAsksSoFar l.sheet l.entries l.entry-index l.asks.log.items l.asks.epochs.items
    × (l.asks.kind ≡ l.fn.kind)
