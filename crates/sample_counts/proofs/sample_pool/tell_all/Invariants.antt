use Rattle.std.proofs.Common.{take}
use Rattle.sample_counts.specs.inside.SamplePools.{HasHeard}
use Rattle.sample_counts.proofs.sample_pool.tell_all.Given as goal

-- the events so far are heard
abbrev pub invariant-loop-event : goal.invariant-loop-event
invariant-loop-event l = HasHeard l.fn.pool (take l.event-index l.events) l.pool
