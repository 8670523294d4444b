use Rattle.std.proofs.Common.{◌*◌, ◌+◌, ◌-◌, List, drop, length}
use Rattle.league_core.specs.declared.zone.Literal.{Literal}
use Rattle.near_bound.specs.inside.Ties.{IsTieIn}
use Rattle.near_bound.specs.inside.PairLeads.{HaveFits, AreLeadsSoFar, AreLeadsWithin, AreLeadsOf}
use Rattle.near_bound.specs.inside.PairLeads.{played_in}
use Rattle.near_bound.proofs.tie.Tie.leads.Given as goal

-- the lead so far with that of the open fixtures to come is the whole one
abbrev pub invariant-loop-number : goal.invariant-loop-number
invariant-loop-number l = record {
  so_far : (zone : List Literal) → IsTieIn l.self zone → HaveFits l.self l.able l.front l.back zone
      → AreLeadsSoFar l.self l.able l.front l.back zone (drop l.number-index l.unplayed) l.leads;
  near : AreLeadsWithin (510 * (length l.self.left.now.sheet.now.fixtures
      - (played_in l.self).unplayed_count + l.number-index)) l.leads;
  of_tie : AreLeadsOf l.self l.front l.back l.leads;
}
