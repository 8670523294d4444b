use Rattle.league_core.specs.game.Sums.{has_club}
use Rattle.flow_bound.specs.inside.Parts.{NoneOver}
use Rattle.flow_bound.proofs.choice.first_over.Given as goal

-- none of the clubs so far has an entry above 0
abbrev pub invariant-loop-club : goal.invariant-loop-club
invariant-loop-club l = NoneOver l.alone (has_club l.yielded)
