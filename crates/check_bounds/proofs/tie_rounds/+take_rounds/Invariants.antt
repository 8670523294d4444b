use Rattle.check_bounds.proofs.tie_rounds.+take_rounds.Given as goal

abbrev pub decreases-take_rounds : goal.decreases-take_rounds
decreases-take_rounds l = l.times
