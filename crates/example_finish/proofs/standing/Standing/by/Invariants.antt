-- Of the clubs so far those that come before and those that are level are found.
use Rattle.example_finish.specs.inside.ProposedTotals.{by_criterion}
use Rattle.example_finish.specs.inside.GroupStandings.{IsStandingOf}
use Rattle.example_finish.proofs.standing.Standing.by.Given as goal

abbrev pub invariant-loop-other : goal.invariant-loop-other
invariant-loop-other l = IsStandingOf (by_criterion l.comparison.criterion
    l.comparison.sheet.now l.comparison.season.now l.comparison.table.now) l.yielded l.club
    l.standing
