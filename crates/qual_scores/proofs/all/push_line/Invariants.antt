use Rattle.qual_scores.specs.inside.AddedScores.{AddsClubs}
use Rattle.qual_scores.proofs.all.push_line.Given as goal

-- the numbers about the clubs so far come after those before
abbrev pub invariant-loop-club : goal.invariant-loop-club
invariant-loop-club l =
    AddsClubs l.sheet l.season l.line l.club l.fn.found.items l.found.items
