use Rattle.std.proofs.Common.{◌≡◌}
use Rattle.what_if.specs.inside.SeasonParts.{AreTrueParts}
use Rattle.what_if.proofs.season_part.push_line.Given as goal

-- what stands beside the questions so far is true of them, and the worker is on this season
abbrev pub invariant-loop-club : goal.invariant-loop-club
invariant-loop-club l =
    AreTrueParts l.played.sheet l.played.season l.parts.items
    × (l.solver.sheet ≡ l.fn.solver.sheet) × (l.solver.season ≡ l.fn.solver.season)
