use Rattle.std.proofs.Common.{◌≡◌, length}
use Rattle.league_core.specs.game.Seasons.{season_after}
use Rattle.shared_tests.proofs.alone.turns_by.Given as goal

-- the solver is one for the season after what was seen, which is so many events
abbrev pub invariant-loop-turns : goal.invariant-loop-turns
invariant-loop-turns g l =
    (l.epoch ≡ length l.badge.list)
    × (g.W.Solver.sheet l.solver ≡ g.J.Job.sheet)
    × (g.W.Solver.season l.solver ≡ season_after g.J.Job.sheet l.badge.list)
