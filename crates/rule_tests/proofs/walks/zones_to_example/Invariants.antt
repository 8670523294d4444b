use Rattle.std.proofs.Common.{◌≡◌}
use Rattle.rule_tests.proofs.walks.zones_to_example.Given as goal

-- the solver is of one sheet and one season
abbrev pub invariant-loop-number : goal.invariant-loop-number
invariant-loop-number g l =
    (g.W.Solver.sheet l.solver ≡ g.W.Solver.sheet l.fn.solver)
    × (g.W.Solver.season l.solver ≡ g.W.Solver.season l.fn.solver)
