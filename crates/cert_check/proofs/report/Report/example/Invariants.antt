use Rattle.std.proofs.Common.{◌≡◌, ◌≤◌, ℕ, List, ◌∷◌, length}
use Rattle.cert_check.specs.ExpectedItems.{Expected, whole_example}
use Rattle.cert_check.specs.inside.Calls.{ending_from, example_due}
use Rattle.cert_check.proofs.report.Report.example.Given as goal

abbrev pub invariant-loop-fixture : goal.invariant-loop-fixture
invariant-loop-fixture l =
    (l.at ≤ length l.self.tokens)
    × (length l.finish.scores ≡ length l.self.basis.season.scores)
    × (l.finish.deductions ≡ l.self.basis.season.deductions)
    × ((dues : List Expected) (unsettled : ℕ)
    → ending_from l.self l.from (whole_example l.self.basis l.question ∷ dues) unsettled
    ≡ ending_from l.self l.at (example_due l.question l.fixture l.finish.scores ∷ dues) unsettled)
