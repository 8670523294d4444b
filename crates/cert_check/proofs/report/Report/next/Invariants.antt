use Rattle.std.proofs.Common.{◌≡◌, List, ◌∷◌, ℕ}
use Rattle.cert_check.specs.ExpectedItems.{Expected}
use Rattle.cert_check.specs.inside.Calls.{ending_from}
use Rattle.cert_check.proofs.report.Report.next.Given as goal

abbrev pub invariant-loop-at : goal.invariant-loop-at
invariant-loop-at l =
    (due : Expected) (dues : List Expected) (unsettled : ℕ)
    → ending_from l.self l.from (due ∷ dues) unsettled
    ≡ ending_from l.self l.at (due ∷ dues) unsettled
