use Rattle.std.proofs.Common.{◌≡◌, ◌≤◌, ◌-◌, ℕ, List, ◌∷◌, length}
use Rattle.cert_check.specs.ExpectedItems.{Expected, whole_tree}
use Rattle.cert_check.specs.inside.Calls.{IsPathFor, ending_from, nodes_due}
use Rattle.cert_check.proofs.report.Report.tree.Given as goal

abbrev pub invariant-loop-walk : goal.invariant-loop-walk
invariant-loop-walk l =
    (l.at ≤ length l.self.tokens) × (l.walk.tally.news ≤ l.at)
    × IsPathFor l.self.basis l.wanted.question l.walk.path
    × ((dues : List Expected) (unsettled : ℕ)
    → ending_from l.self l.from (whole_tree l.wanted.kind l.wanted.question ∷ dues) unsettled
    ≡ ending_from l.self l.at (nodes_due l.wanted l.walk ∷ dues) unsettled)

abbrev pub decreases-loop-walk : goal.decreases-loop-walk
decreases-loop-walk l = length l.self.tokens - l.at
