use Rattle.std.proofs.Common.{◌≡◌, ◌≤◌, ◌-◌, ℕ, List, ◌∷◌, length}
use Rattle.cup_grammar.specs.CupDues.{CupDue}
use Rattle.cup_check.specs.inside.CupGoes.{cup_ending_from}
use Rattle.cup_check.specs.inside.CupTreeCalls.{IsPathInGroup, group_nodes_due}
use Rattle.cup_check.proofs.report.CupReport.nodes.Given as goal

abbrev pub invariant-loop-next : goal.invariant-loop-next
invariant-loop-next l =
    (l.at ≤ length l.self.tokens) × (l.walk.tally.news ≤ l.at)
    × IsPathInGroup l.group l.wanted l.walk.path
    × ((dues : List CupDue) (unsettled : ℕ)
    → cup_ending_from l.self l.from (group_nodes_due l.group l.wanted l.fn.walk ∷ dues) unsettled
    ≡ cup_ending_from l.self l.at (group_nodes_due l.group l.wanted l.walk ∷ dues) unsettled)

abbrev pub decreases-loop-next : goal.decreases-loop-next
decreases-loop-next l = length l.self.tokens - l.at
