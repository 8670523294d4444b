use Rattle.std.proofs.Common.{◌≡◌, List, ◌∷◌, ℕ}
use Rattle.cup_grammar.specs.CupDues.{CupDue}
use Rattle.cup_check.specs.inside.CupGoes.{cup_ending_from}
use Rattle.cup_check.proofs.report.CupReport.next.Given as goal

abbrev pub invariant-loop-at : goal.invariant-loop-at
invariant-loop-at l =
    (due : CupDue) (dues : List CupDue) (unsettled : ℕ)
    → cup_ending_from l.self l.from (due ∷ dues) unsettled
    ≡ cup_ending_from l.self l.at (due ∷ dues) unsettled
