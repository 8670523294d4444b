use Rattle.std.proofs.Common.{◌≡◌, ℕ, true, List, take}
use Rattle.league_core.specs.declared.sheet.Sheet.{Sheet}
use Rattle.league_core.specs.search.Zones.{are_literals_true}
use Rattle.what_if.proofs.literals.are_true.Given as goal

-- the literals so far are true
abbrev pub invariant-loop-literal : goal.invariant-loop-literal
invariant-loop-literal l =
    (sheet : Sheet) (club : ℕ) (lots : List ℕ)
    → are_literals_true sheet club l.season lots (take l.literal-index l.literals) ≡ true
