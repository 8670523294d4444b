use Rattle.std.proofs.Common.{◌≡◌, ℕ, map, take}
use Rattle.serde_json.specs.View.{view}
use Rattle.serde_json.specs.Data.{number, unsigned}
use Rattle.cert_text.specs.Lines.{number_in_text}
use Rattle.cup_text.proofs.leaf_value.list_value.Given as goal

-- the numbers so far stand in the list as in texts
abbrev pub invariant-loop-number : goal.invariant-loop-number
invariant-loop-number l = map view l.items.items ≡ map
    (λ (one : ℕ). number (unsigned (number_in_text one))) (take l.number-index l.numbers)
