use Rattle.std.proofs.Common.{◌≡◌, ℤ, map, take}
use Rattle.serde_json.specs.View.{view}
use Rattle.serde_json.specs.Data.{number}
use Rattle.serde_json.specs.Find.{of_integer}
use Rattle.cup_text.proofs.leaf_value.numbers_value.Given as goal

-- the parts so far stand in the list
abbrev pub invariant-loop-part : goal.invariant-loop-part
invariant-loop-part l = map view l.items.items ≡ map
    (λ (part : ℤ). number (of_integer part)) (take l.part-index l.parts)
