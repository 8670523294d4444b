use Rattle.std.proofs.Common.{◌≡◌, ◌++◌, option_map, drop}
use Rattle.serde_json.specs.View.{items_view}
use Rattle.cup_text.specs.CupForms.{listed_parts}
use Rattle.cup_text.proofs.lists.parts_of.Given as goal

-- the parts of the list are those so far and those of its rest
abbrev pub invariant-loop-item : goal.invariant-loop-item
invariant-loop-item l =
    listed_parts (items_view l.items)
    ≡ option_map (λ rest. l.parts.items ++ rest)
    (listed_parts (items_view (drop l.item-index l.items)))
