use Rattle.std.proofs.Common.{◌≡◌, ◌++◌, option_map, drop}
use Rattle.serde_json.specs.View.{items_view}
use Rattle.cert_text.specs.Places.{listed_clubs}
use Rattle.cert_text.proofs.places.clubs_of.Given as goal

-- the clubs of the list are those so far and those of its rest
abbrev pub invariant-loop-item : goal.invariant-loop-item
invariant-loop-item l =
    listed_clubs l.most (items_view l.items)
    ≡ option_map (λ rest. l.clubs.items ++ rest)
    (listed_clubs l.most (items_view (drop l.item-index l.items)))
