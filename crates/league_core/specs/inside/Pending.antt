-- The halves of a tree that are still due after the end of a way from its root. The yes half of a
-- split comes first, so each yes on the way stands for a no half that is due.
use Rattle.std.specs.Prelude.{List, [], ◌∷◌, reverse, false, if◌then◌else◌}
use Rattle.league_core.specs.declared.zone.Literal.{Literal}
use Rattle.league_core.specs.search.Zones.{with_test}

-- their zones, for a way with its last literal first
abbrev pub to_come : List Literal → List (List Literal)
to_come [] = []
to_come (literal ∷ up) =
    if literal.yes then with_test (reverse up) literal.test false ∷ to_come up else to_come up

-- the same for a way from the root on
abbrev pub pending_of : List Literal → List (List Literal)
pending_of path = to_come (reverse path)
