-- The groups of clubs that may end level, some of them for certain.
use Rattle.std.specs.Prelude.{ℕ, Bool, if◌then◌else◌, List, [], ◌∷◌, ◌++◌, map}

-- all groups of these clubs, in their order, that have each club which passes the test
abbrev pub groups_with : (ℕ → Bool) → List ℕ → List (List ℕ)
groups_with is_held [] = [] ∷ []
groups_with is_held (club ∷ clubs) =
    let without = groups_with is_held clubs in
    let joined = map (λ group. club ∷ group) without in
    if is_held club then joined else without ++ joined
