-- Zones below a base: what is lent there.
use Rattle.std.proofs.Common.{◌≡◌, ℕ, Bool, true, false, ◌==◌, cond, List, [], ◌∷◌, ◌++◌, map, refl}
use Rattle.std.proofs.Common.{sym, ap, ap₂, ◌∙◌}
use Rattle.std.proofs.lemmas.List.{append-nil}
use Rattle.league_core.specs.declared.zone.Literal.{Literal}
use Rattle.league_core.specs.search.Zones.{with_test}
use Rattle.league_core.specs.search.Trees.{Tree, open_leaf, lent_leaf, refuted_leaf, branch}
use Rattle.league_core.specs.inside.Lending.{lent_zones}
use Rattle.depth_search.proofs.ZoneTreeLemmas.{with_test-below}

-- a zone below a base, after the base
abbrev after : List Literal → List Literal → List Literal
after base way = base ++ way

map_both : (base : List Literal) (xs ys : List (List Literal))
    → map (after base) (xs ++ ys) ≡ map (after base) xs ++ map (after base) ys
map_both base [] ys = refl
map_both base (x ∷ xs) ys = ap (λ rest. after base x ∷ rest) (map_both base xs ys)

-- what is lent below a base and a way, after the base
lent_zones-after : (number : ℕ) (base zone : List Literal) (tree : Tree)
    → lent_zones number (base ++ zone) tree ≡ map (after base) (lent_zones number zone tree)
lent_zones-after number base zone open_leaf = refl
lent_zones-after number base zone (lent_leaf other) = at_leaf (other == number)
  where
    at_leaf : (b : Bool)
        → cond b ((base ++ zone) ∷ []) [] ≡ map (after base) (cond b (zone ∷ []) [])
    at_leaf true = refl
    at_leaf false = refl
lent_zones-after number base zone (refuted_leaf reason fresh) = refl
lent_zones-after number base zone (branch test fresh yes_half no_half) =
    ap₂ (λ (first second : List (List Literal)). first ++ second)
    (ap (λ z. lent_zones number z yes_half) (with_test-below base zone test true)
    ∙ lent_zones-after number base (with_test zone test true) yes_half)
    (ap (λ z. lent_zones number z no_half) (with_test-below base zone test false)
    ∙ lent_zones-after number base (with_test zone test false) no_half)
    ∙ sym (map_both base (lent_zones number (with_test zone test true) yes_half)
    (lent_zones number (with_test zone test false) no_half))

-- what is lent below a base
pub lent_zones-below : (number : ℕ) (base : List Literal) (tree : Tree)
    → lent_zones number base tree
    ≡ map (λ (way : List Literal). base ++ way) (lent_zones number [] tree)
lent_zones-below number base tree =
    ap (λ z. lent_zones number z tree) (sym (append-nil base))
    ∙ lent_zones-after number base [] tree
