-- A tree that was one open leaf and lends it.
use Rattle.std.proofs.Common.{◌≡◌, ℕ, ◌==◌, List, [], ◌∷◌, ap, inl, inr}
use Rattle.std.proofs.lemmas.Bool.{cases_Bool, eqb-true}
use Rattle.league_core.specs.declared.zone.Literal.{Literal}
use Rattle.league_core.specs.search.Trees.{Tree, open_leaf, lent_leaf, refuted_leaf, branch}
use Rattle.league_core.specs.inside.Lending.{lent_zones, put}

-- nothing else stands in it
pub one_lent : (number : ℕ) (tree : Tree) (zone : List Literal)
    → put number open_leaf tree ≡ open_leaf → lent_zones number [] tree ≡ zone ∷ []
    → tree ≡ lent_leaf number
one_lent number open_leaf zone back lent = cc
one_lent number (lent_leaf other) zone back lent =
    elim (cases_Bool (other == number)) as (λ _. lent_leaf other ≡ lent_leaf number) [
      | inl same ↦ ap lent_leaf (eqb-true other number same)
      | inr different ↦ cc
    ]
one_lent number (refuted_leaf reason fresh) zone back lent = cc
one_lent number (branch test fresh yes_half no_half) zone back lent = cc
