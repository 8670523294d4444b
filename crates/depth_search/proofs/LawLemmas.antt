-- A tree of cases without an open leaf leaves nothing at its root.
use Rattle.std.proofs.Common.{◌≡◌, [], List, Bool, true, false, IsTrue, sym, ◌∙◌, ap}
use Rattle.std.proofs.Common.{◌⊎◌, inl, inr}
use Rattle.std.specs.List.{list_all}
use Rattle.std.proofs.lemmas.List.Folds.{list_all-append}
use Rattle.std.proofs.lemmas.Bool.{and_parts, false≢true}
use Rattle.league_core.specs.declared.zone.Literal.{Literal}
use Rattle.league_core.specs.declared.zone.Test.{Test}
use Rattle.league_core.specs.search.Zones.{with_test}
use Rattle.depth_search.specs.inside.Cases.{Cases, HoldsBelow, case_nodes, is_made}
use Rattle.depth_search.specs.inside.Cases.{left_open, refuted, split}
use Rattle.depth_search.specs.inside.Laws.{RefutedCasesLeaveNothing}

neither : {A B : Type 0} → (A → ⊥) → (B → ⊥) → A ⊎ B → ⊥
neither left right (inl there) = left there
neither left right (inr there) = right there

module _ {R : Type 0} (refutes : List Literal → R → Type 0)
    (splits : List Literal → Test → Type 0) (holds : List Literal → Bool)
    (halves : (zone : List Literal) (test : Test) → splits zone test → IsTrue (holds zone)
    → IsTrue (holds (with_test zone test true)) ⊎ IsTrue (holds (with_test zone test false)))
    (none : (zone : List Literal) (reason : R) → refutes zone reason → IsTrue (holds zone)
    → ⊥) where
  -- below a root with this zone
  left_nothing : (zone : List Literal) (tree : Cases R) → HoldsBelow refutes splits zone tree
      → list_all is_made (case_nodes tree) ≡ true → IsTrue (holds zone) → ⊥
  left_nothing zone left_open below made is = false≢true made
  left_nothing zone (refuted reason) below made is = none zone reason below is
  left_nothing zone (split test yes_half no_half) below made is =
      let both = sym (list_all-append is_made (case_nodes yes_half) (case_nodes no_half)) ∙ made in
      neither
      (left_nothing (with_test zone test true) yes_half below.1 (and_parts _ _ both).0)
      (left_nothing (with_test zone test false) no_half below.2 (and_parts _ _ both).1)
      (halves zone test below.0 is)

pub leaves_nothing : {R : Type 0} (refutes : List Literal → R → Type 0)
    (splits : List Literal → Test → Type 0) → RefutedCasesLeaveNothing refutes splits
leaves_nothing refutes splits holds nodes halves none whole made is =
    left_nothing refutes splits holds halves none [] whole.0 whole.1
    (ap (list_all is_made) whole.2 ∙ made) is
