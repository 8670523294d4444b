-- A tree in place of the leaves that are lent under a number: what is counted then, and which zones
-- and numbers stay.
use Rattle.std.proofs.Common.{◌≡◌, ℕ, ◌+◌, ◌*◌, Bool, true, false, ◌&&◌, ◌||◌, ◌==◌, nat_lt, cond}
use Rattle.std.proofs.Common.{List, [], ◌∷◌, ◌++◌, refl, sym, ap, ◌∙◌, inl, inr, arith}
use Rattle.std.proofs.Math.Nat.{add-mul}
use Rattle.std.proofs.lemmas.Bool.{false≢true, cases_Bool}
use Rattle.std.proofs.lemmas.Bool.Decides.{nat_tests}
use Rattle.league_core.specs.declared.zone.Literal.{Literal}
use Rattle.league_core.specs.search.Zones.{with_test}
use Rattle.league_core.specs.search.Trees.{Tree, open_leaf, lent_leaf, refuted_leaf, branch}
use Rattle.league_core.specs.search.Trees.{zones_from, node_count, new_count, has_open}
use Rattle.league_core.specs.inside.Leaves.{is_leaf}
use Rattle.league_core.specs.inside.Lending.{lent_count, times_lent, lent_zones, put}
use Rattle.league_core.proofs.LendingLemmas.{lent_zones_absent}
use Rattle.league_core.proofs.plain.Numbers.{some_of_sum}

-- nothing is put in place of a number that is not lent
pub put_absent : (number : ℕ) (new tree : Tree) → times_lent number tree ≡ 0
    → put number new tree ≡ tree
put_absent number new open_leaf absent = refl
put_absent number new (lent_leaf other) absent = at_leaf (other == number) absent
  where
    at_leaf : (b : Bool) → cond {A = ℕ} b 1 0 ≡ 0 → cond b new (lent_leaf other) ≡ lent_leaf other
    at_leaf true none = absurd (omega arith)
    at_leaf false none = refl
put_absent number new (refuted_leaf reason fresh) absent = refl
put_absent number new (branch test fresh yes_half no_half) absent =
    ap (λ half. branch test fresh half (put number new no_half))
    (put_absent number new yes_half (omega arith))
    ∙ ap (λ half. branch test fresh yes_half half) (put_absent number new no_half (omega arith))

-- how many nodes are new after the tree was put there
pub new_count-put : (number : ℕ) (new tree : Tree)
    → new_count (put number new tree) ≡ new_count tree + times_lent number tree * new_count new
new_count-put number new open_leaf = omega arith
new_count-put number new (lent_leaf other) = at_leaf (other == number)
  where
    at_leaf : (b : Bool) → new_count (cond b new (lent_leaf other)) ≡ 0 + cond b 1 0 * new_count new
    at_leaf true = omega arith
    at_leaf false = omega arith
new_count-put number new (refuted_leaf reason fresh) = omega arith
new_count-put number new (branch test fresh yes_half no_half) =
    omega (
      arith,
      new_count-put number new yes_half,
      new_count-put number new no_half,
      add-mul
          (times_lent number yes_half) (times_lent number no_half) (new_count new),
    )

-- how many leaves are lent then
pub lent_count-put : (number : ℕ) (new tree : Tree)
    → lent_count (put number new tree) + times_lent number tree
    ≡ lent_count tree + times_lent number tree * lent_count new
lent_count-put number new open_leaf = omega arith
lent_count-put number new (lent_leaf other) = at_leaf (other == number)
  where
    at_leaf : (b : Bool)
        → lent_count (cond b new (lent_leaf other)) + cond b 1 0 ≡ 1 + cond b 1 0 * lent_count new
    at_leaf true = omega arith
    at_leaf false = omega arith
lent_count-put number new (refuted_leaf reason fresh) = omega arith
lent_count-put number new (branch test fresh yes_half no_half) =
    omega (
      arith,
      lent_count-put number new yes_half,
      lent_count-put number new no_half,
      add-mul
          (times_lent number yes_half) (times_lent number no_half) (lent_count new),
    )

-- how many nodes there are
pub node_count-put : (number : ℕ) (new tree : Tree)
    → node_count (put number new tree) + times_lent number tree
    ≡ node_count tree + times_lent number tree * node_count new
node_count-put number new open_leaf = omega arith
node_count-put number new (lent_leaf other) = at_leaf (other == number)
  where
    at_leaf : (b : Bool)
        → node_count (cond b new (lent_leaf other)) + cond b 1 0 ≡ 1 + cond b 1 0 * node_count new
    at_leaf true = omega arith
    at_leaf false = omega arith
node_count-put number new (refuted_leaf reason fresh) = omega arith
node_count-put number new (branch test fresh yes_half no_half) =
    omega (
      arith,
      node_count-put number new yes_half,
      node_count-put number new no_half,
      add-mul
          (times_lent number yes_half) (times_lent number no_half) (node_count new),
    )

-- how often the number is lent: as often as before in each tree that was put there
pub times_lent-put_same : (number : ℕ) (new tree : Tree)
    → times_lent number (put number new tree) ≡ times_lent number tree * times_lent number new
times_lent-put_same number new open_leaf = omega arith
times_lent-put_same number new (lent_leaf other) =
    elim (cases_Bool (other == number)) as (λ _. times_lent number
    (put number new (lent_leaf other))
    ≡ times_lent number (lent_leaf other) * times_lent number new) [
      | inl same ↦ rw same (omega arith)
      | inr different ↦ rw different (rw different (omega arith))
    ]
times_lent-put_same number new (refuted_leaf reason fresh) = omega arith
times_lent-put_same number new (branch test fresh yes_half no_half) =
    omega (
      arith,
      times_lent-put_same number new yes_half,
      times_lent-put_same number new no_half,
      add-mul (times_lent number yes_half) (times_lent number no_half) (times_lent number new),
    )

-- two numbers that differ stand for no leaf together
other_leaf : (number other leaf : ℕ) → (other == number) ≡ false → (leaf == number) ≡ true
    → (leaf == other) ≡ false
other_leaf number other leaf different same = grind (arith, nat_tests)

-- how often another number is lent
pub times_lent-put_other : (number other : ℕ) (new tree : Tree) → (other == number) ≡ false
    → times_lent other (put number new tree)
    ≡ times_lent other tree + times_lent number tree * times_lent other new
times_lent-put_other number other new open_leaf different = omega arith
times_lent-put_other number other new (lent_leaf leaf) different =
    elim (cases_Bool (leaf == number)) as (λ _. times_lent other (put number new (lent_leaf leaf))
    ≡ times_lent other (lent_leaf leaf)
    + times_lent number (lent_leaf leaf) * times_lent other new) [
      | inl same ↦ rw (same, other_leaf number other leaf different same) (omega arith)
      | inr apart ↦ rw apart (omega arith)
    ]
times_lent-put_other number other new (refuted_leaf reason fresh) different = omega arith
times_lent-put_other number other new (branch test fresh yes_half no_half) different =
    omega (
      arith,
      times_lent-put_other number other new yes_half different,
      times_lent-put_other
          number other new no_half different,
      add-mul (times_lent number yes_half)
          (times_lent number no_half) (times_lent other new),
    )

-- whether a leaf is open then
pub has_open-put : (number : ℕ) (new tree : Tree)
    → has_open (put number new tree) ≡
    (has_open tree || (nat_lt 0 (times_lent number tree) && has_open new))
has_open-put number new open_leaf = refl
has_open-put number new (lent_leaf other) = at_leaf (other == number)
  where
    at_leaf : (b : Bool)
        → has_open (cond b new (lent_leaf other)) ≡ (nat_lt 0 (cond b 1 0) && has_open new)
    at_leaf true = refl
    at_leaf false = refl
has_open-put number new (refuted_leaf reason fresh) = refl
has_open-put number new (branch test fresh yes_half no_half) =
    ap (λ b. b || has_open (put number new no_half)) (has_open-put number new yes_half)
    ∙ ap (λ b. (has_open yes_half || (nat_lt 0 (times_lent number yes_half) && has_open new)) || b)
    (has_open-put number new no_half)
    ∙ joined (has_open yes_half) (has_open no_half) (nat_lt 0 (times_lent number yes_half))
    (nat_lt 0 (times_lent number no_half)) (has_open new)
    ∙ ap (λ b. (has_open yes_half || has_open no_half) || (b && has_open new))
    (sym (some_of_sum (times_lent number yes_half) (times_lent number no_half)))
  where
    joined : (a b p q c : Bool)
        → ((a || (p && c)) || (b || (q && c))) ≡ ((a || b) || ((p || q) && c))
    joined true b p q c = refl
    joined false true true true true = refl
    joined false true true true false = refl
    joined false true true false true = refl
    joined false true true false false = refl
    joined false true false q c = refl
    joined false false true q true = refl
    joined false false true true false = refl
    joined false false true false false = refl
    joined false false false q c = refl

-- a leaf in place of leaves leaves all zones
pub zones_from-put_leaf : (number : ℕ) (new tree : Tree) (zone : List Literal) → is_leaf new ≡ true
    → zones_from zone (put number new tree) ≡ zones_from zone tree
zones_from-put_leaf number new open_leaf zone leaf = refl
zones_from-put_leaf number new (lent_leaf other) zone leaf = at_leaf (other == number)
    (alone new leaf)
  where
    alone : (one : Tree) → is_leaf one ≡ true → zones_from zone one ≡ zone ∷ []
    alone open_leaf is = refl
    alone (lent_leaf lent) is = refl
    alone (refuted_leaf reason fresh) is = refl
    alone (branch test fresh yes_half no_half) is = absurd (false≢true is)

    at_leaf : (b : Bool) → zones_from zone new ≡ zone ∷ []
        → zones_from zone (cond b new (lent_leaf other)) ≡ zone ∷ []
    at_leaf true one = one
    at_leaf false one = refl
zones_from-put_leaf number new (refuted_leaf reason fresh) zone leaf = refl
zones_from-put_leaf number new (branch test fresh yes_half no_half) zone leaf =
    ap (λ zones. zones ++ zones_from (with_test zone test false) (put number new no_half))
    (zones_from-put_leaf number new yes_half (with_test zone test true) leaf)
    ∙ ap (λ zones. zones_from (with_test zone test true) yes_half ++ zones)
    (zones_from-put_leaf number new no_half (with_test zone test false) leaf)

-- once the leaves of a number are replaced by a tree without it, it is lent nowhere
pub lent_zones-put_same : (number : ℕ) (new tree : Tree) (zone : List Literal)
    → times_lent number new ≡ 0 → lent_zones number zone (put number new tree) ≡ []
lent_zones-put_same number new tree zone absent =
    lent_zones_absent number (put number new tree) zone
    (times_lent-put_same number new tree ∙ ap (λ n. times_lent number tree * n) absent
    ∙ none (times_lent number tree))
  where
    none : (n : ℕ) → n * 0 ≡ 0
    none n = omega arith

-- the zones of another number stay
pub lent_zones-put_other : (number other : ℕ) (new tree : Tree) (zone : List Literal)
    → (other == number) ≡ false → times_lent other new ≡ 0
    → lent_zones other zone (put number new tree) ≡ lent_zones other zone tree
lent_zones-put_other number other new open_leaf zone different absent = refl
lent_zones-put_other number other new (lent_leaf leaf) zone different absent =
    elim (cases_Bool (leaf == number)) as (λ _. lent_zones other zone
    (put number new (lent_leaf leaf)) ≡ lent_zones other zone (lent_leaf leaf)) [
      | inl same ↦ rw (same, other_leaf number other leaf different same)
          (lent_zones_absent other new zone absent)
      | inr apart ↦ rw apart refl
    ]
lent_zones-put_other number other new (refuted_leaf reason fresh) zone different absent = refl
lent_zones-put_other number other new (branch test fresh yes_half no_half) zone different absent =
    ap (λ zones. zones ++ lent_zones other (with_test zone test false) (put number new no_half))
    (lent_zones-put_other number other new yes_half (with_test zone test true) different absent)
    ∙ ap (λ zones. lent_zones other (with_test zone test true) yes_half ++ zones)
    (lent_zones-put_other number other new no_half (with_test zone test false) different absent)
