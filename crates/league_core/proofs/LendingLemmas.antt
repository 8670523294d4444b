-- Leaves that are lent: how many there are and where they stand, when nothing is left to do, and
-- the tree with each of them open again.
use Rattle.std.proofs.Common.{◌≡◌, ℕ, ◌≤◌, Bool, true, false, ◌&&◌, ◌||◌, ◌==◌, nat_lt, cond, List}
use Rattle.std.proofs.Common.{[], ◌∷◌, ◌++◌, length, refl, sym, ap, ◌∙◌, arith, length-append}
use Rattle.std.proofs.lemmas.Bool.{true≢false, false≢true, and_parts, or_parts, eq-eqb}
use Rattle.league_core.specs.declared.zone.Literal.{Literal}
use Rattle.league_core.specs.search.Zones.{with_test}
use Rattle.league_core.specs.search.Trees.{Tree, open_leaf, lent_leaf, refuted_leaf, branch}
use Rattle.league_core.specs.search.Trees.{zones_from, node_count, new_count, has_open, is_refuted}
use Rattle.league_core.specs.inside.Lending.{lent_count, times_lent, lent_zones, all_opened}
use Rattle.league_core.proofs.plain.Numbers.{some_of_sum}

-- a number is lent as often as it has zones
pub length-lent_zones : (number : ℕ) (tree : Tree) (zone : List Literal)
    → length (lent_zones number zone tree) ≡ times_lent number tree
length-lent_zones number open_leaf zone = refl
length-lent_zones number (lent_leaf other) zone = at_leaf (other == number)
  where
    at_leaf : (b : Bool) → length (cond b (zone ∷ []) []) ≡ cond b 1 0
    at_leaf true = refl
    at_leaf false = refl
length-lent_zones number (refuted_leaf reason fresh) zone = refl
length-lent_zones number (branch test fresh yes_half no_half) zone =
    omega (
      arith,
      length-append (lent_zones number (with_test zone test true) yes_half)
          (lent_zones number (with_test zone test false) no_half),
      length-lent_zones number yes_half
          (with_test zone test true),
      length-lent_zones number no_half (with_test zone test false),
    )

-- a number that is not lent has no zone
pub lent_zones_absent : (number : ℕ) (tree : Tree) (zone : List Literal)
    → times_lent number tree ≡ 0 → lent_zones number zone tree ≡ []
lent_zones_absent number tree zone absent =
    none (lent_zones number zone tree) (length-lent_zones number tree zone ∙ absent)
  where
    none : (zones : List (List Literal)) → length zones ≡ 0 → zones ≡ []
    none [] empty = refl
    none (first ∷ zones) empty = absurd (omega arith)

-- no number is lent more often than leaves are lent
pub times_lent-le : (number : ℕ) (tree : Tree) → times_lent number tree ≤ lent_count tree
times_lent-le number open_leaf = omega arith
times_lent-le number (lent_leaf other) = at_leaf (other == number)
  where
    at_leaf : (b : Bool) → cond {A = ℕ} b 1 0 ≤ 1
    at_leaf true = omega arith
    at_leaf false = omega arith
times_lent-le number (refuted_leaf reason fresh) = omega arith
times_lent-le number (branch test fresh yes_half no_half) =
    omega (arith, times_lent-le number yes_half, times_lent-le number no_half)

-- if no number is lent no leaf is
pub lent_count-none : (tree : Tree) → ((number : ℕ) → times_lent number tree ≡ 0)
    → lent_count tree ≡ 0
lent_count-none open_leaf none = refl
lent_count-none (lent_leaf other) none = absurd
    (at_leaf (other == other) (eq-eqb other other refl) (none other))
  where
    at_leaf : (b : Bool) → b ≡ true → cond {A = ℕ} b 1 0 ≡ 0 → ⊥
    at_leaf true same absent = omega arith
    at_leaf false same absent = false≢true same
lent_count-none (refuted_leaf reason fresh) none = refl
lent_count-none (branch test fresh yes_half no_half) none =
    let yes = lent_count-none yes_half (λ number. let both = none number in omega arith) in
    let no = lent_count-none no_half (λ number. let both = none number in omega arith) in
    omega arith

-- a tree in which nothing waits and nothing is lent is refuted
pub settled_is_refuted : (tree : Tree) → has_open tree ≡ false → lent_count tree ≡ 0
    → is_refuted tree ≡ true
settled_is_refuted open_leaf closed none = absurd (true≢false closed)
settled_is_refuted (lent_leaf number) closed none = absurd (omega arith)
settled_is_refuted (refuted_leaf reason fresh) closed none = refl
settled_is_refuted (branch test fresh yes_half no_half) closed none =
    let parts = or_parts (has_open yes_half) (has_open no_half) closed in
    rw (
      settled_is_refuted yes_half parts.0 (omega arith),
      settled_is_refuted no_half parts.1
          (omega arith),
    ) refl

-- a refuted tree is such a tree
pub refuted_is_settled : (tree : Tree) → is_refuted tree ≡ true → (has_open tree ≡ false)
    × (lent_count tree ≡ 0)
refuted_is_settled open_leaf refuted = absurd (false≢true refuted)
refuted_is_settled (lent_leaf number) refuted = absurd (false≢true refuted)
refuted_is_settled (refuted_leaf reason fresh) refuted = (refl, refl)
refuted_is_settled (branch test fresh yes_half no_half) refuted =
    let parts = and_parts (is_refuted yes_half) (is_refuted no_half) refuted in
    let yes = refuted_is_settled yes_half parts.0 in
    let no = refuted_is_settled no_half parts.1 in
    (rw (yes.0, no.0) refl, omega (arith, yes.1, no.1))

-- with each lent leaf open no number is lent
pub times_lent-all_opened : (number : ℕ) (tree : Tree) → times_lent number (all_opened tree) ≡ 0
times_lent-all_opened number open_leaf = refl
times_lent-all_opened number (lent_leaf other) = refl
times_lent-all_opened number (refuted_leaf reason fresh) = refl
times_lent-all_opened number (branch test fresh yes_half no_half) =
    omega (arith, times_lent-all_opened number yes_half, times_lent-all_opened number no_half)

pub lent_zones-all_opened : (number : ℕ) (tree : Tree) (zone : List Literal)
    → lent_zones number zone (all_opened tree) ≡ []
lent_zones-all_opened number tree zone =
    lent_zones_absent number (all_opened tree) zone (times_lent-all_opened number tree)

pub lent_count-all_opened : (tree : Tree) → lent_count (all_opened tree) ≡ 0
lent_count-all_opened tree =
    lent_count-none (all_opened tree) (λ number. times_lent-all_opened number tree)

-- it has the nodes that it had, as many of them new, with the same zones
pub node_count-all_opened : (tree : Tree) → node_count (all_opened tree) ≡ node_count tree
node_count-all_opened open_leaf = refl
node_count-all_opened (lent_leaf number) = refl
node_count-all_opened (refuted_leaf reason fresh) = refl
node_count-all_opened (branch test fresh yes_half no_half) =
    omega (arith, node_count-all_opened yes_half, node_count-all_opened no_half)

pub new_count-all_opened : (tree : Tree) → new_count (all_opened tree) ≡ new_count tree
new_count-all_opened open_leaf = refl
new_count-all_opened (lent_leaf number) = refl
new_count-all_opened (refuted_leaf reason fresh) = refl
new_count-all_opened (branch test fresh yes_half no_half) =
    omega (arith, new_count-all_opened yes_half, new_count-all_opened no_half)

pub zones_from-all_opened : (tree : Tree) (zone : List Literal)
    → zones_from zone (all_opened tree) ≡ zones_from zone tree
zones_from-all_opened open_leaf zone = refl
zones_from-all_opened (lent_leaf number) zone = refl
zones_from-all_opened (refuted_leaf reason fresh) zone = refl
zones_from-all_opened (branch test fresh yes_half no_half) zone =
    ap (λ zones. zones ++ zones_from (with_test zone test false) (all_opened no_half))
    (zones_from-all_opened yes_half (with_test zone test true))
    ∙ ap (λ zones. zones_from (with_test zone test true) yes_half ++ zones)
    (zones_from-all_opened no_half (with_test zone test false))

-- it is refuted exactly when it was, and its leaves are open where they were open or lent
pub is_refuted-all_opened : (tree : Tree) → is_refuted (all_opened tree) ≡ is_refuted tree
is_refuted-all_opened open_leaf = refl
is_refuted-all_opened (lent_leaf number) = refl
is_refuted-all_opened (refuted_leaf reason fresh) = refl
is_refuted-all_opened (branch test fresh yes_half no_half) =
    ap (λ b. b && is_refuted (all_opened no_half)) (is_refuted-all_opened yes_half)
    ∙ ap (λ b. is_refuted yes_half && b) (is_refuted-all_opened no_half)

pub has_open-all_opened : (tree : Tree)
    → has_open (all_opened tree) ≡ (has_open tree || nat_lt 0 (lent_count tree))
has_open-all_opened open_leaf = refl
has_open-all_opened (lent_leaf number) = refl
has_open-all_opened (refuted_leaf reason fresh) = refl
has_open-all_opened (branch test fresh yes_half no_half) =
    ap (λ b. b || has_open (all_opened no_half)) (has_open-all_opened yes_half)
    ∙ ap (λ b. (has_open yes_half || nat_lt 0 (lent_count yes_half)) || b)
    (has_open-all_opened no_half)
    ∙ joined (has_open yes_half) (has_open no_half) (nat_lt 0 (lent_count yes_half))
    (nat_lt 0 (lent_count no_half))
    ∙ ap (λ b. (has_open yes_half || has_open no_half) || b)
    (sym (some_of_sum (lent_count yes_half) (lent_count no_half)))
  where
    joined : (a b p q : Bool) → ((a || p) || (b || q)) ≡ ((a || b) || (p || q))
    joined true b p q = refl
    joined false true true q = refl
    joined false true false q = refl
    joined false false p q = refl
