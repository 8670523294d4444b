-- General facts on truth values, and on numbers that a truth value chooses.
use Rattle.std.proofs.Common.{Bool, ap, arith, cond, false, not, refl, sym, true, ℕ, ◌&&◌, ◌<◌}
use Rattle.std.proofs.Common.{◌||◌, ◌≡◌, ◌≤◌}
use Rattle.std.specs.Bool.{Decides}
use Rattle.std.specs.Prelude.{if◌then◌else◌}
use Rattle.std.proofs.lemmas.Bool.{and_from, and_parts, false_from_ne_true, false≢true, or_right}
use mathlib.Core.Bool.{beq}
use mir.Val.{bool_byte}

-- if the one is not, the other is
pub or-other : (a b : Bool) → (a || b) ≡ true → a ≡ false → b ≡ true
or-other true b either none = absurd (let e : true ≡ false = none in cc)
or-other false b either none = either

-- two that follow from each other are one
pub same_tests : (a b : Bool) → (a ≡ true → b ≡ true) → (b ≡ true → a ≡ true) → a ≡ b
same_tests true b to back = sym (to refl)
same_tests false true to back = back refl
same_tests false false to back = refl

-- one at most counts
pub one_if-most : (b : Bool) → cond {A = ℕ} b 1 0 ≤ 1
one_if-most true = omega arith
one_if-most false = omega arith

pub true_and_true : (b : Bool) → b ≡ true → (b && true) ≡ true
true_and_true b e = and_from b true e refl

pub two_and_true : (a b : Bool) → a ≡ true → b ≡ true → (a && (b && true)) ≡ true
two_and_true a b first second = and_from a (b && true) first (true_and_true b second)

pub not_true : (b : Bool) → not b ≡ true → b ≡ false
not_true true none = absurd (cc none)
not_true false none = refl

pub or_assoc : (first second third : Bool)
    → ((first || second) || third) ≡ (first || (second || third))
or_assoc true second third = refl
or_assoc false second third = refl

pub or_both : (here later more rest : Bool) → (here ≡ true → more ≡ true)
    → (later ≡ true → rest ≡ true) → (here || later) ≡ true → (more || rest) ≡ true
or_both true later more rest first second some = ap (λ b. b || rest) (first refl)
or_both false later more rest first second some = or_right more rest (second some)

pub or_more : (a b c : Bool) → (b ≡ true → c ≡ true) → (a || b) ≡ true → (a || c) ≡ true
or_more true b c more some = refl
or_more false b c more some = more some

pub and_more : (a b c : Bool) → (b ≡ true → c ≡ true) → (a && b) ≡ true → (a && c) ≡ true
and_more true b c more both = more both
and_more false b c more both = both

pub and_agree : (b c d : Bool) → (b ≡ true → c ≡ d) → (b && c) ≡ (b && d)
and_agree true c d same = same refl
and_agree false c d same = refl

pub and_comm : (a b : Bool) → (a && b) ≡ (b && a)
and_comm true true = refl
and_comm true false = refl
and_comm false true = refl
and_comm false false = refl

pub same_not : (a b : Bool) → not a ≡ not b → a ≡ b
same_not true true same = refl
same_not true false same = sym same
same_not false true same = sym same
same_not false false same = refl

-- what follows from a fact changes nothing beside it
pub and_implied : (b c : Bool) → (b ≡ true → c ≡ true) → b ≡ (b && c)
and_implied true c follows = sym (follows refl)
and_implied false c follows = refl

-- of two facts of which one holds it is the other that fails
pub and_second_fails : (a b : Bool) → a ≡ true → ((a && b) ≡ true → ⊥) → b ≡ false
and_second_fails a b is fails = false_from_ne_true b (λ holds. fails (and_from a b is holds))

-- one of two
pub if_either : {A : Type 0} (which : Bool) (x y : A) (P : A → Type 0) → P x → P y
    → P (if which then x else y)
if_either true x y P p q = p
if_either false x y P p q = q

-- a literal on a fixture is met by a score that passes as it says
pub or_second : (b passed : Bool) → passed ≡ true → (not b || passed) ≡ true
or_second b passed is = or_right (not b) passed is

-- a test that fails makes no more than a failed one
pub and-false : (first : Bool) → false ≡ (first && false)
and-false true = refl
and-false false = refl

pub none_of_three : (a b c : Bool) → not (a || b || c) ≡ true
    → (a ≡ false) × (b ≡ false) × (c ≡ false)
none_of_three true b c none = absurd (false≢true none)
none_of_three false true c none = absurd (false≢true none)
none_of_three false false true none = absurd (false≢true none)
none_of_three false false false none = (refl, refl, refl)

pub three_are_none : (a b c : Bool) → a ≡ false → b ≡ false → c ≡ false → not (a || b || c) ≡ true
three_are_none true b c first second third = absurd (false≢true (sym first))
three_are_none false true c first second third = absurd (false≢true (sym second))
three_are_none false false true first second third = absurd (false≢true (sym third))
three_are_none false false false first second third = refl

-- two members of a list in either order
pub or_swap : (a b c : Bool) → (a || (b || c)) ≡ (b || (a || c))
or_swap true true c = refl
or_swap true false c = refl
or_swap false b c = refl

-- the parts of a split that is all new
pub three_parts : (fresh yes_new no_new : Bool) → (fresh && yes_new && no_new) ≡ true
    → (fresh ≡ true) × (yes_new ≡ true) × (no_new ≡ true)
three_parts fresh yes_new no_new new =
    let parts = and_parts (fresh && yes_new) no_new new in
    let more = and_parts fresh yes_new parts.0 in
    (more.0, more.1, parts.1)

-- and the split from them
pub three_from : (fresh yes_new no_new : Bool) → fresh ≡ true → yes_new ≡ true → no_new ≡ true
    → (fresh && yes_new && no_new) ≡ true
three_from fresh yes_new no_new f y n =
    and_from (fresh && yes_new) no_new (and_from fresh yes_new f y) n

-- equal truth values are the same
pub bools_decided : (a b : Bool) → Decides (beq a b) (a ≡ b)
bools_decided true true = (λ h. refl, λ e. refl)
bools_decided false false = (λ h. refl, λ e. refl)
bools_decided a b = (λ h. cc, λ e. cc)

pub cond_same : {X : Type 0} (b : Bool) (x : X) → cond b x x ≡ x
cond_same true x = refl
cond_same false x = refl

pub one_if-lt : (b c : Bool) → b ≡ false → c ≡ true → cond b 1 0 < cond c 1 0
one_if-lt true c e h = absurd (false≢true (sym e))
one_if-lt false true e h = omega arith
one_if-lt false false e h = absurd (false≢true h)

-- one test that passes what another passes counts as much or more
pub one_if-le : (b c : Bool) → (b ≡ true → c ≡ true) → cond b 1 0 ≤ cond c 1 0
one_if-le true true h = omega arith
one_if-le true false h = absurd (false≢true (h refl))
one_if-le false true h = omega arith
one_if-le false false h = omega arith

-- a test as a number
pub bool_byte-is : (b : Bool) → bool_byte b ≡ cond b 1 0
bool_byte-is true = refl
bool_byte-is false = refl
