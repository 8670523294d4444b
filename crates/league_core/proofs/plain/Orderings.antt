-- General facts on the answers of comparisons.
use Rattle.std.proofs.Common.{Bool, Equal, Greater, Less, Ordering, ap, arith, false, inl, inr}
use Rattle.std.proofs.Common.{int_cmp, is_gt, is_lt, nat_cmp, nat_lt, refl, sym, true, ℕ, ℤ, ◌&&◌}
use Rattle.std.proofs.Common.{◌<ℤ◌, ◌<◌, ◌||◌, ◌∙◌, ◌≡◌, ◌≢◌, ◌≤ℤ◌, ◌⊎◌}
use Rattle.std.specs.Ordering.{is_eq, ordering_reverse, ordering_then}
use Rattle.std.proofs.lemmas.Bool.{false≢true, lt-ltb, ltb-true, true≢false}
use Rattle.std.proofs.lemmas.Bool.Decides.{nat_tests}
use Rattle.std.proofs.lemmas.Int.{by_lt_z, ints}

-- only if the first comparison does not decide need the next ones agree
pub then_agree : (first next other : Ordering) → (first ≡ Equal → next ≡ other)
    → ordering_then first next ≡ ordering_then first other
then_agree Less next other h = refl
then_agree Equal next other h = h refl
then_agree Greater next other h = refl

-- how three comparisons are bracketed does not matter
pub then-then : (a b c : Ordering)
    → ordering_then (ordering_then a b) c ≡ ordering_then a (ordering_then b c)
then-then Less b c = refl
then-then Equal b c = refl
then-then Greater b c = refl

-- two comparisons and then a third are three in a row
pub then-two : (a b c : Ordering) → ordering_then (ordering_then a (ordering_then b Equal)) c
    ≡ ordering_then a (ordering_then b c)
then-two Less b c = refl
then-two Greater b c = refl
then-two Equal Less c = refl
then-two Equal Equal c = refl
then-two Equal Greater c = refl

-- three comparisons and then a fourth are four in a row
pub then-three : (a b c d : Ordering)
    → ordering_then (ordering_then a (ordering_then b (ordering_then c Equal))) d
    ≡ ordering_then a (ordering_then b (ordering_then c d))
then-three Less b c d = refl
then-three Greater b c d = refl
then-three Equal Less c d = refl
then-three Equal Greater c d = refl
then-three Equal Equal Less d = refl
then-three Equal Equal Greater d = refl
then-three Equal Equal Equal d = refl

-- two comparisons leave two alike only if each of them does
pub then-equal : (a b : Ordering) → ordering_then a b ≡ Equal → (a ≡ Equal) × (b ≡ Equal)
then-equal Less b h = absurd (let e : Less ≡ Equal = h in cc)
then-equal Equal b h = (refl, h)
then-equal Greater b h = absurd (let e : Greater ≡ Equal = h in cc)

-- the test for Less is true of Less alone
pub less-is_lt : (o : Ordering) → is_lt o ≡ true → o ≡ Less
less-is_lt Less h = refl
less-is_lt Equal h = absurd (false≢true h)
less-is_lt Greater h = absurd (false≢true h)

-- of two numbers the lower one is Less
pub is_lt-nat_cmp : (m n : ℕ) → is_lt (nat_cmp m n) ≡ nat_lt m n
is_lt-nat_cmp m n = grind (arith, nat_tests)

-- two numbers that are compared as equal are equal
pub nat_cmp-equal : (m n : ℕ) → nat_cmp m n ≡ Equal → m ≡ n
nat_cmp-equal m n h = grind (arith, nat_tests)

-- a lower number is Less
pub nat_cmp-less : (m n : ℕ) → m < n → nat_cmp m n ≡ Less
nat_cmp-less m n h = grind (arith, nat_tests)

-- a higher number is Greater
pub nat_cmp-greater : (m n : ℕ) → n < m → nat_cmp m n ≡ Greater
nat_cmp-greater m n h = grind (arith, nat_tests)

-- the same of whole numbers
pub int_cmp-less : (low high : ℤ) → low <ℤ high → int_cmp low high ≡ Less
int_cmp-less low high h = grind (arith, ints)

pub int_cmp-greater : (high low : ℤ) → low <ℤ high → int_cmp high low ≡ Greater
int_cmp-greater high low h = grind (arith, ints)

pub then_none : (o : Ordering) → ordering_then o Equal ≡ o
then_none Less = refl
then_none Equal = refl
then_none Greater = refl

pub ahead_in_two : (among : Bool) (first second near : Ordering) → (first ≡ Equal → near ≡ second)
    → ((among && is_lt first) || ((among && is_eq first) && is_lt near)) ≡
    (among && is_lt (ordering_then first second))
ahead_in_two false first second near same = refl
ahead_in_two true Less second near same = refl
ahead_in_two true Equal second near same = ap is_lt (same refl)
ahead_in_two true Greater second near same = refl

pub level_in_two : (among : Bool) (first second near : Ordering) → (first ≡ Equal → near ≡ second)
    → ((among && is_eq first) && is_eq near) ≡ (among && is_eq (ordering_then first second))
level_in_two false first second near same = refl
level_in_two true Less second near same = refl
level_in_two true Equal second near same = ap is_eq (same refl)
level_in_two true Greater second near same = refl

pub before_in_lots : (o : Ordering) (mine theirs : ℕ)
    → (is_lt o || (is_eq o && nat_lt mine theirs)) ≡ is_lt (ordering_then o (nat_cmp mine theirs))
before_in_lots Less mine theirs = refl
before_in_lots Equal mine theirs = sym (is_lt-nat_cmp mine theirs)
before_in_lots Greater mine theirs = refl

pub ahead_among_two : (among : Bool) (first next whole : Ordering)
    → (among ≡ true → whole ≡ ordering_then first next)
    → ((among && is_lt first) || ((among && is_eq first) && is_lt next)) ≡ (among && is_lt whole)
ahead_among_two false first next whole is = refl
ahead_among_two true Less next whole is = ap is_lt (sym (is refl))
ahead_among_two true Equal next whole is = ap is_lt (sym (is refl))
ahead_among_two true Greater next whole is = ap is_lt (sym (is refl))

pub level_among_two : (among : Bool) (first next whole : Ordering)
    → (among ≡ true → whole ≡ ordering_then first next)
    → ((among && is_eq first) && is_eq next) ≡ (among && is_eq whole)
level_among_two false first next whole is = refl
level_among_two true Less next whole is = ap is_eq (sym (is refl))
level_among_two true Equal next whole is = ap is_eq (sym (is refl))
level_among_two true Greater next whole is = ap is_eq (sym (is refl))

pub not_eq_less : (o : Ordering) → o ≡ Less → is_eq o ≡ false
not_eq_less o less = ap is_eq less

pub not_eq_turned : (o turned : Ordering) → o ≡ ordering_reverse turned → turned ≡ Less
    → is_eq o ≡ false
not_eq_turned o turned back less = ap is_eq (back ∙ ap ordering_reverse less)

pub less_from : (o : Ordering) → is_eq o ≡ false → is_gt o ≡ false → o ≡ Less
less_from Less not_eq not_gt = refl
less_from Equal not_eq not_gt = cc
less_from Greater not_eq not_gt = cc

-- what is tested as equal is
pub equal_from : (o : Ordering) → is_eq o ≡ true → o ≡ Equal
equal_from Less eq = cc
equal_from Equal eq = refl
equal_from Greater eq = cc

pub not_gt_from : (o : Ordering) → o ≡ Equal → is_gt o ≡ false
not_gt_from o same = ap is_gt same

pub not_gt_turned : (o : Ordering) → is_gt o ≡ true → is_gt (ordering_reverse o) ≡ false
not_gt_turned Less gt = absurd (false≢true gt)
not_gt_turned Equal gt = absurd (false≢true gt)
not_gt_turned Greater gt = refl

pub not_lt_turned : (o back : Ordering) → o ≡ ordering_reverse back → back ≡ Less → is_lt o ≡ false
not_lt_turned o back turned less = ap is_lt (turned ∙ ap ordering_reverse less)

pub first_decides : (first rest : Ordering) → is_lt first ≡ true
    → is_lt (ordering_then first rest) ≡ true
first_decides Less rest is = refl
first_decides Equal rest is = absurd (false≢true is)
first_decides Greater rest is = absurd (false≢true is)

pub first_allows : (first rest : Ordering) → is_lt (ordering_then first rest) ≡ true
    → (is_lt first || is_eq first) ≡ true
first_allows Less rest is = refl
first_allows Equal rest is = refl
first_allows Greater rest is = absurd (false≢true is)

pub then_first : (first second : Ordering) → first ≡ Greater → ordering_then first second ≢ Less
then_first Greater second is = λ e. cc
then_first Less second is = λ e. cc
then_first Equal second is = λ e. cc

pub then_second : (first second : Ordering) → first ≡ Equal → second ≢ Less
    → ordering_then first second ≢ Less
then_second Equal second is not_less = not_less
then_second Less second is not_less = λ e. cc
then_second Greater second is not_less = λ e. cc

pub not_less-first : (x y : ℤ) (rest : Ordering) → is_lt (ordering_then (int_cmp y x) rest) ≡ false
    → x ≤ℤ y
not_less-first x y rest not_before =
    by_lt_z y x (λ above. absurd
    (true≢false
    (sym (ap (λ o. is_lt (ordering_then o rest)) (int_cmp-less y x above)) ∙ not_before)))
    (λ at_most. at_most)

-- who comes before a club that is drawn first comes before it without the lots
pub first_less : (order : Ordering) (i j : ℕ) → j ≡ 0
    → is_lt (ordering_then order (nat_cmp i j)) ≡ true → order ≡ Less
first_less Less i j first before = refl
first_less Greater i j first before = absurd (false≢true before)
first_less Equal i j first before =
    let low : i < j = ltb-true i j (sym (is_lt-nat_cmp i j) ∙ before) in
    absurd (omega arith)

-- who does not come before a club that is drawn later comes after it without the lots
pub last_greater : (order : Ordering) (i j : ℕ) → i < j
    → is_lt (ordering_then order (nat_cmp i j)) ≡ false → order ≡ Greater
last_greater Less i j last behind = absurd (true≢false behind)
last_greater Greater i j last behind = refl
last_greater Equal i j last behind =
    absurd (true≢false (sym (is_lt-nat_cmp i j ∙ lt-ltb i j last) ∙ behind))

pub not_gt_less : (o : Ordering) → is_lt o ≡ true → is_gt o ≡ false
not_gt_less Less h = refl
not_gt_less Equal h = refl
not_gt_less Greater h = absurd (false≢true h)

pub not_gt_from_turned : (o : Ordering) → is_lt o ≡ false → is_gt (ordering_reverse o) ≡ false
not_gt_from_turned Less h = absurd (true≢false h)
not_gt_from_turned Equal h = refl
not_gt_from_turned Greater h = refl

-- one of the two comes first
pub one_first : (here there : Ordering) → here ≡ ordering_reverse there → here ≢ Equal
    → (is_lt here ≡ true) ⊎ (is_lt there ≡ true)
one_first Less there e h = inl refl
one_first Equal there e h = absurd (h refl)
one_first Greater Less e h = inr refl
one_first Greater Equal e h = absurd (let c : Greater ≡ Equal = e in cc)
one_first Greater Greater e h = absurd (let c : Greater ≡ Less = e in cc)

pub not_both : (here there : Ordering) → here ≡ ordering_reverse there → is_lt here ≡ true
    → is_lt there ≡ true → ⊥
not_both Less Less e h k = let c : Less ≡ Greater = e in cc
not_both Less Equal e h k = false≢true k
not_both Less Greater e h k = false≢true k
not_both Equal there e h k = false≢true h
not_both Greater there e h k = false≢true h
