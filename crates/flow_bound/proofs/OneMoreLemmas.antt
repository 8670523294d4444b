-- What one club more brings to a side: its own entry at least, as no pair takes anything away.
use Rattle.std.proofs.Common.{◌≡◌, ◌≢◌, ◌⊎◌, ℕ, ◌<◌, ◌≤◌, ℤ, pos, ◌+ℤ◌, ◌≤ℤ◌, Bool, true, false}
use Rattle.std.proofs.Common.{◌&&◌, ◌||◌, cond, eqb, List, [], ◌∷◌, sym, ap, ◌∙◌, inl, inr, arith}
use Rattle.std.proofs.lemmas.Int.{ints}
use Rattle.std.proofs.lemmas.Bool.{cases_eq, eq-eqb, ne_eqb}
use Rattle.flow_bound.specs.declared.tally.Pair.{Pair}
use Rattle.flow_bound.specs.inside.Parts.{entry, sum_of_side, sum_of_pairs, has_both, excess_in}
use Rattle.flow_bound.proofs.PartLemmas.{excess_in-same, sum_below-one, sum_below-plus}
use Rattle.flow_bound.proofs.PartLemmas.{sum_below-same, sum_of_pairs-cons}

-- the clubs of a side and one club
abbrev pub with_club : (ℕ → Bool) → ℕ → ℕ → Bool
with_club side club other = side other || eqb club other

-- the entries are those of the side and the club's own
pub clubs_more : (table : List ℤ) (side : ℕ → Bool) (club : ℕ) → club < 32 → side club ≡ false
    → sum_of_side table (with_club side club) ≡ sum_of_side table side +ℤ entry table club
clubs_more table side club within out =
    sum_below-same 32 (λ x. cond (with_club side club x) (entry table x) (pos 0))
    (λ x. cond (side x) (entry table x) (pos 0) +ℤ cond (eqb club x) (entry table club) (pos 0))
    (λ x below. at x (cases_eq club x))
    ∙ sum_below-plus 32 (λ x. cond (side x) (entry table x) (pos 0))
    (λ x. cond (eqb club x) (entry table club) (pos 0))
    ∙ ap (λ n. sum_of_side table side +ℤ n) (sum_below-one 32 club (entry table club) within)
  where
    one : (n : ℤ) → n ≡ pos 0 +ℤ n
    one n = omega (arith, ints)

    rest : (b : Bool) (n : ℤ) → cond (b || false) n (pos 0) ≡ cond b n (pos 0) +ℤ pos 0
    rest true n = omega (arith, ints)
    rest false n = omega (arith, ints)

    at : (x : ℕ) → (club ≡ x) ⊎ (club ≢ x)
        → cond (with_club side club x) (entry table x) (pos 0)
        ≡ cond (side x) (entry table x) (pos 0) +ℤ cond (eqb club x) (entry table club) (pos 0)
    at x (inl same) =
        let off : side x ≡ false = ap side (sym same) ∙ out in
        let on = eq-eqb club x same in
        ap (λ b. cond (b || eqb club x) (entry table x) (pos 0)) off
        ∙ ap (λ b. cond b (entry table x) (pos 0)) on
        ∙ ap (λ (n : ℕ). entry table n) (sym same)
        ∙ one (entry table club)
        ∙ ap (λ b. pos 0 +ℤ cond b (entry table club) (pos 0)) (sym on)
        ∙ ap (λ b. cond b (entry table x) (pos 0) +ℤ cond (eqb club x) (entry table club) (pos 0))
        (sym off)
    at x (inr apart) =
        let off = ne_eqb club x apart in
        ap (λ b. cond (side x || b) (entry table x) (pos 0)) off
        ∙ rest (side x) (entry table x)
        ∙ ap (λ b. cond (side x) (entry table x) (pos 0) +ℤ cond b (entry table club) (pos 0))
        (sym off)

-- a pair of the side is one of the greater side
pair_more : (surplus : ℕ) (home home_new away away_new : Bool)
    → cond (home && away) surplus 0 ≤ cond ((home || home_new) && (away || away_new)) surplus 0
pair_more surplus true home_new true away_new = omega arith
pair_more surplus true home_new false away_new = omega arith
pair_more surplus false home_new away away_new = omega arith

pairs_more : (pairs : List Pair) (side : ℕ → Bool) (club : ℕ)
    → sum_of_pairs (has_both side) pairs ≤ sum_of_pairs (has_both (with_club side club)) pairs
pairs_more [] side club = omega arith
pairs_more (pair ∷ pairs) side club =
    let more = pairs_more pairs side club in
    let here = pair_more pair.surplus (side pair.home) (eqb club pair.home)
    (side pair.away) (eqb club pair.away) in
    let less = sum_of_pairs-cons (has_both side) pair pairs in
    let all = sum_of_pairs-cons (has_both (with_club side club)) pair pairs in
    omega arith

-- a side with one club more has the excess of the side and of the club at least
pub excess_in-more : (table : List ℤ) (pairs : List Pair) (side more : ℕ → Bool) (club : ℕ)
    → club < 32 → side club ≡ false → ((other : ℕ) → more other ≡ with_club side club other)
    → (excess_in table pairs side +ℤ entry table club) ≤ℤ excess_in table pairs more
excess_in-more table pairs side more club within out is =
    let same = excess_in-same table pairs more (with_club side club) is in
    let clubs = clubs_more table side club within out in
    let pairs_grow = pairs_more pairs side club in
    omega (arith, ints)
