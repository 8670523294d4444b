-- The parts of an excess: sums over clubs and over pairs, and what a credit adds to them.
use Rattle.std.proofs.Common.{◌≡◌, ◌≢◌, ◌⊎◌, ℕ, zero, suc, ◌+◌, ◌<◌, ◌≤◌, ℤ, pos, neg_ℤ, ◌+ℤ◌, ◌≤ℤ◌}
use Rattle.std.proofs.Common.{Bool, true, false, ◌&&◌, cond, eqb, List, [], ◌∷◌, length, set, refl}
use Rattle.std.proofs.Common.{sym, ap, ◌∙◌, subst, inl, inr, arith, add-one}
use Rattle.std.proofs.lemmas.Int.{ints}
use Rattle.std.proofs.lemmas.Bool.{cases_eq, eq-eqb, ne_eqb}
use Rattle.std.proofs.lemmas.List.{length-set, get_or-set_same, get_or-set_other}
use Rattle.std.proofs.lemmas.List.Sums.{sum_by-cons}
use Rattle.flow_bound.specs.declared.tally.Pair.{Pair}
use Rattle.flow_bound.specs.inside.Parts.{sum_below, entry, sum_of_side, sum_of_pairs, has_both}
use Rattle.flow_bound.specs.inside.Parts.{excess_in, ArePairs, IsClubTable}
use Rattle.flow_bound.specs.inside.Network.{has_home_in, has_away_in}
use Rattle.league_core.proofs.plain.Numbers.{cond_pos}

-- values that agree below a count have one sum
pub sum_below-same : (count : ℕ) (value other : ℕ → ℤ)
    → ((club : ℕ) → club < count → value club ≡ other club)
    → sum_below count value ≡ sum_below count other
unfolding sum_below
sum_below-same zero value other same = refl
sum_below-same (suc count) value other same =
    let rest = sum_below-same count value other (λ club below. same club (omega arith)) in
    let here = same count (omega arith) in
    omega (arith, ints)

-- the sum of sums
pub sum_below-plus : (count : ℕ) (value other : ℕ → ℤ)
    → sum_below count (λ club. value club +ℤ other club)
    ≡ sum_below count value +ℤ sum_below count other
unfolding sum_below
sum_below-plus zero value other = refl
sum_below-plus (suc count) value other =
    let rest = sum_below-plus count value other in
    omega (arith, ints)

-- values of which none is above 0
pub sum_below-low : (count : ℕ) (value : ℕ → ℤ) → ((club : ℕ) → value club ≤ℤ pos 0)
    → sum_below count value ≤ℤ pos 0
unfolding sum_below
sum_below-low zero value low = omega (arith, ints)
sum_below-low (suc count) value low =
    let rest = sum_below-low count value low in
    let here = low count in
    omega (arith, ints)

-- no value at all
pub sum_below-none : (count : ℕ) → sum_below count (λ club. pos 0) ≡ pos 0
unfolding sum_below
sum_below-none zero = refl
sum_below-none (suc count) =
    let rest = sum_below-none count in
    omega (arith, ints)

-- the value of one club alone, and of one that is past the count
sum_below-past : (count club : ℕ) (amount : ℤ) → count ≤ club
    → sum_below count (λ other. cond (eqb club other) amount (pos 0)) ≡ pos 0
unfolding sum_below
sum_below-past zero club amount past = refl
sum_below-past (suc count) club amount past =
    let rest = sum_below-past count club amount (omega arith) in
    let off : eqb club count ≡ false = ne_eqb club count (λ e. omega arith) in
    let here = ap (λ b. cond b amount (pos 0)) off in
    omega (arith, ints)

pub sum_below-one : (count club : ℕ) (amount : ℤ) → club < count
    → sum_below count (λ other. cond (eqb club other) amount (pos 0)) ≡ amount
unfolding sum_below
sum_below-one zero club amount below = absurd (omega arith)
sum_below-one (suc count) club amount below =
    by_place (cases_eq club count) (λ before. sum_below-one count club amount before)
  where
    by_place : (club ≡ count) ⊎ (club ≢ count)
        → (club < count → sum_below count (λ other. cond (eqb club other) amount (pos 0)) ≡ amount)
        → sum_below count (λ other. cond (eqb club other) amount (pos 0))
        +ℤ cond (eqb club count) amount (pos 0) ≡ amount
    by_place (inl last) earlier =
        let rest = sum_below-past count club amount (omega arith) in
        let here = ap (λ b. cond b amount (pos 0)) (eq-eqb club count last) in
        omega (arith, ints)
    by_place (inr other) earlier =
        let rest = earlier (omega arith) in
        let here = ap (λ b. cond b amount (pos 0)) (ne_eqb club count other) in
        omega (arith, ints)

-- the table after a credit to a club
abbrev pub credited : List ℤ → ℕ → ℤ → List ℤ
credited table club amount = set table club (entry table club +ℤ amount)

-- an entry after a credit
pub entry-credited : (table : List ℤ) (club other : ℕ) (amount : ℤ) → club < length table
    → entry (credited table club amount) other ≡ entry table other +ℤ cond (eqb club other) amount
    (pos 0)
entry-credited table club other amount within = by_place (cases_eq other club)
  where
    by_place : (other ≡ club) ⊎ (other ≢ club)
        → entry (credited table club amount) other
        ≡ entry table other +ℤ cond (eqb club other) amount (pos 0)
    by_place (inl same) =
        ap (entry (credited table club amount)) same
        ∙ get_or-set_same table club (entry table club +ℤ amount) (pos 0) within
        ∙ ap (λ n. entry table n +ℤ amount) (sym same)
        ∙ ap (λ b. entry table other +ℤ cond b amount (pos 0)) (sym (eq-eqb club other (sym same)))
    by_place (inr apart) =
        get_or-set_other table club other (entry table club +ℤ amount) (pos 0) apart
        ∙ add_none (entry table other)
        ∙ ap (λ b. entry table other +ℤ cond b amount (pos 0))
        (sym (ne_eqb club other (λ e. apart (sym e))))
      where
        add_none : (n : ℤ) → n ≡ n +ℤ pos 0
        add_none n = omega (arith, ints)

-- a side's sum after a credit to a club
pub sum_of_side-credited : (table : List ℤ) (club : ℕ) (amount : ℤ) (side : ℕ → Bool)
    → length table ≡ 32 → club < 32
    → sum_of_side (credited table club amount) side
    ≡ sum_of_side table side +ℤ cond (side club) amount (pos 0)
sum_of_side-credited table club amount side long within =
    sum_below-same 32 (λ x. cond (side x) (entry (credited table club amount) x) (pos 0))
    (λ x. cond (side x) (entry table x) (pos 0)
    +ℤ cond (eqb club x) (cond (side club) amount (pos 0)) (pos 0))
    (λ x below. at x (side x) refl)
    ∙ sum_below-plus 32 (λ x. cond (side x) (entry table x) (pos 0))
    (λ x. cond (eqb club x) (cond (side club) amount (pos 0)) (pos 0))
    ∙ ap (λ n. sum_of_side table side +ℤ n)
    (sum_below-one 32 club (cond (side club) amount (pos 0)) within)
  where
    at : (x : ℕ) (b : Bool) → side x ≡ b
        → cond (side x) (entry (credited table club amount) x) (pos 0)
        ≡ cond (side x) (entry table x) (pos 0)
        +ℤ cond (eqb club x) (cond (side club) amount (pos 0)) (pos 0)
    at x true has =
        ap (λ b. cond b (entry (credited table club amount) x) (pos 0)) has
        ∙ entry-credited table club x amount (omega arith)
        ∙ ap (λ n. entry table x +ℤ n) (same_club (cases_eq club x))
        ∙ ap (λ b. cond b (entry table x) (pos 0)
        +ℤ cond (eqb club x) (cond (side club) amount (pos 0)) (pos 0)) (sym has)
      where
        same_club : (club ≡ x) ⊎ (club ≢ x)
            → cond (eqb club x) amount (pos 0)
            ≡ cond (eqb club x) (cond (side club) amount (pos 0)) (pos 0)
        same_club (inl same) =
            ap (λ n. cond (eqb club x) n (pos 0))
            (ap (λ b. cond b amount (pos 0)) (sym (ap side same ∙ has)))
        same_club (inr apart) =
            ap (λ b. cond b amount (pos 0)) (ne_eqb club x apart)
            ∙ ap (λ b. cond b (cond (side club) amount (pos 0)) (pos 0))
            (sym (ne_eqb club x apart))
    at x false has =
        ap (λ b. cond b (entry (credited table club amount) x) (pos 0)) has
        ∙ none (cases_eq club x)
        ∙ ap (λ b. cond b (entry table x) (pos 0)
        +ℤ cond (eqb club x) (cond (side club) amount (pos 0)) (pos 0)) (sym has)
      where
        none : (club ≡ x) ⊎ (club ≢ x)
            → pos 0 ≡ pos 0 +ℤ cond (eqb club x) (cond (side club) amount (pos 0)) (pos 0)
        none (inl same) =
            let off = ap (λ b. cond b amount (pos 0)) (ap side same ∙ has) in
            let here = ap (λ b. cond b (cond (side club) amount (pos 0)) (pos 0))
            (eq-eqb club x same) in
            omega (arith, ints)
        none (inr apart) =
            let here = ap (λ b. cond b (cond (side club) amount (pos 0)) (pos 0))
            (ne_eqb club x apart) in
            omega (arith, ints)

-- a table stays one after a credit
pub IsClubTable-credited : (credits : ℕ) (table : List ℤ) (club : ℕ) (amount : ℤ)
    → IsClubTable credits table → club < 32 → neg_ℤ (pos 3) ≤ℤ amount → amount ≤ℤ pos 3
    → IsClubTable (credits + 1) (credited table club amount)
IsClubTable-credited credits table club amount is within least most = record {
  long = length-set table club (entry table club +ℤ amount) ∙ is.long;
  least = λ other.
      let same = entry-credited table club other amount (omega (arith, is.long)) in
      let added = bounds (eqb club other) in
      omega (arith, ints, is.least other);
  most = λ other.
      let same = entry-credited table club other amount (omega (arith, is.long)) in
      let added = bounds (eqb club other) in
      omega (arith, ints, is.most other);
}
  where
    bounds : (b : Bool) → (neg_ℤ (pos 3) ≤ℤ cond b amount (pos 0)) × (cond b amount (pos 0) ≤ℤ pos
        3)
    bounds true = (least, most)
    bounds false = (omega (arith, ints), omega (arith, ints))

-- sides that agree have one excess
pub excess_in-same : (table : List ℤ) (pairs : List Pair) (side other : ℕ → Bool)
    → ((club : ℕ) → side club ≡ other club) → excess_in table pairs side ≡ excess_in table pairs
    other
excess_in-same table pairs side other same =
    ap (λ (s : ℕ → Bool). excess_in table pairs s) (λ i club. same club i)

-- the first of some pairs adds its surplus if it passes
pub sum_of_pairs-cons : (test : Pair → Bool) (pair : Pair) (pairs : List Pair)
    → sum_of_pairs test (pair ∷ pairs) ≡ cond (test pair) pair.surplus 0 + sum_of_pairs test pairs
sum_of_pairs-cons test pair pairs = sum_by-cons (λ (p : Pair). cond (test p) p.surplus 0) pair pairs

-- a side without a club has no excess
pub excess_in-empty : (table : List ℤ) (pairs : List Pair) (side : ℕ → Bool)
    → ((club : ℕ) → side club ≡ false) → excess_in table pairs side ≡ pos 0
excess_in-empty table pairs side none =
    excess_in-same table pairs side (λ club. false) none
    ∙ at_none
  where
    no_pair : (pairs : List Pair) → sum_of_pairs (has_both (λ club. false)) pairs ≡ 0
    no_pair [] = refl
    no_pair (pair ∷ pairs) =
        let here = sum_of_pairs-cons (has_both (λ club. false)) pair pairs in
        let rest = no_pair pairs in
        omega arith

    at_none : excess_in table pairs (λ club. false) ≡ pos 0
    at_none =
        let clubs = sum_below-none 32 in
        let pairs_none = no_pair pairs in
        omega (arith, ints)

-- the surplus of a pair of a part goes to the home club's entry
pub home_credited : (table new : List ℤ) (pair : Pair) (amount : ℤ) (part side : ℕ → Bool)
    → length table ≡ 32 → part pair.home ≡ true → part pair.away ≡ true → pair.home < 32
    → amount ≡ pos pair.surplus → new ≡ credited table pair.home amount
    → sum_of_side new side ≡ sum_of_side table side
    +ℤ pos (cond (has_home_in part side pair) pair.surplus 0)
home_credited table new pair amount part side long home away low is new_is =
    ap (λ (t : List ℤ). sum_of_side t side) new_is
    ∙ sum_of_side-credited table pair.home amount side long low
    ∙ ap (λ n. sum_of_side table side +ℤ n) added
  where
    added : cond (side pair.home) amount (pos 0)
        ≡ pos (cond (has_home_in part side pair) pair.surplus 0)
    added =
        ap (λ n. cond (side pair.home) n (pos 0)) is
        ∙ cond_pos (side pair.home) pair.surplus
        ∙ ap (λ b. pos (cond ((b && true) && side pair.home) pair.surplus 0)) (sym home)
        ∙ ap (λ b. pos (cond ((part pair.home && b) && side pair.home) pair.surplus 0)) (sym away)

-- and to the away club's
pub away_credited : (table new : List ℤ) (pair : Pair) (amount : ℤ) (part side : ℕ → Bool)
    → length table ≡ 32 → part pair.home ≡ true → part pair.away ≡ true → pair.away < 32
    → amount ≡ pos pair.surplus → new ≡ credited table pair.away amount
    → sum_of_side new side ≡ sum_of_side table side
    +ℤ pos (cond (has_away_in part side pair) pair.surplus 0)
away_credited table new pair amount part side long home away low is new_is =
    ap (λ (t : List ℤ). sum_of_side t side) new_is
    ∙ sum_of_side-credited table pair.away amount side long low
    ∙ ap (λ n. sum_of_side table side +ℤ n) added
  where
    added : cond (side pair.away) amount (pos 0)
        ≡ pos (cond (has_away_in part side pair) pair.surplus 0)
    added =
        ap (λ n. cond (side pair.away) n (pos 0)) is
        ∙ cond_pos (side pair.away) pair.surplus
        ∙ ap (λ b. pos (cond ((b && true) && side pair.away) pair.surplus 0)) (sym home)
        ∙ ap (λ b. pos (cond ((part pair.home && b) && side pair.away) pair.surplus 0)) (sym away)

-- a table stays one after a small surplus is added
pub IsClubTable-surplus : (credits : ℕ) (table new : List ℤ) (club surplus : ℕ) (amount : ℤ)
    → IsClubTable credits table → club < 32 → surplus ≤ 3 → amount ≡ pos surplus
    → new ≡ credited table club amount → IsClubTable (credits + 1) new
IsClubTable-surplus credits table new club surplus amount is low small amount_is new_is =
    subst (λ (t : List ℤ). IsClubTable (credits + 1) t) (sym new_is)
    (IsClubTable-credited credits table club amount is low (omega (arith, ints))
    (omega (arith, ints)))

-- one club more in a sum
pub sum_below-next : (count : ℕ) (value : ℕ → ℤ)
    → sum_below (count + 1) value ≡ sum_below count value +ℤ value count
unfolding sum_below
sum_below-next count value = ap (λ n. sum_below n value) (add-one count)

-- an entry that was written, and any other
pub entry_written : (table : List ℤ) (club other : ℕ) (value : ℤ) → club < length table → other ≡
    club
    → entry (set table club value) other ≡ value
entry_written table club other value within same =
    ap (entry (set table club value)) same ∙ get_or-set_same table club value (pos 0) within

pub entry_kept : (table : List ℤ) (club other : ℕ) (value : ℤ) → other ≢ club
    → entry (set table club value) other ≡ entry table other
entry_kept table club other value apart = get_or-set_other table club other value (pos 0) apart

-- room for more is no loss
pub ArePairs-more : (fixtures more : ℕ) (pairs : List Pair) → fixtures ≤ more
    → ArePairs fixtures pairs → ArePairs more pairs
ArePairs-more fixtures more pairs le are = record {
  apart = are.apart;
  few = omega (arith, are.few);
  small = are.small;
}
