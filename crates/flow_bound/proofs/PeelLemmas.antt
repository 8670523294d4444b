-- Clubs that add nothing are no loss, and what is best among the rest is best among all.
use Rattle.std.proofs.Common.{◌≡◌, ◌≢◌, ◌⊎◌, ℕ, ◌+◌, ◌<◌, ◌≤◌, ℤ, pos, ◌+ℤ◌, ◌≤ℤ◌, ◌<ℤ◌, Bool}
use Rattle.std.proofs.Common.{true, false, not, ◌&&◌, cond, eqb, List, [], ◌∷◌, refl, sym, ap, ◌∙◌}
use Rattle.std.proofs.Common.{inl, inr, arith}
use Rattle.std.specs.Prelude.{int_lt}
use Rattle.std.proofs.lemmas.Int.{ints}
use Rattle.std.proofs.lemmas.Bool.{false≢true, and_parts, cases_eq, ne_eqb}
use Rattle.flow_bound.specs.declared.tally.Pair.{Pair}
use Rattle.flow_bound.specs.inside.Parts.{entry, sum_of_side, sum_of_pairs, has_both, excess_in}
use Rattle.flow_bound.specs.inside.Parts.{in_both, EachAdds, IsPartOf, HasNoExcess, KeepsExcess}
use Rattle.flow_bound.specs.inside.Parts.{IsLeastBest}
use Rattle.flow_bound.specs.inside.Network.{has_home_in, has_away_in}
use Rattle.flow_bound.proofs.PartLemmas.{sum_below-same, sum_below-plus, sum_below-low}
use Rattle.flow_bound.proofs.PartLemmas.{sum_below-one}
use Rattle.flow_bound.proofs.PartLemmas.{sum_of_pairs-cons, excess_in-same, excess_in-empty}

-- the clubs of a side that are in the part and not kept
abbrev pub dropped : (ℕ → Bool) → (ℕ → Bool) → (ℕ → Bool) → ℕ → Bool
dropped side rest next club = in_both side rest club && not (next club)

-- a pair of a side is one of what is kept, or one of its clubs is dropped
pair_kept : (surplus : ℕ) (home_side home_rest home_next away_side away_rest away_next : Bool)
    → cond ((home_side && home_rest) && (away_side && away_rest)) surplus 0
    ≤ cond ((home_side && home_next) && (away_side && away_next)) surplus 0
    + cond ((home_rest && away_rest) && ((home_side && home_rest) && not home_next)) surplus 0
    + cond ((home_rest && away_rest) && ((away_side && away_rest) && not away_next)) surplus 0
pair_kept surplus false home_rest home_next away_side away_rest away_next = omega arith
pair_kept surplus true false home_next away_side away_rest away_next = omega arith
pair_kept surplus true true home_next false away_rest away_next = omega arith
pair_kept surplus true true home_next true false away_next = omega arith
pair_kept surplus true true true true true true = omega arith
pair_kept surplus true true false true true away_next = omega arith
pair_kept surplus true true true true true false = omega arith

pub pairs_kept : (pairs : List Pair) (side rest next : ℕ → Bool)
    → sum_of_pairs (has_both (in_both side rest)) pairs
    ≤ sum_of_pairs (has_both (in_both side next)) pairs
    + sum_of_pairs (has_home_in rest (dropped side rest next)) pairs
    + sum_of_pairs (has_away_in rest (dropped side rest next)) pairs
pairs_kept [] side rest next = omega arith
pairs_kept (pair ∷ pairs) side rest next =
    let more = pairs_kept pairs side rest next in
    let here = pair_kept pair.surplus (side pair.home) (rest pair.home) (next pair.home)
    (side pair.away) (rest pair.away) (next pair.away) in
    let whole = sum_of_pairs-cons (has_both (in_both side rest)) pair pairs in
    let kept = sum_of_pairs-cons (has_both (in_both side next)) pair pairs in
    let home = sum_of_pairs-cons (has_home_in rest (dropped side rest next)) pair pairs in
    let away = sum_of_pairs-cons (has_away_in rest (dropped side rest next)) pair pairs in
    omega arith

-- a side's clubs in the part are those that are kept and those that are dropped
pub clubs_kept : (table : List ℤ) (side rest next : ℕ → Bool) → IsPartOf next rest
    → sum_of_side table (in_both side rest)
    ≡ sum_of_side table (in_both side next) +ℤ sum_of_side table (dropped side rest next)
clubs_kept table side rest next part =
    sum_below-same 32 (λ x. cond (in_both side rest x) (entry table x) (pos 0))
    (λ x. cond (in_both side next x) (entry table x) (pos 0)
    +ℤ cond (dropped side rest next x) (entry table x) (pos 0))
    (λ x below. at (entry table x) (side x) (rest x) (next x) (part x))
    ∙ sum_below-plus 32 (λ x. cond (in_both side next x) (entry table x) (pos 0))
    (λ x. cond (dropped side rest next x) (entry table x) (pos 0))
  where
    at : (n : ℤ) (s r k : Bool) → (k ≡ true → r ≡ true)
        → cond (s && r) n (pos 0) ≡ cond (s && k) n (pos 0) +ℤ cond ((s && r) && not k) n (pos 0)
    at n false r k part = omega (arith, ints)
    at n true true true part = omega (arith, ints)
    at n true true false part = omega (arith, ints)
    at n true false true part = absurd (false≢true (part refl))
    at n true false false part = omega (arith, ints)

-- a side loses nothing with the clubs that reach nothing
pub round_keeps : (table reach : List ℤ) (pairs : List Pair) (rest next side : ℕ → Bool)
    → ((part : ℕ → Bool) → sum_of_side reach part ≡ sum_of_side table part
    +ℤ pos (sum_of_pairs (has_home_in rest part) pairs)
    +ℤ pos (sum_of_pairs (has_away_in rest part) pairs))
    → ((club : ℕ) → next club ≡ (rest club && int_lt (pos 0) (entry reach club)))
    → excess_in table pairs (in_both side rest) ≤ℤ excess_in table pairs (in_both side next)
round_keeps table reach pairs rest next side reaches is_next =
    let out = dropped side rest next in
    let clubs = clubs_kept table side rest next part in
    let kept = pairs_kept pairs side rest next in
    let reached = reaches out in
    let low = sum_below-low 32 (λ x. cond (out x) (entry reach x) (pos 0)) none_reaches in
    omega (arith, ints)
  where
    part : IsPartOf next rest
    part club kept =
        (and_parts (rest club) (int_lt (pos 0) (entry reach club)) (sym (is_next club) ∙ kept)).0

    none_reaches : (club : ℕ)
        → cond (dropped side rest next club) (entry reach club) (pos 0) ≤ℤ pos 0
    none_reaches club = at (entry reach club) (side club) (rest club) (next club) (is_next club)
      where
        at : (n : ℤ) (s r k : Bool) → k ≡ (r && int_lt (pos 0) n)
            → cond ((s && r) && not k) n (pos 0) ≤ℤ pos 0
        at n false r k is = omega (arith, ints)
        at n true false k is = omega (arith, ints)
        at n true true true is = omega (arith, ints)
        at n true true false is = under n is
          where
            under : (n : ℤ) → false ≡ int_lt (pos 0) n → n ≤ℤ pos 0
            under n is = grind (arith, ints)

-- nothing has been dropped
pub KeepsExcess-all : (table : List ℤ) (pairs : List Pair) (whole : ℕ → Bool)
    → KeepsExcess table pairs whole whole
KeepsExcess-all table pairs whole = record {
  part = λ club among. among;
  kept = λ side part.
      let same = excess_in-same table pairs side (in_both side whole)
      (λ club. at (side club) (whole club) (part club)) in
      omega (arith, ints);
}
  where
    at : (s w : Bool) → (s ≡ true → w ≡ true) → s ≡ (s && w)
    at false w part = refl
    at true w part = sym (part refl)

-- one round more
pub KeepsExcess-next : (table reach : List ℤ) (pairs : List Pair) (whole rest next : ℕ → Bool)
    → KeepsExcess table pairs whole rest
    → ((part : ℕ → Bool) → sum_of_side reach part ≡ sum_of_side table part
    +ℤ pos (sum_of_pairs (has_home_in rest part) pairs)
    +ℤ pos (sum_of_pairs (has_away_in rest part) pairs))
    → ((club : ℕ) → next club ≡ (rest club && int_lt (pos 0) (entry reach club)))
    → KeepsExcess table pairs whole next
KeepsExcess-next table reach pairs whole rest next keeps reaches is_next = record {
  part = λ club among. keeps.part club
      (and_parts (rest club) (int_lt (pos 0) (entry reach club)) (sym (is_next club) ∙ among)).0;
  kept = λ side part.
      let before = keeps.kept side part in
      let now = round_keeps table reach pairs rest next side reaches is_next in
      omega (arith, ints);
}

-- if none is left no part has an excess
pub none_left : (table : List ℤ) (pairs : List Pair) (whole rest : ℕ → Bool)
    → KeepsExcess table pairs whole rest → ((club : ℕ) → rest club ≡ false)
    → HasNoExcess table pairs whole
none_left table pairs whole rest keeps none side part =
    let kept = keeps.kept side part in
    let empty = excess_in-empty table pairs (in_both side rest)
    (λ club. ap (λ b. side club && b) (none club) ∙ and_false (side club)) in
    omega (arith, ints)
  where
    and_false : (b : Bool) → (b && false) ≡ false
    and_false true = refl
    and_false false = refl

in_rest : (side rest : ℕ → Bool) → IsPartOf (in_both side rest) rest
in_rest side rest club among = (and_parts (side club) (rest club) among).1

-- if no part of the rest has an excess, none of the whole has
pub no_excess_of_all : (table : List ℤ) (pairs : List Pair) (whole rest : ℕ → Bool)
    → KeepsExcess table pairs whole rest → HasNoExcess table pairs rest
    → HasNoExcess table pairs whole
no_excess_of_all table pairs whole rest keeps none side part =
    let kept = keeps.kept side part in
    let low = none (in_both side rest) (in_rest side rest) in
    omega (arith, ints)

-- what is best among the rest is best among all
pub best_of_all : (table : List ℤ) (pairs : List Pair) (whole rest best : ℕ → Bool)
    → KeepsExcess table pairs whole rest → IsLeastBest table pairs rest best
    → IsLeastBest table pairs whole best
best_of_all table pairs whole rest best keeps is = record {
  part = λ club among. keeps.part club (is.part club among);
  exceeds = is.exceeds;
  greatest = λ other part.
      let kept = keeps.kept other part in
      let most = is.greatest (in_both other rest) (in_rest other rest) in
      omega (arith, ints);
  contained = λ other part same club among.
      let kept = keeps.kept other part in
      let most = is.greatest (in_both other rest) (in_rest other rest) in
      let inside = is.contained (in_both other rest) (in_rest other rest) (omega (arith, ints)) in
      (and_parts (other club) (rest club) (inside club among)).0;
}

-- a side without a club needs none
pub EachAdds-empty : (table : List ℤ) (pairs : List Pair) (side : ℕ → Bool)
    → ((club : ℕ) → side club ≡ false) → EachAdds table pairs side
EachAdds-empty table pairs side none club among = absurd (false≢true (sym (none club) ∙ among))

-- the sum of a side of one club
pub sum_of_side-one : (table : List ℤ) (club : ℕ) → club < 32
    → sum_of_side table (eqb club) ≡ entry table club
sum_of_side-one table club within =
    sum_below-same 32 (λ x. cond (eqb club x) (entry table x) (pos 0))
    (λ x. cond (eqb club x) (entry table club) (pos 0)) (λ x below. at x (cases_eq club x))
    ∙ sum_below-one 32 club (entry table club) within
  where
    at : (x : ℕ) → (club ≡ x) ⊎ (club ≢ x)
        → cond (eqb club x) (entry table x) (pos 0) ≡ cond (eqb club x) (entry table club) (pos 0)
    at x (inl same) = ap (λ (n : ℕ). cond (eqb club x) (entry table n) (pos 0)) (sym same)
    at x (inr apart) =
        ap (λ b. cond b (entry table x) (pos 0)) (ne_eqb club x apart)
        ∙ sym (ap (λ b. cond b (entry table club) (pos 0)) (ne_eqb club x apart))

-- if a round drops no club, each adds something
pub EachAdds-kept : (table reach : List ℤ) (pairs : List Pair) (rest next : ℕ → Bool)
    → ((part : ℕ → Bool) → sum_of_side reach part ≡ sum_of_side table part
    +ℤ pos (sum_of_pairs (has_home_in rest part) pairs)
    +ℤ pos (sum_of_pairs (has_away_in rest part) pairs))
    → ((club : ℕ) → next club ≡ (rest club && int_lt (pos 0) (entry reach club)))
    → ((club : ℕ) → rest club ≡ true → club < 32) → IsPartOf rest next
    → EachAdds table pairs rest
EachAdds-kept table reach pairs rest next reaches is_next low kept club among =
    let within = low club among in
    let above = (and_parts (rest club) (int_lt (pos 0) (entry reach club))
    (sym (is_next club) ∙ kept club among)).1 in
    let own = sum_of_side-one table club within in
    let all = sum_of_side-one reach club within in
    let sum = reaches (eqb club) in
    let over = positive_is (entry reach club) above in
    omega (arith, ints, own, all, sum, over)
  where
    positive_is : (n : ℤ) → int_lt (pos 0) n ≡ true → pos 0 <ℤ n
    positive_is n is = grind (arith, ints)
