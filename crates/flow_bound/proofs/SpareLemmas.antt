-- Clubs that are left out because each of them, with all its pairs, adds nothing.
use Rattle.std.proofs.Common.{◌≡◌, ◌≢◌, ◌⊎◌, ℕ, ◌<◌, ℤ, pos, ◌+ℤ◌, ◌≤ℤ◌, Bool, true, false, not}
use Rattle.std.proofs.Common.{◌&&◌, cond, eqb, List, [], ◌∷◌, refl, sym, ap, ◌∙◌, inl, inr, arith}
use Rattle.std.proofs.lemmas.Int.{ints}
use Rattle.std.proofs.lemmas.Bool.{and_parts, cases_eq, eq-eqb, ne_eqb}
use Rattle.flow_bound.specs.declared.tally.Pair.{Pair}
use Rattle.flow_bound.specs.inside.Parts.{entry, sum_below, sum_of_side, sum_of_pairs, has_both}
use Rattle.flow_bound.specs.inside.Parts.{in_both, IsFirstOver, IsPartOf, KeepsExcess, NoneOver}
use Rattle.flow_bound.specs.inside.Network.{has_home_in, has_away_in}
use Rattle.flow_bound.proofs.PartLemmas.{sum_below-same, sum_below-plus, sum_below-low}
use Rattle.flow_bound.proofs.PartLemmas.{sum_below-none, sum_below-one, sum_of_pairs-cons}
use Rattle.flow_bound.proofs.PartLemmas.{excess_in-same}
use Rattle.flow_bound.proofs.PeelLemmas.{dropped, clubs_kept, pairs_kept, KeepsExcess-all}
use Rattle.league_core.proofs.plain.Numbers.{cond_pos}
use Rattle.league_core.proofs.plain.TruthValues.{cond_same}

nothing_below : (side : ℕ → Bool) → sum_below 32 (λ x. cond (side x) (pos 0) (pos 0)) ≡ pos 0
nothing_below side =
    sum_below-same 32 (λ x. cond (side x) (pos 0) (pos 0)) (λ x. pos 0)
    (λ x below. cond_same (side x) (pos 0)) ∙ sum_below-none 32

-- a number that counts at one club, over a side
one_club : (at number : ℕ) (side : ℕ → Bool) → at < 32
    → sum_below 32 (λ x. cond (side x) (pos (cond (eqb at x) number 0)) (pos 0))
    ≡ pos (cond (side at) number 0)
one_club at number side low =
    sum_below-same 32 (λ x. cond (side x) (pos (cond (eqb at x) number 0)) (pos 0))
    (λ x. cond (eqb at x) (pos (cond (side at) number 0)) (pos 0))
    (λ x below. here x (cases_eq at x))
    ∙ sum_below-one 32 at (pos (cond (side at) number 0)) low
  where
    here : (x : ℕ) → (at ≡ x) ⊎ (at ≢ x)
        → cond (side x) (pos (cond (eqb at x) number 0)) (pos 0)
        ≡ cond (eqb at x) (pos (cond (side at) number 0)) (pos 0)
    here x (inl same) =
        ap (λ b. cond (side x) (pos (cond b number 0)) (pos 0)) (eq-eqb at x same)
        ∙ cond_pos (side x) number
        ∙ ap (λ b. pos (cond b number 0)) (ap side (sym same))
        ∙ ap (λ b. cond b (pos (cond (side at) number 0)) (pos 0)) (sym (eq-eqb at x same))
    here x (inr apart) =
        ap (λ b. cond (side x) (pos (cond b number 0)) (pos 0)) (ne_eqb at x apart)
        ∙ cond_same (side x) (pos 0)
        ∙ ap (λ b. cond b (pos (cond (side at) number 0)) (pos 0)) (sym (ne_eqb at x apart))

-- a pair in the part of which one club, by its end, is on a side
abbrev at_end : (Pair → ℕ) → (ℕ → Bool) → (ℕ → Bool) → Pair → Bool
at_end end part side pair = has_both part pair && side (end pair)

pair_by_club : (inside : Bool) (at number : ℕ) (side : ℕ → Bool) → (inside ≡ true → at < 32)
    → sum_below 32 (λ x. cond (side x) (pos (cond (inside && eqb at x) number 0)) (pos 0))
    ≡ pos (cond (inside && side at) number 0)
pair_by_club true at number side low = one_club at number side (low refl)
pair_by_club false at number side low = nothing_below side

-- the pairs of a side, club by club
pairs_by_club : (end : Pair → ℕ) (part side : ℕ → Bool)
    → ((pair : Pair) → has_both part pair ≡ true → end pair < 32) → (pairs : List Pair)
    → pos (sum_of_pairs (at_end end part side) pairs)
    ≡ sum_below 32 (λ x. cond (side x)
    (pos (sum_of_pairs (at_end end part (λ club. eqb club x)) pairs)) (pos 0))
pairs_by_club end part side low [] = sym (nothing_below side)
pairs_by_club end part side low (pair ∷ pairs) =
    let first = sum_of_pairs-cons (at_end end part side) pair pairs in
    let rest = pairs_by_club end part side low pairs in
    let here = pair_by_club (has_both part pair) (end pair) pair.surplus side (low pair) in
    let own = λ (x : ℕ). cond (side x)
    (pos (cond (has_both part pair && eqb (end pair) x) pair.surplus 0)) (pos 0) in
    let others = λ (x : ℕ). cond (side x)
    (pos (sum_of_pairs (at_end end part (λ club. eqb club x)) pairs)) (pos 0) in
    let parts = sum_below-same 32 (λ x. cond (side x)
    (pos (sum_of_pairs (at_end end part (λ club. eqb club x)) (pair ∷ pairs))) (pos 0))
    (λ x. own x +ℤ others x) (λ x below. split x (side x)) ∙ sum_below-plus 32 own others in
    omega (arith, ints, first, rest, here, parts)
  where
    split : (x : ℕ) (b : Bool) → cond b
        (pos (sum_of_pairs (at_end end part (λ club. eqb club x)) (pair ∷ pairs))) (pos 0)
        ≡ cond b (pos (cond (has_both part pair && eqb (end pair) x) pair.surplus 0)) (pos 0)
        +ℤ cond b (pos (sum_of_pairs (at_end end part (λ club. eqb club x)) pairs)) (pos 0)
    split x true =
        let sum = sum_of_pairs-cons (at_end end part (λ club. eqb club x)) pair pairs in
        omega (arith, ints, sum)
    split x false = omega (arith, ints)

-- what a club adds at most if only clubs of a part are taken: its own entry, and all its pairs
abbrev pub most_added : List ℤ → List Pair → (ℕ → Bool) → ℕ → ℤ
most_added table pairs part x =
    entry table x +ℤ pos (sum_of_pairs (has_home_in part (λ club. eqb club x)) pairs)
    +ℤ pos (sum_of_pairs (has_away_in part (λ club. eqb club x)) pairs)

-- clubs of which each adds nothing add nothing together
added_together : (table : List ℤ) (pairs : List Pair) (part out : ℕ → Bool)
    → ((club : ℕ) → part club ≡ true → club < 32)
    → ((club : ℕ) → out club ≡ true → most_added table pairs part club ≤ℤ pos 0)
    → (sum_of_side table out +ℤ pos (sum_of_pairs (has_home_in part out) pairs)
    +ℤ pos (sum_of_pairs (has_away_in part out) pairs)) ≤ℤ pos 0
added_together table pairs part out low none =
    let home = pairs_by_club (λ pair. pair.home) part out
    (λ pair both. low pair.home (and_parts (part pair.home) (part pair.away) both).0) pairs in
    let away = pairs_by_club (λ pair. pair.away) part out
    (λ pair both. low pair.away (and_parts (part pair.home) (part pair.away) both).1) pairs in
    let own = λ (x : ℕ). cond (out x) (entry table x) (pos 0) in
    let at_home = λ (x : ℕ). cond (out x)
    (pos (sum_of_pairs (has_home_in part (λ club. eqb club x)) pairs)) (pos 0) in
    let on_tour = λ (x : ℕ). cond (out x)
    (pos (sum_of_pairs (has_away_in part (λ club. eqb club x)) pairs)) (pos 0) in
    let first = sum_below-plus 32 own at_home in
    let both = sum_below-plus 32 (λ x. own x +ℤ at_home x) on_tour in
    let all = sum_below-low 32 (λ x. own x +ℤ at_home x +ℤ on_tour x)
    (λ x. each x (out x) (none x)) in
    omega (arith, ints, home, away, first, both, all)
  where
    each : (x : ℕ) (b : Bool) → (b ≡ true → most_added table pairs part x ≤ℤ pos 0)
        → (cond b (entry table x) (pos 0)
        +ℤ cond b (pos (sum_of_pairs (has_home_in part (λ club. eqb club x)) pairs)) (pos 0)
        +ℤ cond b (pos (sum_of_pairs (has_away_in part (λ club. eqb club x)) pairs)) (pos 0))
        ≤ℤ pos 0
    each x true least = least refl
    each x false least = omega (arith, ints)

-- so they are no loss
pub KeepsExcess-spare : (table : List ℤ) (pairs : List Pair) (whole next : ℕ → Bool)
    → IsPartOf next whole → ((club : ℕ) → whole club ≡ true → club < 32)
    → ((club : ℕ) → whole club ≡ true → next club ≡ false
    → most_added table pairs whole club ≤ℤ pos 0)
    → KeepsExcess table pairs whole next
KeepsExcess-spare table pairs whole next part low none = record {
  part = part;
  kept = λ side inside.
      let out = dropped side whole next in
      let all = (KeepsExcess-all table pairs whole).kept side inside in
      let clubs = clubs_kept table side whole next part in
      let kept = pairs_kept pairs side whole next in
      let nothing = added_together table pairs whole out low (λ club is. spare side club is) in
      omega (arith, ints, all, clubs, kept, nothing);
}
  where
    spare : (side : ℕ → Bool) (club : ℕ) → dropped side whole next club ≡ true
        → most_added table pairs whole club ≤ℤ pos 0
    spare side club is =
        let parts = and_parts (in_both side whole club) (not (next club)) is in
        none club (and_parts (side club) (whole club) parts.0).1 (not_true (next club) parts.1)
      where
        not_true : (b : Bool) → not b ≡ true → b ≡ false
        not_true true h = sym h
        not_true false h = refl

-- what is kept of what is kept
pub KeepsExcess-both : (table : List ℤ) (pairs : List Pair) (whole some rest : ℕ → Bool)
    → KeepsExcess table pairs whole some → KeepsExcess table pairs some rest
    → KeepsExcess table pairs whole rest
KeepsExcess-both table pairs whole some rest first second = record {
  part = λ club among. first.part club (second.part club among);
  kept = λ side inside.
      let before = first.kept side inside in
      let now = second.kept (in_both side some) (λ club among.
      (and_parts (side club) (some club) among).1) in
      let same = excess_in-same table pairs (in_both (in_both side some) rest) (in_both side rest)
      (λ club. at (side club) (some club) (rest club) (second.part club)) in
      omega (arith, ints, before, now, same);
}
  where
    at : (s m r : Bool) → (r ≡ true → m ≡ true) → ((s && m) && r) ≡ (s && r)
    at true m true inside = ap (λ b. b && true) (inside refl)
    at true true false inside = refl
    at true false false inside = refl
    at false m r inside = refl

-- if the clubs that are left out have no entry above 0
abbrev AreLow : List ℤ → (ℕ → Bool) → (ℕ → Bool) → Type 0
AreLow table whole some =
    (club : ℕ) → whole club ≡ true → some club ≡ false → entry table club ≤ℤ pos 0

pub NoneOver-whole : (table : List ℤ) (whole some : ℕ → Bool) → AreLow table whole some
    → NoneOver table some → NoneOver table whole
NoneOver-whole table whole some low none club among = at (some club) refl
  where
    at : (b : Bool) → some club ≡ b → entry table club ≤ℤ pos 0
    at true is = none club is
    at false is = low club among is

pub IsFirstOver-whole : (table : List ℤ) (whole some : ℕ → Bool) (club : ℕ)
    → IsPartOf some whole → AreLow table whole some → IsFirstOver table some club
    → IsFirstOver table whole club
IsFirstOver-whole table whole some club part low first = record {
  among = part club first.among;
  over = first.over;
  none_before = λ earlier before among. at earlier before among (some earlier) refl;
}
  where
    at : (earlier : ℕ) → earlier < club → whole earlier ≡ true → (b : Bool)
        → some earlier ≡ b → entry table earlier ≤ℤ pos 0
    at earlier before among true is = first.none_before earlier before is
    at earlier before among false is = low earlier among is
