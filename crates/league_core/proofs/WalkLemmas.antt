-- A walk over the clubs of a set: the clubs that it has seen, the one that it comes to, and those
-- that are left.
use Rattle.std.proofs.Common.{◌≡◌, ◌≢◌, inl, inr, ℕ, zero, suc, ◌+◌, ◌<◌, ◌≤◌, Bool, true, false}
use Rattle.std.proofs.Common.{not, ◌&&◌, ◌||◌, ◌==◌, eqb, ltb, cond, List, [], ◌∷◌, ◌++◌, filter}
use Rattle.std.proofs.Common.{length, drop, get_or, set, refl, sym, ap, ◌∙◌, arith}
use Rattle.std.specs.List.{range_with_len}
use Rattle.std.specs.Int.{bit_at}
use Rattle.std.specs.Iterator.{Yields}
use Rattle.std.specs.Map.Iter.{TakesFirst}
use Rattle.std.proofs.lemmas.Bool.{false≢true, and_parts, and_from, or_left, or_right, cases_eq}
use Rattle.std.proofs.lemmas.Bool.{lt-ltb, eq-eqb, ne_eqb, cases_Bool}
use Rattle.std.proofs.lemmas.Bool.Decides.{nat_tests}
use Rattle.std.proofs.lemmas.List.{append-nil, length-append}
use Rattle.std.proofs.Math.Bool.{and-true, and-false, or-false}
use Rattle.league_core.specs.declared.club_set.ClubSet.{ClubSet}
use Rattle.league_core.specs.game.Sums.{has_club}
use Rattle.league_core.specs.game.ClubSets.{clubs_below, clubs_in}
use Rattle.league_core.proofs.ClubLemmas.{has_club-append}
use Rattle.league_core.proofs.ClubSetLemmas.{has_club-filter, has_club-range_from, filter_agree_in}
use Rattle.league_core.proofs.ClubSetLemmas.{clubs_below-filter, has_club-clubs_below}
use Rattle.league_core.proofs.ClubCountLemmas.{member_below, few_members}
use Rattle.league_core.proofs.plain.Filters.{filter-filter}

-- the numbers of a run that pass a test are the first of them, and those that are not that one
filter_first : (p : ℕ → Bool) (from count first : ℕ) → from ≤ first → first < from + count
    → p first ≡ true → ((x : ℕ) → x < from + count → p x ≡ true → first ≤ x)
    → filter p (range_with_len from count)
    ≡ first ∷ filter (λ x. p x && not (first == x)) (range_with_len from count)
filter_first p from zero first low high passes least = absurd (omega arith)
filter_first p from (suc count) first low high passes least =
    elim (cases_eq from first) as (λ _. filter p (range_with_len from (suc count))
    ≡ first ∷ filter others (range_with_len from (suc count))) [
      | inl same ↦
          ap (λ b. cond b (from ∷ filter p rest) (filter p rest)) (ap p same ∙ passes)
          ∙ ap (λ x. x ∷ filter p rest) same
          ∙ ap (λ xs. first ∷ xs)
          (filter_agree_in p others rest (λ x here. kept x (later x same here))
          ∙ ap (λ b. cond b (from ∷ filter others rest) (filter others rest))
          (sym (out same)))
      | inr apart ↦
          ap (λ b. cond b (from ∷ filter p rest) (filter p rest)) (fails apart)
          ∙ filter_first p (from + 1) count first (omega arith) (omega arith) passes
          (λ x within. least x (omega arith))
          ∙ ap (λ b. first ∷ cond (b && not (first == from)) (from ∷ filter others rest)
          (filter others rest)) (sym (fails apart))
    ]
  where
    others : ℕ → Bool
    others x = p x && not (first == x)

    rest : List ℕ
    rest = range_with_len (from + 1) count

    later : (x : ℕ) → from ≡ first → has_club rest x ≡ true → first ≢ x
    later x same here is = grind (
      arith,
      nat_tests,
      same,
      is,
      here,
      has_club-range_from (from + 1) count x,
    )

    kept : (x : ℕ) → first ≢ x → p x ≡ others x
    kept x apart = sym (ap (λ b. p x && not b) (ne_eqb first x apart) ∙ and-true (p x))

    out : from ≡ first → others from ≡ false
    out same = ap (λ b. p from && not b) (eq-eqb first from (sym same)) ∙ and-false (p from)

    fails : from ≢ first → p from ≡ false
    fails apart = elim (cases_Bool (p from)) as (λ _. p from ≡ false) [
      | inl among ↦
          absurd (apart (let no_less = least from (omega arith) among in omega arith))
      | inr out ↦ out
    ]

starts : (bits first : ℕ) → first < 32 → has_club (clubs_below 32 bits) first ≡ true
    → ((club : ℕ) → has_club (clubs_below 32 bits) club ≡ true → first ≤ club)
    → clubs_below 32 bits ≡ first ∷ filter (λ x. not (first == x)) (clubs_below 32 bits)
unfolding clubs_below
starts bits first low among least =
    filter_first p 0 32 first (omega arith) (omega (arith, low))
    (and_parts (ltb first 32) (p first) (sym (has_club-clubs_below 32 bits first) ∙ among)).1
    (λ x within passes. least x (has_club-clubs_below 32 bits x
    ∙ and_from (ltb x 32) (p x) (lt-ltb x 32 within) passes))
    ∙ ap (λ (xs : List ℕ). first ∷ xs) (sym (filter-filter (λ x. not (first == x)) p
    (range_with_len 0 32)))
  where
    p : ℕ → Bool
    p x = eqb (bit_at bits x) 1

-- a set without its first club has the others, in the same order
pub first_of_clubs : (set rest : ClubSet) (first : ℕ) → has_club (clubs_in set) first ≡ true
    → ((club : ℕ) → has_club (clubs_in set) club ≡ true → first ≤ club)
    → ((club : ℕ) → has_club (clubs_in rest) club
    ≡ (has_club (clubs_in set) club && not (has_club (first ∷ []) club)))
    → clubs_in set ≡ first ∷ clubs_in rest
first_of_clubs set rest first among least is =
    starts set.bits first (member_below set first among) among least
    ∙ ap (λ (xs : List ℕ). first ∷ xs) (sym (clubs_below-filter 32 rest.bits set.bits
    (λ x. not (first == x)) (λ x. is x ∙ ap (λ b. has_club (clubs_in set) x && not b)
    (or-false (first == x)))))

-- the clubs of a set are those that a walk has seen and those that are left
pub walked : (clubs seen left : List ℕ) → Yields (TakesFirst (λ (club : ℕ). club)) clubs seen left
    → clubs ≡ seen ++ left
walked clubs [] left steps = steps
walked clubs (club ∷ seen) left steps =
    steps.1 ∙ ap (λ (xs : List ℕ). club ∷ xs) (walked steps.0 seen left steps.2)

-- a list has the club that stands after others
pub stands_after : (seen : List ℕ) (club : ℕ) (rest : List ℕ)
    → has_club (seen ++ club ∷ rest) club ≡ true
stands_after seen club rest =
    has_club-append seen (club ∷ rest) club
    ∙ or_right (has_club seen club) ((club == club) || has_club rest club)
    (or_left (club == club) (has_club rest club) (eq-eqb club club refl))

-- a number of a run that passes a test parts those before it from those after it
record Parts (from : ℕ) (seen : List ℕ) (club : ℕ) (rest : List ℕ) : Type 0 where
  is_new : has_club seen club ≡ false
  low : from ≤ club
  none_before : (x : ℕ) → x < club → has_club (club ∷ rest) x ≡ false

parts_run : (p : ℕ → Bool) (from count : ℕ) (seen : List ℕ) (club : ℕ) (rest : List ℕ)
    → filter p (range_with_len from count) ≡ seen ++ club ∷ rest → Parts from seen club rest
parts_run p from zero seen club rest is =
    absurd (false≢true (ap (λ (xs : List ℕ). has_club xs club) is ∙ stands_after seen club rest))
parts_run p from (suc count) seen club rest is =
    elim (cases_Bool (p from)) as (λ _. Parts from seen club rest) [
      | inl passes ↦
          at_first seen (sym (ap (λ b. cond b (from ∷ later) later) passes) ∙ is)
          (λ seen is. parts_run p (from + 1) count seen club rest is)
      | inr fails ↦
          let met = parts_run p (from + 1) count seen club rest
          (sym (ap (λ b. cond b (from ∷ later) later) fails) ∙ is) in
          record {
            is_new = met.is_new;
            low = omega (arith, met.low);
            none_before = met.none_before;
          }
    ]
  where
    later : List ℕ
    later = filter p (range_with_len (from + 1) count)

    none_later : (x : ℕ) → x ≤ from → has_club later x ≡ false
    none_later x below =
        has_club-filter p (range_with_len (from + 1) count) x
        ∙ ap (λ b. b && p x) (has_club-range_from (from + 1) count x
        ∙ ap (λ b. not b && ltb x (from + 1 + count)) (lt-ltb x (from + 1) (omega arith)))

    at_first : (seen : List ℕ) → from ∷ later ≡ seen ++ club ∷ rest
        → ((seen : List ℕ) → later ≡ seen ++ club ∷ rest → Parts (from + 1) seen club rest)
        → Parts from seen club rest
    at_first [] is after =
        let same : from ≡ club = ap (λ (xs : List ℕ). get_or xs 0 0) is in
        record {
          is_new = refl;
          low = omega (arith, same);
          none_before = λ x before.
              ap (λ (xs : List ℕ). has_club xs x) (sym is)
              ∙ ap (λ b. b || has_club later x)
              (ne_eqb from x (λ equal. omega (arith, before, same, equal)))
              ∙ none_later x (omega (arith, before, same));
        }
    at_first (first ∷ seen) is after =
        let met = after seen (ap (λ (xs : List ℕ). drop 1 xs) is) in
        let same : from ≡ first = ap (λ (xs : List ℕ). get_or xs 0 0) is in
        record {
          is_new = ap (λ b. b || has_club seen club)
              (ne_eqb first club (λ equal. omega (arith, met.low, same, equal)))
              ∙ met.is_new;
          low = omega (arith, met.low);
          none_before = met.none_before;
        }

-- the list of a set has each club once, in the order of the numbers
parts_set : (bits : ℕ) (seen : List ℕ) (club : ℕ) (rest : List ℕ)
    → clubs_below 32 bits ≡ seen ++ club ∷ rest → Parts 0 seen club rest
unfolding clubs_below
parts_set bits seen club rest is =
    parts_run (λ x. eqb (bit_at bits x) 1) 0 32 seen club rest is

-- a walk that has seen some clubs of a set comes to one that it has not seen
pub record ComesTo (set : ClubSet) (seen : List ℕ) (club : ℕ) : Type 0 where
  pub among : has_club (clubs_in set) club ≡ true
  pub low : club < 32
  pub is_new : has_club seen club ≡ false
  pub few : length seen < 32
  pub before : (earlier : ℕ) → earlier < club → has_club (clubs_in set) earlier ≡ true
      → has_club seen earlier ≡ true

pub comes_to : {clubs left rest : List ℕ} (set : ClubSet) (seen : List ℕ) (club : ℕ)
    → clubs ≡ clubs_in set → Yields (TakesFirst (λ (club : ℕ). club)) clubs seen left
    → left ≡ club ∷ rest → ComesTo set seen club
comes_to {clubs} {left} {rest} set seen club are steps next =
    let list = sym are ∙ walked clubs seen left steps ∙ ap (λ (xs : List ℕ). seen ++ xs) next in
    let among = ap (λ (xs : List ℕ). has_club xs club) list ∙ stands_after seen club rest in
    let parts = parts_set set.bits seen club rest list in
    record {
      among = among;
      low = member_below set club among;
      is_new = parts.is_new;
      before = λ earlier less has.
          sym (ap (λ b. has_club seen earlier || b) (parts.none_before earlier less)
          ∙ or-false (has_club seen earlier))
          ∙ sym (has_club-append seen (club ∷ rest) earlier)
          ∙ sym (ap (λ (xs : List ℕ). has_club xs earlier) list) ∙ has;
      few = omega (arith, few_members set, ap length list, length-append seen (club ∷ rest));
    }

-- if a walk has no club left it has seen all
pub all_seen : {clubs left : List ℕ} (set : ClubSet) (seen : List ℕ) → clubs ≡ clubs_in set
    → Yields (TakesFirst (λ (club : ℕ). club)) clubs seen left → left ≡ []
    → seen ≡ clubs_in set
all_seen {clubs} {left} set seen are steps none =
    sym (sym are ∙ walked clubs seen left steps ∙ ap (λ (xs : List ℕ). seen ++ xs) none
    ∙ append-nil seen)
