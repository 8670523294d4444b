-- The list of the open fixtures: between two of them that follow each other each one has a result.
use Rattle.std.proofs.Common.{◌≡◌, ℕ, zero, suc, ◌+◌, ◌<◌, ◌≤◌, ◌⊎◌, inl, inr, Bool, true, false}
use Rattle.std.proofs.Common.{◌≢◌, List, [], ◌∷◌, cond, filter, length, get_or, sym, ap, ◌∙◌, subst}
use Rattle.std.proofs.Common.{arith}
use Rattle.std.specs.List.{range_with_len}
use Rattle.std.proofs.lemmas.Bool.{cases_Bool, cases_eq}

-- the numbers of a run that pass a test, in their order; past them stands the end of the run
pub record IsWalk (test : ℕ → Bool) (from end : ℕ) (walk : List ℕ) : Type 0 where
  pub first_in : from ≤ get_or walk 0 end
  pub inside : (place : ℕ) → place < length walk → get_or walk place end < end
  pub ordered : (place : ℕ) → place < length walk
      → get_or walk place end < get_or walk (place + 1) end
  pub ends : (place : ℕ) → get_or walk place end ≤ end
  pub before : (k : ℕ) → from ≤ k → k < get_or walk 0 end → test k ≡ false
  pub between : (place k : ℕ) → place < length walk → get_or walk place end < k
      → k < get_or walk (place + 1) end → test k ≡ false

-- an empty list
no_walk : (test : ℕ → Bool) (end : ℕ) → IsWalk test end end []
no_walk test end = record {
  first_in = omega arith;
  inside = λ place there. absurd (omega (arith, there));
  ordered = λ place there. absurd (omega (arith, there));
  ends = λ place. omega arith;
  before = λ k low high. absurd (omega (arith, low, high));
  between = λ place k there. absurd (omega (arith, there));
}

-- a number that fails comes before
walk_past : (test : ℕ → Bool) (from end : ℕ) (walk : List ℕ) → test from ≡ false
    → IsWalk test (from + 1) end walk → IsWalk test from end walk
walk_past test from end walk fails later = record {
  first_in = omega (arith, later.first_in);
  inside = later.inside;
  ordered = later.ordered;
  ends = later.ends;
  before = λ k low high. by_place k low high (cases_eq k from);
  between = later.between;
}
  where
    by_place : (k : ℕ) → from ≤ k → k < get_or walk 0 end → (k ≡ from) ⊎ (k ≢ from)
        → test k ≡ false
    by_place k low high (inl same) = ap test same ∙ fails
    by_place k low high (inr other) = later.before k (omega (arith, low, other)) high

-- one that passes stands first
walk_with : (test : ℕ → Bool) (from end : ℕ) (walk : List ℕ) → from < end
    → IsWalk test (from + 1) end walk → IsWalk test from end (from ∷ walk)
walk_with test from end walk low later = record {
  first_in = omega arith;
  inside = inside;
  ordered = ordered;
  ends = ends;
  before = λ k above below. absurd (omega (arith, above, below));
  between = between;
}
  where
    inside : (place : ℕ) → place < length (from ∷ walk) → get_or (from ∷ walk) place end < end
    inside zero there = low
    inside (suc place) there = later.inside place (omega (arith, there))

    next_is : (place : ℕ)
        → get_or (from ∷ walk) (suc place + 1) end ≡ get_or walk (place + 1) end
    next_is place =
        let next : suc place + 1 ≡ suc (place + 1) = omega arith in
        ap (λ n. get_or (from ∷ walk) n end) next

    ordered : (place : ℕ) → place < length (from ∷ walk)
        → get_or (from ∷ walk) place end < get_or (from ∷ walk) (place + 1) end
    ordered zero there = omega (arith, later.first_in)
    ordered (suc place) there =
        subst (λ n. get_or walk place end < n) (sym (next_is place))
        (later.ordered place (omega (arith, there)))

    ends : (place : ℕ) → get_or (from ∷ walk) place end ≤ end
    ends zero = omega (arith, low)
    ends (suc place) = later.ends place

    between : (place k : ℕ) → place < length (from ∷ walk) → get_or (from ∷ walk) place end < k
        → k < get_or (from ∷ walk) (place + 1) end → test k ≡ false
    between zero k there above below = later.before k (omega (arith, above)) below
    between (suc place) k there above below =
        later.between place k (omega (arith, there)) above
        (subst (λ n. k < n) (next_is place) below)

-- one number more, which passes or not
with_next : (test : ℕ → Bool) (from count : ℕ)
    → IsWalk test (from + 1) (from + 1 + count) (filter test (range_with_len (from + 1) count))
    → IsWalk test from (from + suc count) (filter test (range_with_len from (suc count)))
with_next test from count so_far = by_test (cases_Bool (test from))
  where
    rest : List ℕ
    rest = filter test (range_with_len (from + 1) count)

    end_is : from + 1 + count ≡ from + suc count
    end_is = omega arith

    later : IsWalk test (from + 1) (from + suc count) rest
    later = subst (λ (end : ℕ). IsWalk test (from + 1) end rest) end_is so_far

    by_test : (test from ≡ true) ⊎ (test from ≡ false)
        → IsWalk test from (from + suc count) (filter test (range_with_len from (suc count)))
    by_test (inl passes) =
        subst (λ (b : Bool). IsWalk test from (from + suc count) (cond b (from ∷ rest) rest))
        (sym passes)
        (walk_with test from (from + suc count) rest (omega arith) later)
    by_test (inr fails) =
        subst (λ (b : Bool). IsWalk test from (from + suc count) (cond b (from ∷ rest) rest))
        (sym fails)
        (walk_past test from (from + suc count) rest fails later)

-- what a test leaves of a run is such a list
pub filter_walk : (test : ℕ → Bool) (from count : ℕ)
    → IsWalk test from (from + count) (filter test (range_with_len from count))
filter_walk test from zero =
    subst (λ (end : ℕ). IsWalk test from end []) (from_is from) (no_walk test from)
  where
    from_is : (n : ℕ) → n ≡ n + 0
    from_is n = omega arith
filter_walk test from (suc count) =
    with_next test from count (filter_walk test (from + 1) count)
