-- General facts on what stands at a place of a list, and on writing there.
use Rattle.std.proofs.Common.{Bool, List, Some, [], add-one, ap, arith, drop, false, get_or, inl}
use Rattle.std.proofs.Common.{inr, length, map, refl, set, suc, sym, take, zero, ℕ, ◌++◌, ◌+◌, ◌<◌}
use Rattle.std.proofs.Common.{◌∙◌, ◌∷◌, ◌≡◌, ◌≢◌, ◌⊎◌}
use Rattle.std.specs.List.{All, list_any, slice_get}
use Rattle.std.proofs.lemmas.Bool.{or_parts}
use Rattle.std.proofs.lemmas.List.{set-get_or}
use Rattle.std.proofs.lemmas.Option.{get_or_from_slice_get, none-some, same_Some, slice_get_read}
use Rattle.std.proofs.lemmas.Option.{slice_get_within}

-- what stands in a list that is longer by one stood there before, or is the last
pub at_pushed : {X : Type 0} (xs : List X) (last : X) (i : ℕ) (x : X)
    → slice_get (xs ++ last ∷ []) i ≡ Some x
    → (slice_get xs i ≡ Some x) ⊎ ((i ≡ length xs) × (last ≡ x))
at_pushed [] last zero x is = inr (refl, same_Some last x is)
at_pushed [] last (suc i) x is = absurd (none-some x is)
at_pushed (first ∷ xs) last zero x is = inl is
at_pushed (head ∷ xs) last (suc i) x is =
    elim (at_pushed xs last i x is) as
    (λ _. (slice_get (head ∷ xs) (suc i) ≡ Some x) ⊎ ((suc i ≡ length (head ∷ xs)) × (last ≡ x))) [
      | inl before ↦ inl before
      | inr end ↦ inr (ap suc end.0, end.1)
    ]

-- an entry may be named by any number past the list
pub get_or-default : (list : List ℕ) (place other : ℕ) → place < length list
    → get_or list place 0 ≡ get_or list place other
get_or-default [] place other within = absurd (omega arith)
get_or-default (x ∷ list) zero other within = refl
get_or-default (x ∷ list) (suc place) other within = get_or-default list place other (omega arith)

-- where no element passes, the one at a place does not
pub none_at : {X : Type 0} (p : X → Bool) (xs : List X) (i : ℕ) (x : X) → list_any p xs ≡ false
    → slice_get xs i ≡ Some x → p x ≡ false
none_at p [] i x none found = absurd (none-some x found)
none_at p (first ∷ xs) zero x none found =
    ap p (sym (same_Some first x found)) ∙ (or_parts (p first) (list_any p xs) none).0
none_at p (first ∷ xs) (suc i) x none found =
    none_at p xs i x (or_parts (p first) (list_any p xs) none).1 found

-- what an element says of its place
pub found_at : {X : Type 0} (xs : List X) (i : ℕ) (x : X) → i < length xs → x ≡ get_or xs i x
    → slice_get xs i ≡ Some x
found_at xs i x within is = slice_get_read xs (length xs) i x refl within is

-- a list in which an element was written over itself is as it was
pub set_again : {X : Type 0} (xs : List X) (i : ℕ) (x y : X) → x ≡ get_or xs i x → y ≡ x
    → set xs i y ≡ xs
set_again xs i x y is same = ap (set xs i) (same ∙ is) ∙ set-get_or xs i x

-- what is written at a place stands there
pub slice_get-set_same : {X : Type 0} (xs : List X) (i : ℕ) (x y : X) → slice_get xs i ≡ Some x
    → slice_get (set xs i y) i ≡ Some y
slice_get-set_same [] i x y is = absurd (none-some x is)
slice_get-set_same (first ∷ xs) zero x y is = refl
slice_get-set_same (first ∷ xs) (suc i) x y is = slice_get-set_same xs i x y is

-- what stands at another place stays
pub slice_get-set_other : {X : Type 0} (xs : List X) (i j : ℕ) (y : X) → j ≢ i
    → slice_get (set xs i y) j ≡ slice_get xs j
slice_get-set_other [] i j y different = refl
slice_get-set_other (first ∷ xs) zero zero y different = absurd (different refl)
slice_get-set_other (first ∷ xs) zero (suc j) y different = refl
slice_get-set_other (first ∷ xs) (suc i) zero y different = refl
slice_get-set_other (first ∷ xs) (suc i) (suc j) y different =
    slice_get-set_other xs i j y (λ same. different (ap suc same))

-- what is true of all is true of what stands at a place
pub All-at : {X : Type 0} (P : X → Type 0) (xs : List X) (i : ℕ) (x : X) → All P xs
    → slice_get xs i ≡ Some x → P x
All-at P xs i x all is =
    let e = get_or_from_slice_get xs i x x is in
    rw e at (all i x (slice_get_within xs i x is))

-- one place more is changed in a list of which those before it are
pub each_step : {X : Type 0} (f : X → X) (xs ys : List X) (i : ℕ) (x y : X) → i < length xs
    → ys ≡ map f (take i xs) ++ drop i xs → x ≡ get_or ys i x → y ≡ f x
    → set ys i y ≡ map f (take (i + 1) xs) ++ drop (i + 1) xs
each_step f xs ys i x y within so_far is new =
    rw add-one (steps f xs ys i x y within so_far is new)
  where
    steps : {X : Type 0} (f : X → X) (xs ys : List X) (i : ℕ) (x y : X) → i < length xs
        → ys ≡ map f (take i xs) ++ drop i xs → x ≡ get_or ys i x → y ≡ f x
        → set ys i y ≡ map f (take (suc i) xs) ++ drop (suc i) xs
    steps f [] ys i x y within so_far is new = absurd (omega arith)
    steps f (z ∷ xs) [] zero x y within so_far is new = cc
    steps f (z ∷ xs) (first ∷ ys) zero x y within so_far is new =
        let head : first ≡ z = cc in
        let tail : ys ≡ xs = cc in
        rw (new, is, head, tail) refl
    steps f (z ∷ xs) [] (suc i) x y within so_far is new = cc
    steps f (z ∷ xs) (first ∷ ys) (suc i) x y within so_far is new =
        let head : first ≡ f z = cc in
        let tail : ys ≡ map f (take i xs) ++ drop i xs = cc in
        rw head (ap (λ rest. f z ∷ rest) (steps f xs ys i x y (omega arith) tail is new))

-- what stands at a place before which all is changed is as it was
pub still_there : {X : Type 0} (f : X → X) (xs ys : List X) (i : ℕ) (d : X) → i < length xs
    → ys ≡ map f (take i xs) ++ drop i xs → get_or ys i d ≡ get_or xs i d
still_there f [] ys i d within so_far = absurd (omega arith)
still_there f (z ∷ xs) [] zero d within so_far = cc
still_there f (z ∷ xs) (first ∷ ys) zero d within so_far = cc
still_there f (z ∷ xs) [] (suc i) d within so_far = cc
still_there f (z ∷ xs) (first ∷ ys) (suc i) d within so_far =
    let tail : ys ≡ map f (take i xs) ++ drop i xs = cc in
    still_there f xs ys i d (omega arith) tail

-- what comes after a place does not see what is written there
pub drop_written : {X : Type 0} (xs : List X) (i : ℕ) (x : X)
    → drop (i + 1) (set xs i x) ≡ drop (i + 1) xs
drop_written {X} xs i x = rw add-one (behind xs i)
  where
    behind : (ys : List X) (j : ℕ) → drop (suc j) (set ys j x) ≡ drop (suc j) ys
    behind [] j = refl
    behind (first ∷ ys) zero = refl
    behind (first ∷ ys) (suc j) = behind ys j

-- lists that agree after a place agree after the next
pub drop_more : {X Y : Type 0} (f : Y → X) (xs : List X) (ys : List Y) (i : ℕ)
    → drop i xs ≡ map f (drop i ys) → drop (i + 1) xs ≡ map f (drop (i + 1) ys)
drop_more {X} {Y} f xs ys i same =
    rw add-one (next xs i ∙ ap (drop 1) same ∙ first_off (drop i ys)
    ∙ ap (map f) (sym (next ys i)))
  where
    next : {Z : Type 0} (zs : List Z) (j : ℕ) → drop (suc j) zs ≡ drop 1 (drop j zs)
    next [] zero = refl
    next [] (suc j) = refl
    next (z ∷ zs) zero = refl
    next (z ∷ zs) (suc j) = next zs j

    first_off : (zs : List Y) → drop 1 (map f zs) ≡ map f (drop 1 zs)
    first_off [] = refl
    first_off (z ∷ zs) = refl

-- what was written over is gone
pub set_twice : {X : Type 0} (xs : List X) (i : ℕ) (x y : X) → set (set xs i x) i y ≡ set xs i y
set_twice [] i x y = refl
set_twice (first ∷ xs) zero x y = refl
set_twice (first ∷ xs) (suc i) x y = ap (λ rest. first ∷ rest) (set_twice xs i x y)

-- what stands at the end of a list
-- what stands at the two last places
pub at_end : {X : Type 0} (xs : List X) (a b d : X) (size : ℕ) → size ≡ length xs
    → (get_or (xs ++ a ∷ b ∷ []) size d ≡ a) × (get_or (xs ++ a ∷ b ∷ []) (suc size) d ≡ b)
at_end [] a b d zero is = (refl, refl)
at_end [] a b d (suc size) is = absurd (omega arith)
at_end (x ∷ xs) a b d zero is = absurd (omega arith)
at_end (x ∷ xs) a b d (suc size) is = at_end xs a b d size (omega arith)
