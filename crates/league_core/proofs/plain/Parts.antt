-- General facts on lists put together from parts, and on the parts.
use Rattle.std.proofs.Common.{All, Bool, List, [], ap, arith, cond, drop, false, get_or, length}
use Rattle.std.proofs.Common.{length-append, nat_lt, refl, subst, suc, take, true, zero, ℕ, ◌*◌}
use Rattle.std.proofs.Common.{◌++◌, ◌+◌, ◌-◌, ◌<◌, ◌∙◌, ◌∷◌, ◌≡◌, ◌≤◌}
use Rattle.std.specs.List.{AllZip, flat_map, list_all}
use Rattle.std.specs.Prelude.{slice_range}
use Rattle.std.proofs.Math.Seq.{take-append_seam}
use Rattle.std.proofs.lemmas.Bool.{and_parts, ltb-false}
use Rattle.std.proofs.lemmas.List.{append_cancel_right, drop-append-le, drop_all, get_or-append-add}
use Rattle.std.proofs.lemmas.List.{get_or_append_left, length-drop, take-append-le, take_all}
use Rattle.std.proofs.lemmas.List.Elements.{All-append, All-cons, All-head, All-nil, All-tail}

-- a part of the bytes that stands before those that come behind them
pub slice-before : (bytes text : List ℕ) (from end : ℕ) → from ≤ end → end ≤ length bytes
    → slice_range (bytes ++ text) from end ≡ slice_range bytes from end
slice-before bytes text from end before within =
    ap (take (end - from)) (drop-append-le from bytes text (omega arith))
    ∙ take-append-le (end - from) (drop from bytes) text
    (omega (arith, length-drop from bytes))

-- the part that was put behind the bytes
pub slice-after : (bytes text : List ℕ)
    → slice_range (bytes ++ text) (length bytes) (length bytes + length text) ≡ text
slice-after bytes text =
    let all = drop-append-le (length bytes) bytes text (omega arith) in
    let none = drop_all (length bytes) bytes (omega arith) in
    ap (take (length bytes + length text - length bytes)) (all ∙ ap (λ xs. xs ++ text) none)
    ∙ take_all (length bytes + length text - length bytes) text (omega arith)

-- what is so of the answer to each place is so of all answers
pub AllZip-All : {X Y : Type 0} (P : Y → Type 0) (places : List X) (answers : List Y)
    → AllZip (λ place answer. P answer) places answers → All P answers
AllZip-All P [] [] each = All-nil P
AllZip-All P [] (answer ∷ answers) each = absurd each
AllZip-All P (place ∷ places) [] each = absurd each
AllZip-All P (place ∷ places) (answer ∷ answers) each =
    All-cons P answer answers each.0 (AllZip-All P places answers each.1)

-- what all of a list meets, its beginning meets
pub All-first : {X : Type 0} (P : X → Type 0) (xs ys : List X) → All P (xs ++ ys) → All P xs
All-first P [] ys all = All-nil P
All-first P (x ∷ xs) ys all =
    All-cons P x xs (All-head P x (xs ++ ys) all) (All-first P xs ys (All-tail P x (xs ++ ys) all))

-- and so does its end
pub All-last : {X : Type 0} (P : X → Type 0) (xs ys : List X) → All P (xs ++ ys) → All P ys
All-last P [] ys all = all
All-last P (x ∷ xs) ys all = All-last P xs ys (All-tail P x (xs ++ ys) all)

-- cells that were written through a slice of them all
pub take-front : {X : Type 0} (n : ℕ) (xs ys : List X) → length xs ≡ n → take n (xs ++ ys) ≡ xs
take-front n xs ys many = subst (λ m. take m (xs ++ ys) ≡ xs) many (take-append_seam xs ys)

-- a list with nothing in it
pub nothing-in : {A : Type 0} (xs : List A) → nat_lt 0 (length xs) ≡ false → xs ≡ []
nothing-in [] none = refl
nothing-in (x ∷ xs) none = absurd (omega (arith, ltb-false 0 (length (x ∷ xs)) none))

-- a prefix of a list that passes passes
pub list_all-take : {X : Type 0} (p : X → Bool) (i : ℕ) (xs : List X) → list_all p xs ≡ true
    → list_all p (take i xs) ≡ true
list_all-take p zero xs all = refl
list_all-take p (suc i) [] all = refl
list_all-take p (suc i) (x ∷ xs) all =
    let parts = and_parts (p x) (list_all p xs) all in
    rw (parts.0, list_all-take p i xs parts.1) refl

pub length-zero : (bytes : List ℕ) → length bytes ≡ 0 → bytes ≡ []
length-zero [] none = refl
length-zero (byte ∷ bytes) none = absurd (omega arith)

-- a whole sheet here left nothing of the lines taken
pub none-left : (given : List (ℕ × List ℕ)) (lines : List (ℕ × List ℕ)) → given ++ lines ≡ lines
    → given ≡ []
none-left given lines is = append_cancel_right given [] lines is

-- pieces of one length make a list of so many times their number
pub length-pieces : {X A : Type 0} (f : X → List A) (size : ℕ) → ((x : X) → length (f x) ≡ size)
    → (xs : List X) → length (flat_map f xs) ≡ length xs * size
length-pieces f size each [] = omega arith
length-pieces f size each (x ∷ xs) =
    let rest = length-pieces f size each xs in
    omega (arith, length-append (f x) (flat_map f xs), each x, rest)

-- and what stands in a piece stands in the list, after the pieces before it
pub get_or-pieces : {X A : Type 0} (f : X → List A) (size : ℕ) → ((x : X) → length (f x) ≡ size)
    → (xs : List X) (i j : ℕ) (e : X) (d : A) → i < length xs → j < size
    → get_or (flat_map f xs) (i * size + j) d ≡ get_or (f (get_or xs i e)) j d
get_or-pieces f size each [] i j e d below within = absurd (omega arith)
get_or-pieces f size each (x ∷ xs) zero j e d below within =
    let here : zero * size + j ≡ j = omega arith in
    ap (λ n. get_or (f x ++ flat_map f xs) n d) here
    ∙ get_or_append_left (f x) (flat_map f xs) d j (omega (arith, each x))
get_or-pieces f size each (x ∷ xs) (suc i) j e d below within =
    let here : suc i * size + j ≡ length (f x) + (i * size + j) = omega (arith, each x) in
    ap (λ n. get_or (f x ++ flat_map f xs) n d) here
    ∙ get_or-append-add (f x) (flat_map f xs) (i * size + j) d
    ∙ get_or-pieces f size each xs i j e d (omega arith) within

-- what holds of the pieces of all that are in a list holds of the pieces together
pub All-pieces : {X A : Type 0} (P : X → Type 0) (Q : A → Type 0) (f : X → List A)
    → ((x : X) → P x → All Q (f x)) → (xs : List X) → All P xs → All Q (flat_map f xs)
All-pieces P Q f each [] all = All-nil Q
All-pieces P Q f each (x ∷ xs) all =
    All-append Q (f x) (flat_map f xs) (each x (all 0 x (omega arith)))
    (All-pieces P Q f each xs (λ k d h. all (suc k) d (omega arith)))

pub length-cond : (b : Bool) (x : ℕ) (xs : List ℕ)
    → length (cond b (x ∷ xs) xs) ≡ cond b 1 0 + length xs
length-cond true x xs = omega arith
length-cond false x xs = omega arith
