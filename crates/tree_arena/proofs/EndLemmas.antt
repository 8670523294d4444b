-- The last number of a list, by its place: it comes off without a move of others, and so one is put
-- there.
use Rattle.std.proofs.Common.{◌≡◌, ℕ, zero, suc, ◌+◌, ◌-◌, List, [], ◌∷◌, ◌++◌, length, get_or}
use Rattle.std.proofs.Common.{refl, ap, ◌∙◌, arith, length-append}
use Rattle.std.specs.List.{insert, remove}

-- what stands at the end
pub last_there : (list rest : List ℕ) (place last : ℕ) → list ≡ rest ++ last ∷ []
    → length list - place ≡ 1 → last ≡ get_or list place last
last_there list rest place last is ends = rw is (at_last rest place (omega (arith, ends, long)))
  where
    long : length list ≡ length rest + 1
    long = ap length is ∙ length-append rest (last ∷ [])

    at_last : (rest : List ℕ) (place : ℕ) → place ≡ length rest
        → last ≡ get_or (rest ++ last ∷ []) place last
    at_last [] zero same = refl
    at_last [] (suc place) same = absurd (omega arith)
    at_last (number ∷ rest) zero same = absurd (omega arith)
    at_last (number ∷ rest) (suc place) same = at_last rest place (omega arith)

-- what is left if it goes
pub taken_last : (list rest : List ℕ) (place last : ℕ) → list ≡ rest ++ last ∷ []
    → length list - place ≡ 1 → rest ≡ remove list place
taken_last list rest place last is ends = rw is (left rest place (omega (arith, ends, long)))
  where
    long : length list ≡ length rest + 1
    long = ap length is ∙ length-append rest (last ∷ [])

    left : (rest : List ℕ) (place : ℕ) → place ≡ length rest
        → rest ≡ remove (rest ++ last ∷ []) place
    left [] zero same = refl
    left [] (suc place) same = absurd (omega arith)
    left (number ∷ rest) zero same = absurd (omega arith)
    left (number ∷ rest) (suc place) same =
        ap (λ numbers. number ∷ numbers) (left rest place (omega arith))

-- a number that is put at the end
pub put_last : (list : List ℕ) (place last : ℕ) → place ≡ length list
    → list ++ last ∷ [] ≡ insert list place last
put_last [] zero last same = refl
put_last [] (suc place) last same = absurd (omega arith)
put_last (number ∷ list) zero last same = absurd (omega arith)
put_last (number ∷ list) (suc place) last same =
    ap (λ numbers. number ∷ numbers) (put_last list place last (omega arith))
