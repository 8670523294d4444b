-- General facts on prefixes of lists.
use Rattle.std.proofs.Common.{◌≡◌, ◌≤◌, List, [], ◌∷◌, ◌++◌, length, refl, ap, sym, ◌∙◌, arith}
use Rattle.std.proofs.Common.{append_assoc, length-append}
use mathlib.Core.List.{IsPrefix}

module _ {A : Type 0} where
  -- each list begins with itself
  pub prefix_self : (xs : List A) → IsPrefix xs xs
  prefix_self [] = ([], refl)
  prefix_self (x ∷ xs) = let rest = prefix_self xs in (rest.0, ap (λ ys. x ∷ ys) rest.1)

  -- each list begins with the list of nothing
  pub prefix_nothing : (xs : List A) → IsPrefix [] xs
  prefix_nothing xs = (xs, refl)

  -- a prefix of a list is one of what is longer
  pub prefix_more : (xs ys more : List A) → IsPrefix xs ys → IsPrefix xs (ys ++ more)
  prefix_more xs ys more begins =
      (begins.0 ++ more, sym (append_assoc xs begins.0 more) ∙ ap (λ zs. zs ++ more) begins.1)

  -- of two beginnings of one list the one that is no longer begins the other
  pub prefix_shorter : (xs ys zs : List A) → IsPrefix xs zs → IsPrefix ys zs
      → length xs ≤ length ys → IsPrefix xs ys
  prefix_shorter [] ys zs p q shorter = (ys, refl)
  prefix_shorter (x ∷ xs) [] zs p q shorter = absurd (omega arith)
  prefix_shorter (x ∷ xs) (y ∷ ys) [] p q shorter = absurd (cc (p.1))
  prefix_shorter (x ∷ xs) (y ∷ ys) (z ∷ zs) p q shorter =
      let heads : x ≡ y = cc (p.1, q.1) in
      let rest = prefix_shorter xs ys zs (p.0, cc (p.1)) (q.0, cc (q.1)) (omega arith) in
      (rest.0, cc (heads, rest.1))

  -- a beginning as long as the whole is the whole
  pub prefix_whole : (xs ys : List A) → IsPrefix xs ys → length ys ≤ length xs → xs ≡ ys
  prefix_whole [] [] p all = refl
  prefix_whole [] (y ∷ ys) p all = absurd (omega arith)
  prefix_whole (x ∷ xs) [] p all = absurd (cc (p.1))
  prefix_whole (x ∷ xs) (y ∷ ys) p all =
      let rest = prefix_whole xs ys (p.0, cc (p.1)) (omega arith) in cc (p.1, rest)

  -- a beginning is no longer than the whole
  pub prefix_length : (xs ys : List A) → IsPrefix xs ys → length xs ≤ length ys
  prefix_length xs ys p = omega (arith, sym (ap length p.1) ∙ length-append xs p.0)

  -- two beginnings of one list that have one length are one
  pub prefix_alike : (xs ys zs : List A) → IsPrefix xs zs → IsPrefix ys zs
      → length xs ≡ length ys → xs ≡ ys
  prefix_alike xs ys zs p q same =
      prefix_whole xs ys (prefix_shorter xs ys zs p q (omega (arith, same))) (omega (arith, same))

-- a beginning of a beginning is one
pub prefix_onward : {A : Type 0} (xs ys zs : List A) → IsPrefix xs ys → IsPrefix ys zs
    → IsPrefix xs zs
prefix_onward xs ys zs p q =
    (p.0 ++ q.0, sym (append_assoc xs p.0 q.0) ∙ (ap (λ list. list ++ q.0) p.1 ∙ q.1))
