-- Steps of a loop that cuts a text at its commas.
use Rattle.std.proofs.Common.{◌≡◌, ℕ, ◌+◌, ◌-◌, ◌<◌, ◌≤◌, List, [], ◌∷◌, ◌++◌, length, map, take}
use Rattle.std.proofs.Common.{drop, get_or, sym, ap, ◌∙◌, append_assoc, eq-eqb, arith}
use Rattle.std.specs.List.{between}
use Rattle.std.proofs.lemmas.List.{drop_more, map-append}
use Rattle.std.proofs.lemmas.List.Edits.{between_more}
use Rattle.std.proofs.lemmas.Bool.{ne_eqb}
use Rattle.fixture_sheet.specs.inside.PlainLines.{between_commas, with_prefix}
use Rattle.fixture_sheet.proofs.CommaLemmas.{between_commas-some, front-byte, front-comma}

module _ {A : Type 0} (bytes_of : A → List ℕ) (text : List ℕ) where
  -- the copies, and then the fields of the rest, with the bytes since the last comma before them
  abbrev pub cut : List A → ℕ → ℕ → List (List ℕ)
  cut copies start place =
      map bytes_of copies
      ++ with_prefix (between start place text) (between_commas (drop place text))

  pub cut-begins : (copies : List A) → copies ≡ [] → cut copies 0 0 ≡ between_commas text
  cut-begins copies none =
      ap (λ all. map bytes_of all ++ with_prefix [] (between_commas text)) none
      ∙ between_commas-some text

  -- the byte at this place comes next
  cut-next : (copies : List A) (start place : ℕ) → place < length text
      → cut copies start place
      ≡ map bytes_of copies ++ with_prefix (between start place text)
      (between_commas (get_or text place 0 ∷ drop (place + 1) text))
  cut-next copies start place inside =
      ap (λ rest. map bytes_of copies
      ++ with_prefix (between start place text) (between_commas rest))
      (drop_more text place 0 inside)

  between-none : (place : ℕ) → between place place text ≡ []
  between-none place =
      let none : place - place ≡ 0 = omega arith in
      ap (λ n. take n (drop place text)) none

  -- a comma ends a field, which is copied
  pub cut-comma : (copies more : List A) (copy : A) (start next place : ℕ) → place < length text
      → get_or text place 0 ≡ 44 → more ≡ copies ++ copy ∷ []
      → bytes_of copy ≡ between start place text → next ≡ place + 1
      → cut copies start place ≡ between_commas text
      → cut more next (place + 1) ≡ between_commas text
  cut-comma copies more copy start next place inside comma one_more same at_next so_far =
      let rest = between_commas (drop (place + 1) text) in
      let field = between start place text in
      ap (λ all. map bytes_of all ++ with_prefix (between next (place + 1) text) rest) one_more
      ∙ ap (λ all. all ++ with_prefix (between next (place + 1) text) rest)
      (map-append bytes_of copies (copy ∷ []))
      ∙ ap (λ bytes. (map bytes_of copies ++ bytes ∷ [])
      ++ with_prefix (between next (place + 1) text) rest) same
      ∙ ap (λ n. (map bytes_of copies ++ field ∷ [])
      ++ with_prefix (between n (place + 1) text) rest) at_next
      ∙ ap (λ front. (map bytes_of copies ++ field ∷ []) ++ with_prefix front rest)
      (between-none (place + 1))
      ∙ append_assoc (map bytes_of copies) (field ∷ []) (with_prefix [] rest)
      ∙ ap (λ all. map bytes_of copies ++ field ∷ all)
      (between_commas-some (drop (place + 1) text))
      ∙ sym (ap (λ all. map bytes_of copies ++ all)
      (front-comma field (get_or text place 0) (drop (place + 1) text)
      (eq-eqb (get_or text place 0) 44 comma)))
      ∙ sym (cut-next copies start place inside)
      ∙ so_far

  -- any other byte joins its field
  pub cut-byte : (copies more : List A) (start next place : ℕ) → place < length text
      → start ≤ place → (get_or text place 0 ≡ 44 → ⊥) → more ≡ copies → next ≡ start
      → cut copies start place ≡ between_commas text
      → cut more next (place + 1) ≡ between_commas text
  cut-byte copies more start next place inside behind other same at_next so_far =
      let rest = between_commas (drop (place + 1) text) in
      ap (λ all. map bytes_of all ++ with_prefix (between next (place + 1) text) rest) same
      ∙ ap (λ n. map bytes_of copies ++ with_prefix (between n (place + 1) text) rest) at_next
      ∙ ap (λ front. map bytes_of copies ++ with_prefix front rest)
      (between_more text start place 0 behind inside)
      ∙ sym (ap (λ all. map bytes_of copies ++ all)
      (front-byte (between start place text) (get_or text place 0) (drop (place + 1) text)
      (ne_eqb (get_or text place 0) 44 other)))
      ∙ sym (cut-next copies start place inside)
      ∙ so_far
