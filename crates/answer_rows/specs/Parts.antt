-- Texts that are made part by part, and the names in them.
use Rattle.std.specs.Prelude.{◌≡◌, ℕ, List, [], ◌∷◌, ◌++◌, map, slice_index_or}
use Rattle.league_core.specs.declared.sheet.Sheet.{Sheet}

-- a text made of one part for each of the items, in their order
abbrev pub IsMadeOf : {A : Type 0} → (A → List ℕ → Type 0) → List A → List ℕ → Type 0
IsMadeOf IsPart [] text = text ≡ []
IsMadeOf IsPart (x ∷ xs) text =
    (part : List ℕ) × (rest : List ℕ) × (text ≡ part ++ rest) × IsPart x part
    × IsMadeOf IsPart xs rest

-- the name of a club, by its number from 0
abbrev pub club_name : Sheet → ℕ → List ℕ
club_name sheet club = slice_index_or (map (λ c. c.name) sheet.clubs) club []
