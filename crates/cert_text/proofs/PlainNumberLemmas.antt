-- Numbers and lists of clubs at the start of a text, digit by digit and club by club.
use Rattle.std.proofs.Common.{◌≡◌, ℕ, true, List, [], ◌∷◌, ◌++◌, map, refl, sym, ap, ◌∙◌}
use Rattle.std.proofs.Common.{append_assoc, decimal}
use Rattle.std.specs.List.{list_all, join_with_byte}
use Rattle.std.proofs.lemmas.Bool.{and_parts, and_from}
use Rattle.cert_text.specs.Lines.{number_in_text}
use Rattle.cert_text.specs.Ranges.{is_one_of}
use Rattle.cert_text.specs.inside.PlainForms.{AreClubsAtEnd}
use Rattle.league_core.proofs.plain.TruthValues.{true_and_true}

-- clubs in a list that goes on: each with a comma after it
abbrev pub clubs_so_far : List ℕ → List ℕ
clubs_so_far [] = []
clubs_so_far (club ∷ list) = decimal (number_in_text club) ++ 44 ∷ clubs_so_far list

-- with one more
pub clubs_so_far-more : (list : List ℕ) (club : ℕ) (rest : List ℕ)
    → clubs_so_far list ++ (decimal (number_in_text club) ++ 44 ∷ rest)
    ≡ clubs_so_far (list ++ club ∷ []) ++ rest
clubs_so_far-more [] club rest =
    sym (append_assoc (decimal (number_in_text club)) (44 ∷ []) rest)
clubs_so_far-more (first ∷ list) club rest =
    append_assoc (decimal (number_in_text first)) (44 ∷ clubs_so_far list)
    (decimal (number_in_text club) ++ 44 ∷ rest)
    ∙ ap (λ t. decimal (number_in_text first) ++ 44 ∷ t) (clubs_so_far-more list club rest)
    ∙ sym (append_assoc (decimal (number_in_text first))
    (44 ∷ clubs_so_far (list ++ club ∷ [])) rest)

-- with the last one
pub clubs_so_far-last : (list : List ℕ) (club : ℕ) (rest : List ℕ)
    → clubs_so_far list ++ (decimal (number_in_text club) ++ rest)
    ≡ join_with_byte 44 (map (λ club. decimal (number_in_text club)) (list ++ club ∷ [])) ++ rest
clubs_so_far-last [] club rest = refl
clubs_so_far-last (first ∷ []) club rest =
    append_assoc (decimal (number_in_text first)) (44 ∷ [])
    (decimal (number_in_text club) ++ rest)
    ∙ sym (append_assoc (decimal (number_in_text first))
    (44 ∷ decimal (number_in_text club)) rest)
clubs_so_far-last (first ∷ next ∷ list) club rest =
    append_assoc (decimal (number_in_text first)) (44 ∷ clubs_so_far (next ∷ list))
    (decimal (number_in_text club) ++ rest)
    ∙ ap (λ t. decimal (number_in_text first) ++ 44 ∷ t)
    (clubs_so_far-last (next ∷ list) club rest)
    ∙ sym (append_assoc (decimal (number_in_text first))
    (44 ∷ join_with_byte 44
    (map (λ club. decimal (number_in_text club)) (next ∷ (list ++ club ∷ [])))) rest)

-- known clubs and one more
pub clubs_known : (most : ℕ) (list : List ℕ) (club : ℕ) → list_all (is_one_of most) list ≡ true
    → is_one_of most club ≡ true → list_all (is_one_of most) (list ++ club ∷ []) ≡ true
clubs_known most [] club all known = true_and_true (is_one_of most club) known
clubs_known most (first ∷ list) club all known =
    let parts = and_parts (is_one_of most first) (list_all (is_one_of most) list) all in
    and_from (is_one_of most first) (list_all (is_one_of most) (list ++ club ∷ [])) parts.0
    (clubs_known most list club parts.1 known)

-- one club more, and a comma
pub clubs_go_on : (most : ℕ) (list : List ℕ) (club : ℕ) (text rest more items next : List ℕ)
    → list_all (is_one_of most) list ≡ true
    → text ≡ 44 ∷ 91 ∷ (clubs_so_far list ++ rest)
    → is_one_of most club ≡ true → rest ≡ decimal (number_in_text club) ++ more
    → more ≡ 44 ∷ next → items ≡ list ++ club ∷ []
    → (list_all (is_one_of most) items ≡ true)
    × (text ≡ 44 ∷ 91 ∷ (clubs_so_far items ++ next))
clubs_go_on most list club text rest more items next all is known shown goes pushed = (
  ap (list_all (is_one_of most)) pushed ∙ clubs_known most list club all known,
  is
      ∙ ap (λ t. 44 ∷ 91 ∷ (clubs_so_far list ++ t))
      (shown ∙ ap (λ t. decimal (number_in_text club) ++ t) goes)
      ∙ ap (λ t. 44 ∷ 91 ∷ t) (clubs_so_far-more list club next)
      ∙ ap (λ cs. 44 ∷ 91 ∷ (clubs_so_far cs ++ next)) (sym pushed),
)

-- the last one, and the end
pub clubs_end : (most : ℕ) (list : List ℕ) (club : ℕ) (text rest more items : List ℕ)
    → list_all (is_one_of most) list ≡ true
    → text ≡ 44 ∷ 91 ∷ (clubs_so_far list ++ rest)
    → is_one_of most club ≡ true → rest ≡ decimal (number_in_text club) ++ more
    → more ≡ 93 ∷ 93 ∷ [] → items ≡ list ++ club ∷ [] → AreClubsAtEnd most text items
clubs_end most list club text rest more items all is known shown ends pushed =
    let shown_clubs : List ℕ → List ℕ =
    λ cs. join_with_byte 44 (map (λ club. decimal (number_in_text club)) cs) in (
      ap (list_all (is_one_of most)) pushed ∙ clubs_known most list club all known,
      is
          ∙ ap (λ t. 44 ∷ 91 ∷ (clubs_so_far list ++ t))
          (shown ∙ ap (λ t. decimal (number_in_text club) ++ t) ends)
          ∙ ap (λ t. 44 ∷ 91 ∷ t) (clubs_so_far-last list club (93 ∷ 93 ∷ []))
          ∙ ap (λ cs. 44 ∷ 91 ∷ (shown_clubs cs ++ 93 ∷ 93 ∷ [])) (sym pushed)
          ∙ ap (λ t. 44 ∷ 91 ∷ t)
          (sym (append_assoc (shown_clubs items) (93 ∷ []) (93 ∷ []))),
    )
