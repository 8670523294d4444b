-- The set of a cut, read from the list that ends a line, club by club.
use Rattle.std.proofs.Common.{◌≡◌, ℕ, ◌+◌, ◌*◌, ◌%◌, ◌^◌, ◌≤◌, true, List, [], ◌∷◌, ◌++◌, refl, sym}
use Rattle.std.proofs.Common.{ap, ◌∙◌, append_assoc, arith, decimal, Some, None, ◌<◌, zero-add}
use Rattle.std.proofs.Common.{add-zero}
use Rattle.std.specs.Prelude.{if◌then◌else◌}
use Rattle.std.specs.List.{list_all}
use borrow.Author.Tests.{ltb-true}
use Rattle.league_core.specs.declared.club_set.ClubSet.{ClubSet}
use Rattle.cert_text.specs.Ranges.{is_one_of}
use Rattle.cert_text.specs.Places.{set_listed, are_rising_from, bits_at}
use Rattle.cert_text.specs.inside.PlainForms.{IsSetAtEnd}
use Rattle.cert_text.proofs.PlainNumberLemmas.{clubs_so_far, clubs_go_on, clubs_end}
use Rattle.cert_text.proofs.SetListLemmas.{set_of_rest, next_of_rest}
use Rattle.league_core.proofs.plain.Numbers.{power_fits}

-- the text is clubs that rise, whose bits these are, and the rest, in which the next is no less
pub record IsCutSoFar (text rest : List ℕ) (least bits : ℕ) : Type 0 where
  pub list : List ℕ
  pub known : list_all (is_one_of 24) list ≡ true
  pub shown : text ≡ 44 ∷ 91 ∷ (clubs_so_far list ++ rest)
  pub rises : (club : ℕ) (more : List ℕ)
      → set_listed (list ++ club ∷ more) ≡ set_of_rest least bits (club ∷ more)

-- a club of so many is below that number
pub below_most : (club : ℕ) → is_one_of 24 club ≡ true → club < 24
below_most club below = omega (arith, ltb-true, below)

-- no club yet
pub cut_begins : (text rest : List ℕ) → text ≡ 44 ∷ 91 ∷ rest → IsCutSoFar text rest 0 0
cut_begins text rest is = record {
  list = [];
  known = refl;
  shown = is;
  rises = λ club more. ap (λ n. if are_rising_from 0 (club ∷ more)
      then Some (set n) else None) (sym (zero-add (bits_at (club ∷ more))));
}
  where
    set : ℕ → ClubSet
    set n = record { bits = n }

-- the set of the list, with one club more
listed_next : (list more : List ℕ) (least bits club : ℕ) → least ≤ club
    → is_one_of 24 club ≡ true
    → ((club : ℕ) (more : List ℕ)
    → set_listed (list ++ club ∷ more) ≡ set_of_rest least bits (club ∷ more))
    → set_listed (list ++ club ∷ more)
    ≡ set_of_rest (club + 1) (bits + 1 * 2 ^ club % 2 ^ 32) more
listed_next list more least bits club rises below so_far =
    so_far club more
    ∙ next_of_rest least bits club more rises (below_most club below)
    ∙ ap (λ n. set_of_rest (club + 1) (bits + n) more)
    (sym (power_fits club (below_most club below)))

-- one club more, and a comma
pub cut_goes_on : (text rest more next : List ℕ) (least bits club : ℕ)
    → IsCutSoFar text rest least bits → least ≤ club → is_one_of 24 club ≡ true
    → rest ≡ decimal (club + 1) ++ more → more ≡ 44 ∷ next
    → IsCutSoFar text next (club + 1) (bits + 1 * 2 ^ club % 2 ^ 32)
cut_goes_on text rest more next least bits club so_far rises below shown goes =
    let list = so_far.list in
    let told = clubs_go_on 24 list club text rest more (list ++ club ∷ []) next so_far.known
    so_far.shown below shown goes refl in
    record {
      list = list ++ club ∷ [];
      known = told.0;
      shown = told.1;
      rises = λ other others.
          ap set_listed (append_assoc list (club ∷ []) (other ∷ others))
          ∙ listed_next list (other ∷ others) least bits club rises below so_far.rises;
    }

-- the last one, and the end
pub cut_ends : (text rest more : List ℕ) (least bits club : ℕ)
    → IsCutSoFar text rest least bits → least ≤ club → is_one_of 24 club ≡ true
    → rest ≡ decimal (club + 1) ++ more → more ≡ 93 ∷ 93 ∷ []
    → IsSetAtEnd text (record { bits = bits + 1 * 2 ^ club % 2 ^ 32 })
cut_ends text rest more least bits club so_far rises below shown ends =
    let list = so_far.list in (
      list ++ club ∷ [],
      clubs_end 24 list club text rest more (list ++ club ∷ []) so_far.known so_far.shown below
          shown ends refl,
      listed_next list [] least bits club rises below so_far.rises
          ∙ ap (λ (n : ℕ). Some (record { bits = n })) (add-zero (bits + 1 * 2 ^ club % 2 ^ 32)),
    )
