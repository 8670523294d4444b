-- Which sets of clubs are in range.
use Rattle.std.proofs.Common.{◌≡◌, ℕ, Bool, true, false, not, ◌&&◌, List, [], refl, sym, ◌∙◌}
use Rattle.std.proofs.Common.{ap}
use Rattle.std.specs.Prelude.{◌↔◌, IsTrue}
use Rattle.std.specs.List.{list_all, range_with_len}
use Rattle.std.proofs.Math.Bool.{not-not}
use Rattle.league_core.specs.game.Sums.{has_club}
use Rattle.league_core.proofs.ClubSetLemmas.{has_club-range}
use Rattle.league_core.proofs.ClubLemmas.{each_member, all_members, no_member}
use Rattle.cert_text.specs.Ranges.{is_club_number}

-- if a list has the clubs of another but the numbers of clubs, all of the other are such numbers if
-- it is empty
pub list_all-rest : (clubs rest first : List ℕ) (is_empty : Bool) → first ≡ range_with_len 0 24
    → ((club : ℕ) → has_club rest club ≡ (has_club clubs club && not (has_club first club)))
    → (IsTrue is_empty ↔ (rest ≡ [])) → is_empty ≡ list_all is_club_number clubs
list_all-rest clubs rest first is_empty range has says = by_cases is_empty says
  where
    outside : (club : ℕ) → has_club rest club ≡ (has_club clubs club && not (is_club_number club))
    outside club =
        has club
        ∙ ap (λ b. has_club clubs club && not b)
        (ap (λ xs. has_club xs club) range ∙ has_club-range 24 club)

    none_left : list_all is_club_number clubs ≡ true → rest ≡ []
    none_left all = no_member rest (λ club. outside club ∙ neither club (has_club clubs club) refl)
      where
        neither : (club : ℕ) (b : Bool) → has_club clubs club ≡ b
            → (b && not (is_club_number club)) ≡ false
        neither club false here = refl
        neither club true here = ap not (each_member is_club_number clubs all club here)

    all_inside : rest ≡ [] → list_all is_club_number clubs ≡ true
    all_inside empty = all_members is_club_number clubs
        (λ club here. sym (not-not (is_club_number club))
        ∙ ap not (sym (ap (λ b. b && not (is_club_number club)) here) ∙ sym (outside club)
        ∙ ap (λ xs. has_club xs club) empty))

    by_cases : (b : Bool) → (IsTrue b ↔ (rest ≡ [])) → b ≡ list_all is_club_number clubs
    by_cases true says = sym (all_inside (says.0 refl))
    by_cases false says = by_test (list_all is_club_number clubs) refl
      where
        by_test : (b : Bool) → list_all is_club_number clubs ≡ b → false ≡ b
        by_test false all = refl
        by_test true all = says.1 (none_left all)
