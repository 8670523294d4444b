-- Lots name clubs of the sheet alone: a list with each of so many clubs, and no longer, has no room
-- for another.
use Rattle.std.proofs.Common.{◌≡◌, ℕ, ◌<◌, ◌≤◌, true, ◌||◌, ◌==◌, nat_lt, List, [], ◌∷◌, ◌++◌}
use Rattle.std.proofs.Common.{length, length-append, append_assoc, refl, sym, ap, ◌∙◌, inl, inr}
use Rattle.std.proofs.Common.{arith}
use Rattle.std.specs.List.{list_all, range_with_len}
use Rattle.std.proofs.lemmas.Bool.{and_parts, and_from, eqb-true, ne_eqb, lt-ltb, ltb-true}
use Rattle.std.proofs.lemmas.Bool.{cases_lt}
use Rattle.std.proofs.lemmas.Map.Steps.{le-length_from_below}
use Rattle.league_core.specs.game.Sums.{has_club}
use Rattle.league_core.specs.game.Ranking.{are_lots}
use Rattle.league_core.proofs.ClubLemmas.{has_club-append, any_from_has}
use Rattle.league_core.proofs.plain.Runs.{each_in_range}

-- without an entry past the clubs the list would be too short for them
drawn_below : (clubs : ℕ) (done later : List ℕ) (drawn : ℕ)
    → length (done ++ drawn ∷ later) ≡ clubs
    → ((club : ℕ) → club < clubs → has_club (done ++ drawn ∷ later) club ≡ true) → drawn < clubs
drawn_below clubs done later drawn long each =
    elim (cases_lt drawn clubs) as (λ _. drawn < clubs) [
      | inl below ↦ below
      | inr past ↦
          let fits = le-length_from_below (done ++ later) clubs (λ club below.
          any_from_has (done ++ later) club
          (has_club-append done later club
          ∙ ap (λ b. has_club done club || (b || has_club later club))
          (sym (ne_eqb drawn club (omega (arith, past, below))))
          ∙ sym (has_club-append done (drawn ∷ later) club) ∙ each club below)) in
          absurd (omega (
            arith,
            long,
            fits,
            length-append done later,
            length-append done (drawn ∷ later),
          ))
    ]

all_below : (clubs : ℕ) (done rest : List ℕ) → length (done ++ rest) ≡ clubs
    → ((club : ℕ) → club < clubs → has_club (done ++ rest) club ≡ true)
    → list_all (λ club. nat_lt club clubs) rest ≡ true
all_below clubs done [] long each = refl
all_below clubs done (drawn ∷ rest) long each =
    let moved = append_assoc done (drawn ∷ []) rest in
    and_from (nat_lt drawn clubs) (list_all (λ club. nat_lt club clubs) rest)
    (lt-ltb drawn clubs (drawn_below clubs done rest drawn long each))
    (all_below clubs (done ++ drawn ∷ []) rest (ap length moved ∙ long)
    (λ club below. ap (λ lots. has_club lots club) moved ∙ each club below))

-- each of the lots is a club
pub lots_below : (clubs : ℕ) (lots : List ℕ) → are_lots clubs lots ≡ true
    → list_all (λ club. nat_lt club clubs) lots ≡ true
lots_below clubs lots are =
    let parts = and_parts (length lots == clubs) (list_all (has_club lots) (range_with_len 0 clubs))
    are in
    all_below clubs [] lots (eqb-true (length lots) clubs parts.0)
    (λ club below. each_in_range (has_club lots) 0 clubs parts.1 club (omega arith)
    (omega (arith, below)))

-- and of at most 24 clubs
pub lots_in_range : (clubs most : ℕ) (lots : List ℕ) → clubs ≤ most → are_lots clubs lots ≡ true
    → list_all (λ club. nat_lt club most) lots ≡ true
lots_in_range clubs most lots few are = wider lots (lots_below clubs lots are)
  where
    wider : (lots : List ℕ) → list_all (λ club. nat_lt club clubs) lots ≡ true
        → list_all (λ club. nat_lt club most) lots ≡ true
    wider [] all = refl
    wider (club ∷ lots) all =
        let parts = and_parts (nat_lt club clubs) (list_all (λ c. nat_lt c clubs) lots) all in
        let below = ltb-true club clubs parts.0 in
        and_from (nat_lt club most) (list_all (λ c. nat_lt c most) lots)
        (lt-ltb club most (omega (arith, below, few))) (wider lots parts.1)
