-- What holds of the clubs that a walk has seen, and of the next one.
use Rattle.std.proofs.Common.{◌≡◌, ◌≢◌, inl, inr, ℕ, ◌<◌, Bool, true, false, ◌&&◌, ◌||◌, ◌==◌, List}
use Rattle.std.proofs.Common.{[], ◌∷◌, ◌++◌, length, get_or, set, refl, sym, ap, ◌∙◌, subst, arith}
use Rattle.std.proofs.lemmas.Bool.{false≢true, cases_eq, ne_eqb}
use Rattle.std.proofs.lemmas.List.{get_or-set_other, get_or-set_same, length-set}
use Rattle.std.proofs.Math.Bool.{and-false, or-false}
use Rattle.league_core.specs.game.Sums.{has_club}
use Rattle.league_core.proofs.ClubLemmas.{has_club-append}
use Rattle.league_core.proofs.WalkLemmas.{stands_after}

-- of another club than the next one a walk has seen no more
pub seen_before : (seen : List ℕ) (at club : ℕ) → club ≢ at
    → has_club seen club ≡ has_club (seen ++ at ∷ []) club
seen_before seen at club apart =
    sym (has_club-append seen (at ∷ []) club
    ∙ ap (λ b. has_club seen club || (b || false)) (ne_eqb at club (λ same. apart (sym same)))
    ∙ or-false (has_club seen club))

-- what a walk has not seen with the next club is another one, and was not seen before
pub not_seen : (seen : List ℕ) (at club : ℕ) → has_club (seen ++ at ∷ []) club ≡ false
    → (club ≢ at) × (has_club seen club ≡ false)
not_seen seen at club out =
    let apart : club ≢ at = λ same. false≢true (sym out ∙ ap (has_club (seen ++ at ∷ [])) same
    ∙ stands_after seen at []) in
    (apart, seen_before seen at club apart ∙ out)

-- what holds of each club that a walk has seen, and of the next one, holds of each with that one
pub each_seen : (before after : ℕ → Type 0) (seen : List ℕ) (at : ℕ)
    → ((club : ℕ) → club ≢ at → before club → after club) → after at
    → ((club : ℕ) → has_club seen club ≡ true → before club)
    → (club : ℕ) → has_club (seen ++ at ∷ []) club ≡ true → after club
each_seen before after seen at keeps here so_far club has =
    elim (cases_eq club at) as (λ _. after club) [
      | inl same ↦ subst after (sym same) here
      | inr apart ↦ keeps club apart (so_far club (seen_before seen at club apart ∙ has))
    ]

-- the clubs that a walk has seen and that pass a test, and the next one if it passes
pub passed_next : (passes : ℕ → Bool) (seen found more : List ℕ) (at : ℕ)
    → ((club : ℕ) → has_club more club ≡ (has_club found club || ((at == club) && passes club)))
    → ((club : ℕ) → has_club found club ≡ (has_club seen club && passes club))
    → (club : ℕ) → has_club more club ≡ (has_club (seen ++ at ∷ []) club && passes club)
passed_next passes seen found more at grows so_far club =
    grows club
    ∙ ap (λ b. b || ((at == club) && passes club)) (so_far club)
    ∙ either (has_club seen club) (passes club) (at == club)
    ∙ ap (λ b. b && passes club) (sym (has_club-append seen (at ∷ []) club))
  where
    either : (seen passes here : Bool)
        → ((seen && passes) || (here && passes)) ≡ ((seen || (here || false)) && passes)
    either true true here = refl
    either true false here = and-false here
    either false passes true = refl
    either false passes false = refl

-- a table with a row for each club that a walk has seen, and none for the others
pub record IsFilled {A : Type 0} (none : A) (Is : ℕ → A → Type 0) (count : ℕ) (seen : List ℕ)
    (table : List A) : Type 0 where
  pub rows : (club : ℕ) → has_club seen club ≡ true → Is club (get_or table club none)
  pub others : (club : ℕ) → has_club seen club ≡ false → get_or table club none ≡ none
  pub long : length table ≡ count

pub not_filled : {A : Type 0} (none : A) (Is : ℕ → A → Type 0) (count : ℕ) (table : List A)
    → ((club : ℕ) → get_or table club none ≡ none) → length table ≡ count
    → IsFilled none Is count [] table
not_filled none Is count table empty long = record {
  rows = λ club has. absurd (false≢true has);
  others = λ club out. empty club;
  long = long;
}

pub filled_next : {A : Type 0} (none : A) (Is : ℕ → A → Type 0) (count : ℕ) (seen : List ℕ)
    (table : List A) (at : ℕ) (row : A) → at < count → Is at row
    → IsFilled none Is count seen table
    → IsFilled none Is count (seen ++ at ∷ []) (set table at row)
filled_next none Is count seen table at row low is so_far = record {
  rows = each_seen (λ club. Is club (get_or table club none))
      (λ club. Is club (get_or (set table at row) club none)) seen at
      (λ club apart old. subst (Is club) (sym (get_or-set_other table at club row none apart)) old)
      (subst (Is at) (sym (get_or-set_same table at row none (omega (arith, low, so_far.long)))) is)
      so_far.rows;
  others = λ club out.
      let apart = not_seen seen at club out in
      get_or-set_other table at club row none apart.0 ∙ so_far.others club apart.1;
  long = length-set table at row ∙ so_far.long;
}
