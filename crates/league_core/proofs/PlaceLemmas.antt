-- Places follow the order: a club that ranks before another has the lower place, and places are as
-- many as clubs.
use Rattle.std.proofs.Common.{◌≡◌, ℕ, ◌<◌, ◌≤◌, Bool, true, false, ◌||◌, ◌==◌, cond, List, [], ◌∷◌}
use Rattle.std.proofs.Common.{length, count_by, refl, sym, subst, arith}
use Rattle.std.specs.List.{list_all}
use Rattle.std.proofs.lemmas.Bool.{false≢true, eqb-true}
use Rattle.std.proofs.lemmas.List.FromFn.{length-range_with_len}
use Rattle.std.proofs.lemmas.List.Sums.{sum_by-cons, count_by-le-length}
use Rattle.league_core.specs.declared.sheet.Sheet.{Sheet}
use Rattle.league_core.specs.game.Results.{Results}
use Rattle.league_core.specs.game.Sheets.{clubs_of}
use Rattle.league_core.specs.game.Sums.{has_club}
use Rattle.league_core.specs.game.Ranking.{ranks_before, place_of}
use Rattle.league_core.proofs.ClubLemmas.{range_has}
use Rattle.league_core.proofs.RankingLemmas.{ranks_before-itself, ranks_before-trans}
use Rattle.league_core.proofs.plain.TruthValues.{one_if-le, one_if-lt}
use Rattle.league_core.proofs.plain.Counts.{count_by-le}

same_test : (test : ℕ → Bool) (club other : ℕ) (b : Bool) → (other == club) ≡ true → test club ≡ b
    → test other ≡ b
same_test test club other b same h =
    subst (λ (x : ℕ). test x ≡ b) (sym (eqb-true other club same)) h

-- a test that passes all that another one passes, and one club of the list more, counts more
pub count_by-lt : (less more : ℕ → Bool) (clubs : List ℕ) (club : ℕ) → has_club clubs club ≡ true
    → ((other : ℕ) → less other ≡ true → more other ≡ true) → less club ≡ false → more club ≡ true
    → count_by less clubs < count_by more clubs
count_by-lt less more [] club has h out within = absurd (false≢true has)
count_by-lt less more (other ∷ clubs) club has h out within =
    let low = sum_by-cons (λ (x : ℕ). cond (less x) 1 0) other clubs in
    let high = sum_by-cons (λ (x : ℕ). cond (more x) 1 0) other clubs in
    elim (other == club) as (λ b. (other == club) ≡ b → (b || has_club clubs club) ≡ true
    → count_by less (other ∷ clubs) < count_by more (other ∷ clubs)) [
      | true ↦ λ same _.
          let here = one_if-lt (less other) (more other) (same_test less club other false same out)
          (same_test more club other true same within) in
          let rest = count_by-le (λ _. true) less more clubs (all_pass clubs)
          (λ third _. h third) in
          omega arith
      | false ↦ λ _ further.
          let here = one_if-le (less other) (more other) (h other) in
          let rest = count_by-lt less more clubs club further h out within in
          omega arith
    ] refl has
  where
    all_pass : (clubs : List ℕ) → list_all (λ _. true) clubs ≡ true
    all_pass [] = refl
    all_pass (club ∷ clubs) = all_pass clubs

-- a club that ranks before another has the lower place
pub place_of-before : (sheet : Sheet) (season : Results) (lots : List ℕ) (club other : ℕ)
    → club < length sheet.clubs → ranks_before sheet season lots club other ≡ true
    → place_of sheet season lots club < place_of sheet season lots other
place_of-before sheet season lots club other below before =
    let fewer = count_by-lt (λ third. ranks_before sheet season lots third club)
    (λ third. ranks_before sheet season lots third other) (clubs_of sheet) club
    (range_has (length sheet.clubs) club below)
    (λ third h. ranks_before-trans sheet season lots third club other h before)
    (ranks_before-itself sheet season lots club) before in
    omega arith

-- no place comes after the number of clubs
pub place_of-le : (sheet : Sheet) (season : Results) (lots : List ℕ) (club : ℕ)
    → club < length sheet.clubs → place_of sheet season lots club ≤ length sheet.clubs
place_of-le sheet season lots club below =
    let fewer = count_by-lt (λ third. ranks_before sheet season lots third club) (λ _. true)
    (clubs_of sheet) club
    (range_has (length sheet.clubs) club below) (λ _ _. refl)
    (ranks_before-itself sheet season lots club) refl in
    let most = count_by-le-length (λ (_ : ℕ). true) (clubs_of sheet) in
    let all = length-range_with_len 0 (length sheet.clubs) in
    omega arith
