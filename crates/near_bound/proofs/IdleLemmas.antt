-- What is fit for two clubs in a match is what is fit for the one, if the other does not play there
-- and its range has the points.
use Rattle.std.proofs.Common.{◌≡◌, ℕ, ◌<◌, Bool, true, false, ◌&&◌, List, [], ◌∷◌, length, get_or}
use Rattle.std.proofs.Common.{refl, sym, ap, ◌∙◌}
use Rattle.std.specs.List.{list_all}
use Rattle.std.proofs.lemmas.Bool.{false≢true}
use Rattle.league_core.specs.declared.season.Score.{Score}
use Rattle.league_core.specs.declared.zone.Literal.{Literal}
use Rattle.league_core.specs.search.Options.{has_score}
use Rattle.near_bound.specs.declared.match_left.MatchLeft.{MatchLeft}
use Rattle.near_bound.specs.declared.tie.Tie.{Tie}
use Rattle.near_bound.specs.inside.FitEnds.{IsIdleClub}
use Rattle.near_bound.specs.inside.MatchesLeft.{IsLeftOf}
use Rattle.near_bound.specs.inside.Ties.{IsTie, IsTieIn, fits_of}
use Rattle.near_bound.proofs.AllFitLemmas.{elsewhere_fit}
use Rattle.near_bound.proofs.EachFitLemmas.{fits_here, fit_here, own_of}
use Rattle.near_bound.proofs.FitLeftLemmas.{has_score-filter}

-- a score that is there is fit for whom it does not concern
idle_passes : (tie : Tie) (zone : List Literal) (club k : ℕ) (score : Score) → IsTie tie
    → IsTieIn tie zone → club < length tie.left.now.sheet.now.clubs
    → k < length tie.left.now.sheet.now.fixtures → IsIdleClub tie k club
    → has_score (own_of tie zone k) score
    ≡ (has_score (own_of tie zone k) score && (fit_here tie zone k score club && true))
idle_passes tie zone club k score of_tie is inside of_sheet idle =
    ap (λ (xs : List Score). has_score xs score)
    (sym (elsewhere_fit tie zone club k of_tie is inside of_sheet (idle.not_home, idle.not_away)
    idle.has)
    ∙ fits_here tie zone (club ∷ []) k of_tie is of_sheet)
    ∙ has_score-filter (λ s. list_all (fit_here tie zone k s) (club ∷ [])) (own_of tie zone k) score

same_first : (has fit idle : Bool) → has ≡ (has && (idle && true))
    → (has && (fit && true)) ≡ (has && (fit && (idle && true)))
same_first false fit idle passes = refl
same_first true fit true passes = refl
same_first true fit false passes = absurd (false≢true (sym passes))

same_second : (has fit idle : Bool) → has ≡ (has && (idle && true))
    → (has && (fit && true)) ≡ (has && (idle && (fit && true)))
same_second false fit idle passes = refl
same_second true fit true passes = refl
same_second true fit false passes = absurd (false≢true (sym passes))

-- if the back club is idle
pub first_alone : (tie : Tie) (zone : List Literal) (front back k : ℕ) (found : MatchLeft)
    → IsTie tie → IsTieIn tie zone → back < length tie.left.now.sheet.now.clubs
    → k < length tie.left.now.sheet.now.fixtures → IsIdleClub tie k back
    → IsLeftOf found (get_or (fits_of tie zone (front ∷ [])) k [])
    → IsLeftOf found (get_or (fits_of tie zone (front ∷ back ∷ [])) k [])
first_alone tie zone front back k found of_tie is inside of_sheet idle left_of score =
    let own = own_of tie zone k in
    left_of score
    ∙ ap (λ (xs : List Score). has_score xs score)
    (fits_here tie zone (front ∷ []) k of_tie is of_sheet)
    ∙ has_score-filter (λ s. list_all (fit_here tie zone k s) (front ∷ [])) own score
    ∙ same_first (has_score own score) (fit_here tie zone k score front)
    (fit_here tie zone k score back)
    (idle_passes tie zone back k score of_tie is inside of_sheet idle)
    ∙ sym (ap (λ (xs : List Score). has_score xs score)
    (fits_here tie zone (front ∷ back ∷ []) k of_tie is of_sheet)
    ∙ has_score-filter (λ s. list_all (fit_here tie zone k s) (front ∷ back ∷ [])) own score)

-- if the front club is
pub second_alone : (tie : Tie) (zone : List Literal) (front back k : ℕ) (found : MatchLeft)
    → IsTie tie → IsTieIn tie zone → front < length tie.left.now.sheet.now.clubs
    → k < length tie.left.now.sheet.now.fixtures → IsIdleClub tie k front
    → IsLeftOf found (get_or (fits_of tie zone (back ∷ [])) k [])
    → IsLeftOf found (get_or (fits_of tie zone (front ∷ back ∷ [])) k [])
second_alone tie zone front back k found of_tie is inside of_sheet idle left_of score =
    let own = own_of tie zone k in
    left_of score
    ∙ ap (λ (xs : List Score). has_score xs score)
    (fits_here tie zone (back ∷ []) k of_tie is of_sheet)
    ∙ has_score-filter (λ s. list_all (fit_here tie zone k s) (back ∷ [])) own score
    ∙ same_second (has_score own score) (fit_here tie zone k score back)
    (fit_here tie zone k score front)
    (idle_passes tie zone front k score of_tie is inside of_sheet idle)
    ∙ sym (ap (λ (xs : List Score). has_score xs score)
    (fits_here tie zone (front ∷ back ∷ []) k of_tie is of_sheet)
    ∙ has_score-filter (λ s. list_all (fit_here tie zone k s) (front ∷ back ∷ [])) own score)
