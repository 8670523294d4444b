-- A match with one score left at most: it is fit for a club if the club's range has the points.
use Rattle.std.proofs.Common.{◌≡◌, ℕ, ℤ, ◌+ℤ◌, ◌-ℤ◌, ◌≤ℤ◌, ◌⊎◌, Bool, true, false, ◌&&◌}
use Rattle.std.proofs.Common.{int_le, List, [], ◌∷◌, refl, sym, ap, ◌∙◌, inl, inr}
use Rattle.std.proofs.Common.{arith}
use Rattle.std.proofs.lemmas.Int.{ints}
use Rattle.std.proofs.lemmas.Bool.{cases_Bool}
use Rattle.league_core.specs.declared.sheet.Fixture.{Fixture}
use Rattle.league_core.specs.declared.season.Score.{Score}
use Rattle.league_core.specs.search.Options.{has_score, is_home_win, is_draw}
use Rattle.league_core.specs.search.PointRanges.{Range, range_of, points_together}
use Rattle.league_core.proofs.PointRangeLemmas.{least-is, greatest-is}
use Rattle.near_laws.specs.Fits.{leaves_points}
use Rattle.near_bound.specs.declared.match_left.MatchLeft.{MatchLeft}
use Rattle.near_bound.specs.inside.MatchesLeft.{is_score_left}
use Rattle.near_bound.specs.inside.MatchesLeft.{IsLeftOf, LeavesOneAtMost}
use Rattle.near_bound.specs.inside.Points.{is_fit_by, fit_by, by_outcome}
use Rattle.near_bound.proofs.FitLeftLemmas.{has_score-filter, one_answer}

pub fit_alone : (all : Range) (points : ℤ) (club : ℕ) (match : Fixture) (options : List Score)
    (score : Score) → has_score options score ≡ true
    → ((other : Score) → has_score options other ≡ true → other ≡ score)
    → leaves_points all points ≡ is_fit_by all points club match options score
fit_alone all points club match options score has same =
    let won = points_together (club ∷ []) match in
    let given : ℤ = won score in
    let least = least-is won options given (λ other also. below given (won other)
    (ap won (same other also))) (score, has, refl) in
    let greatest = greatest-is won options given (λ other also. below (won other) given
    (sym (ap won (same other also)))) (score, has, refl) in
    λ i. int_le (back all.least given (range_of won options).least least i) points
    && int_le points (back all.greatest given (range_of won options).greatest greatest i)
  where
    below : (a b : ℤ) → b ≡ a → a ≤ℤ b
    below a b is = omega (arith, ints, is)

    back : (end given here : ℤ) → given ≡ here → end ≡ end -ℤ here +ℤ given
    back end given here is = omega (arith, ints, is)

pub one_score_fits : (left kept : MatchLeft) (all : Range) (points : ℤ) (club : ℕ)
    (match : Fixture) (fits : Bool) (options : List Score) → LeavesOneAtMost left
    → IsLeftOf left options → fits ≡ leaves_points all points
    → ((score : Score) → is_score_left kept score
    ≡ (is_score_left left score && by_outcome fits fits fits score))
    → IsLeftOf kept (fit_by all points club match options)
one_score_fits left kept all points club match fits options one left_of fits_is keeps score =
    keeps score
    ∙ ap (λ b. b && by_outcome fits fits fits score) (left_of score)
    ∙ if_there (cases_Bool (has_score options score))
    ∙ sym (has_score-filter (is_fit_by all points club match options) options score)
  where
    test : Bool
    test = is_fit_by all points club match options score

    if_there : (has_score options score ≡ true) ⊎ (has_score options score ≡ false)
        → (has_score options score && by_outcome fits fits fits score)
        ≡ (has_score options score && test)
    if_there (inl has) =
        ap (λ b. has_score options score && b)
        (one_answer fits (is_home_win score) (is_draw score)
        ∙ fits_is
        ∙ fit_alone all points club match options score has
        (λ other also. one other score (left_of other ∙ also) (left_of score ∙ has)))
    if_there (inr none) =
        ap (λ b. b && by_outcome fits fits fits score) none
        ∙ sym (ap (λ b. b && test) none)
