-- What the range of a club's points says of its fit scores: if it misses the points, a match has
-- none, or there is no match at all.
use Rattle.std.proofs.Common.{◌≡◌, ℕ, ℤ, pos, ◌<◌, ◌≤ℤ◌, ◌+ℤ◌, ◌-ℤ◌, ◌⊎◌, inl, inr, Bool}
use Rattle.std.proofs.Common.{true, false, ◌&&◌, int_le, List, [], ◌∷◌, length, filter}
use Rattle.std.proofs.Common.{slice_index}
use Rattle.std.proofs.Common.{refl, sym, ap, ◌∙◌, arith}
use Rattle.std.specs.List.{list_all}
use Rattle.std.proofs.Math.Bool.{and-true, and-false}
use Rattle.std.proofs.lemmas.Bool.{and_parts, and_from, cases_Bool, false≢true}
use Rattle.std.proofs.lemmas.Int.{ints}
use Rattle.league_core.specs.declared.sheet.Fixture.{Fixture}
use Rattle.league_core.specs.declared.season.Score.{Score}
use Rattle.league_core.specs.declared.zone.Literal.{Literal}
use Rattle.league_core.specs.search.Options.{options_in, has_option, has_score}
use Rattle.league_core.specs.search.PointRanges.{Range, range_of, range_from, points_together}
use Rattle.league_core.specs.search.PointRanges.{added, one_value}
use Rattle.league_core.proofs.PointRangeLemmas.{range_bounds}
use Rattle.league_core.proofs.plain.Numbers.{int_le-from, int_le-to}
use Rattle.near_laws.specs.Fits.{can_reach, is_fit, options_where, leaves_points}
use Rattle.near_laws.specs.Fits.{range_in}
use Rattle.near_bound.specs.declared.tie.Tie.{Tie}
use Rattle.near_bound.specs.inside.AbleRivals.{is_able_in}
use Rattle.near_bound.specs.inside.Ties.{IsTieIn, range_has_points}
use Rattle.near_bound.proofs.FitLeftLemmas.{has_score-filter}
use Rattle.near_bound.proofs.PointLemmas.{no_options}

-- from a range that misses the points no score reaches them
reach_outside : (all here : Range) (given points : ℤ) → leaves_points all points ≡ false
    → here.least ≤ℤ given → given ≤ℤ here.greatest → can_reach all here given points ≡ false
reach_outside all here given points misses low high =
    by_test (cases_Bool (can_reach all here given points))
  where
    by_test : (can_reach all here given points ≡ true) ⊎ (can_reach all here given points ≡ false)
        → can_reach all here given points ≡ false
    by_test (inr none) = none
    by_test (inl some) =
        let parts = and_parts (int_le (all.least -ℤ here.least +ℤ given) points)
        (int_le points (all.greatest -ℤ here.greatest +ℤ given)) some in
        let from = int_le-to (all.least -ℤ here.least +ℤ given) points parts.0 in
        let to = int_le-to points (all.greatest -ℤ here.greatest +ℤ given) parts.1 in
        absurd (false≢true (sym misses
        ∙ and_from (int_le all.least points) (int_le points all.greatest)
        (int_le-from all.least points (omega (arith, ints)))
        (int_le-from points all.greatest (omega (arith, ints)))))

-- a test that no option passes keeps none
none_pass : (test : Score → Bool) (options : List Score)
    → ((score : Score) → has_score options score ≡ true → test score ≡ false)
    → filter test options ≡ []
none_pass test options fails =
    no_options (filter test options)
    (λ score. has_score-filter test options score
    ∙ both (has_score options score) (test score) (fails score))
  where
    both : (has passes : Bool) → (has ≡ true → passes ≡ false) → (has && passes) ≡ false
    both true passes fails = fails refl
    both false passes fails = refl

-- a range that misses the points leaves no fit scores with them
outside : (all off : Range) (points : ℤ) (club : ℕ) (test : Fixture → List Score → Score → Bool)
    (matches : List Fixture) (options : List (List Score))
    → ((match : Fixture) (own : List Score) (score : Score) → test match own score
    ≡ can_reach all (range_of (points_together (club ∷ []) match) own)
    (points_together (club ∷ []) match score) points)
    → added (range_from (points_together (club ∷ [])) matches options) off ≡ all
    → leaves_points all points ≡ false
    → (list_all has_option (options_where test matches options)
    && leaves_points (added (range_from (points_together (club ∷ [])) matches
    (options_where test matches options)) off) points) ≡ false
outside all off points club test [] options is same misses =
    ap (λ b. list_all has_option options && b) (ap (λ (r : Range). leaves_points r points) same
    ∙ misses)
    ∙ and-false (list_all has_option options)
outside all off points club test (match ∷ matches) [] is same misses =
    ap (λ (r : Range). leaves_points r points) same ∙ misses
outside all off points club test (match ∷ matches) (own ∷ options) is same misses =
    ap (λ (xs : List Score). (has_option xs && list_all has_option (options_where test matches
    options)) && leaves_points (added (range_from (points_together (club ∷ [])) (match ∷ matches)
    (options_where test (match ∷ matches) (own ∷ options))) off) points)
    (none_pass (test match own) own
    (λ score has.
    let bounds = range_bounds (points_together (club ∷ []) match) own score has in
    is match own score
    ∙ reach_outside all (range_of (points_together (club ∷ []) match) own)
    (points_together (club ∷ []) match score) points misses bounds.0 bounds.1))

pub outside_not_able : (tie : Tie) (zone : List Literal) (club : ℕ) → IsTieIn tie zone
    → club < length tie.left.now.sheet.now.clubs → range_has_points tie club ≡ false
    → is_able_in tie zone club ≡ false
outside_not_able tie zone club is inside misses =
    let sheet = tie.left.now.sheet.now in
    let season = tie.left.now.season.now in
    let all = range_in sheet season zone club in
    outside all (one_value (pos 0 -ℤ (pos (slice_index season.deductions club) +ℤ pos 0)))
    tie.points club
    (λ match options score. list_all (is_fit sheet season zone tie.points match options score)
    (club ∷ []))
    sheet.fixtures (options_in sheet season zone)
    (λ match own score. and-true (is_fit sheet season zone tie.points match own score club))
    refl
    (ap (λ (r : Range). leaves_points r tie.points) (sym (is.ends club inside)) ∙ misses)
