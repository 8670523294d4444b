-- A club's points while the fixtures are walked: at each of them those from all scores that are
-- left are exchanged for those from the fit ones.
use Rattle.std.proofs.Common.{◌≡◌, ℕ, zero, suc, ℤ, pos, ◌<◌, ◌≤◌, ◌+◌, ◌+ℤ◌, ◌-ℤ◌, ◌&&◌}
use Rattle.std.proofs.Common.{Bool, true, false, List, [], ◌∷◌, length, get_or, drop, refl, sym, ap}
use Rattle.std.proofs.Common.{◌∙◌}
use Rattle.std.proofs.Common.{subst, arith}
use Rattle.std.proofs.lemmas.Int.{ints}
use Rattle.league_core.specs.declared.sheet.Fixture.{Fixture}
use Rattle.league_core.specs.declared.season.Score.{Score}
use Rattle.league_core.specs.declared.zone.Literal.{Literal}
use Rattle.league_core.specs.search.Options.{has_option, has_finish}
use Rattle.league_core.specs.search.PointRanges.{Range, range_of, range_from, points_together}
use Rattle.league_core.specs.search.PointRanges.{added, one_value, points_range, deducted_from}
use Rattle.league_core.proofs.PointRangeLemmas.{range_from-more, range_from-all}
use Rattle.league_core.proofs.RangeLemmas.{same_range, added-none}
use Rattle.league_core.proofs.plain.Lists.{list_all-at}
use Rattle.near_laws.specs.Fits.{have_fit, leaves_points}
use Rattle.near_bound.specs.declared.points.PointEnds.{PointEnds}
use Rattle.near_bound.specs.declared.tie.Tie.{Tie}
use Rattle.near_bound.specs.inside.AbleRivals.{is_able_in}
use Rattle.near_bound.specs.inside.FitEnds.{IsClubSoFar, IsFitSoFar, left_options, later_points}
use Rattle.near_bound.specs.inside.Points.{range_of_ends, ends_listed}
use Rattle.near_bound.specs.inside.Ties.{IsTie, IsTieIn, fits_of, match_at}
use Rattle.near_bound.proofs.AllFitLemmas.{AreAllFit}
use Rattle.near_bound.proofs.TieLemmas.{length-fit, none_there, some_there, some_everywhere}

-- ---- one exchange

shifted : (old new all here kept later_fits later : Range)
    → new.least ≡ old.least -ℤ here.least +ℤ kept.least
    → new.greatest ≡ old.greatest -ℤ here.greatest +ℤ kept.greatest
    → added old (added kept later_fits) ≡ added all (added here later)
    → added new later_fits ≡ added all later
shifted old new all here kept later_fits later low high same =
    let least : old.least +ℤ (kept.least +ℤ later_fits.least)
    ≡ all.least +ℤ (here.least +ℤ later.least) = ap (λ (r : Range). r.least) same in
    let greatest : old.greatest +ℤ (kept.greatest +ℤ later_fits.greatest)
    ≡ all.greatest +ℤ (here.greatest +ℤ later.greatest) = ap (λ (r : Range). r.greatest) same in
    same_range (added new later_fits) (added all later) (omega (arith, ints, low, least))
    (omega (arith, ints, high, greatest))

exchange_on : (value : Fixture → Score → ℤ) (matches : List Fixture)
    (options fits : List (List Score)) (k : ℕ) (d : Fixture) (all : Range)
    (old here kept new : PointEnds) → k < length matches → k < length options → k < length fits
    → range_of_ends here ≡ range_of (value (get_or matches k d)) (get_or options k [])
    → range_of_ends kept ≡ range_of (value (get_or matches k d)) (get_or fits k [])
    → new.least ≡ old.least -ℤ here.least +ℤ kept.least
    → new.most ≡ old.most -ℤ here.most +ℤ kept.most
    → added (range_of_ends old) (range_from value (drop k matches) (drop k fits))
    ≡ added all (range_from value (drop k matches) (drop k options))
    → added (range_of_ends new) (range_from value (drop (k + 1) matches) (drop (k + 1) fits))
    ≡ added all (range_from value (drop (k + 1) matches) (drop (k + 1) options))
exchange_on value matches options fits k d all old here kept new in_matches in_options in_fits
    here_is kept_is low high so_far =
    let later = range_from value (drop (k + 1) matches) (drop (k + 1) options) in
    let later_fits = range_from value (drop (k + 1) matches) (drop (k + 1) fits) in
    shifted (range_of_ends old) (range_of_ends new) all (range_of_ends here) (range_of_ends kept)
    later_fits later low high
    (ap (λ (r : Range). added (range_of_ends old) (added r later_fits)) kept_is
    ∙ ap (added (range_of_ends old)) (sym (range_from-more value matches fits k d in_matches
    in_fits))
    ∙ so_far
    ∙ ap (added all) (range_from-more value matches options k d in_matches in_options)
    ∙ ap (λ (r : Range). added all (added r later)) (sym here_is))

-- ---- one fixture

-- with some fit score the points are exchanged
pub some_taken : (tie : Tie) (zone : List Literal) (club k : ℕ) (old here kept new : PointEnds)
    (lacks : Bool) → IsTie tie → IsTieIn tie zone → k < length tie.left.now.sheet.now.fixtures
    → has_option (get_or (fits_of tie zone (club ∷ [])) k []) ≡ true
    → range_of_ends here ≡ range_of (points_together (club ∷ []) (match_at tie k))
    (get_or (left_options tie zone) k [])
    → range_of_ends kept ≡ range_of (points_together (club ∷ []) (match_at tie k))
    (get_or (fits_of tie zone (club ∷ [])) k [])
    → new.least ≡ old.least -ℤ here.least +ℤ kept.least
    → new.most ≡ old.most -ℤ here.most +ℤ kept.most
    → IsClubSoFar tie zone club k old lacks → IsClubSoFar tie zone club (k + 1) new lacks
some_taken tie zone club k old here kept new true tie_is is inside some here_is kept_is low high
    so_far =
    so_far
some_taken tie zone club k old here kept new false tie_is is inside some here_is kept_is low high
    so_far =
    let fits = fits_of tie zone (club ∷ []) in
    let long = length-fit tie.left.now zone tie.points (club ∷ []) tie_is.left is.stands in
    let many = is.stands.matches.many in
    let same = tie_is.left.many in record {
      some = some_there fits k so_far.some (omega (arith, long, inside)) some;
      points = exchange_on (points_together (club ∷ [])) tie.left.now.sheet.now.fixtures
          (left_options tie zone) fits k (record { home = 0; away = 0 })
          (points_range tie.left.now.sheet.now tie.left.now.season.now fits (club ∷ [])) old here
          kept new inside (omega (arith, many, same, inside)) (omega (arith, long, inside))
          here_is kept_is low high so_far.points;
    }

-- where all scores are fit nothing changes
pub all_taken : (tie : Tie) (zone : List Literal) (club k : ℕ) (ends : PointEnds) (lacks : Bool)
    → IsTie tie → IsTieIn tie zone → k < length tie.left.now.sheet.now.fixtures
    → AreAllFit tie zone club k → IsClubSoFar tie zone club k ends lacks
    → IsClubSoFar tie zone club (k + 1) ends lacks
unfolding has_finish
all_taken tie zone club k ends lacks tie_is is inside fit so_far =
    let options = left_options tie zone in
    let won = points_together (club ∷ []) (match_at tie k) in
    let range = range_of won (get_or options k []) in
    let here : PointEnds = record { least = range.least; most = range.greatest } in
    let many = is.stands.matches.many in
    let same = tie_is.left.many in
    some_taken tie zone club k ends here here ends lacks tie_is is inside
    (ap has_option fit
    ∙ list_all-at has_option options k [] (omega (arith, many, same, inside)) is.finish)
    refl (ap (range_of won) (sym fit)) (omega (arith, ints)) (omega (arith, ints)) so_far

-- without a fit score the club lacks one
pub none_taken : (tie : Tie) (zone : List Literal) (club k : ℕ) (ends : PointEnds) (lacks : Bool)
    → IsTie tie → IsTieIn tie zone → k < length tie.left.now.sheet.now.fixtures
    → has_option (get_or (fits_of tie zone (club ∷ [])) k []) ≡ false
    → IsClubSoFar tie zone club k ends lacks
    → have_fit tie.left.now.sheet.now tie.left.now.season.now zone tie.points (club ∷ []) ≡ false
none_taken tie zone club k ends true tie_is is inside none so_far = so_far
none_taken tie zone club k ends false tie_is is inside none so_far =
    let long = length-fit tie.left.now zone tie.points (club ∷ []) tie_is.left is.stands in
    none_there (fits_of tie zone (club ∷ [])) k so_far.some (omega (arith, long, inside)) none

-- over fixtures of which all scores are fit
pub all_between : (tie : Tie) (zone : List Literal) (club start many : ℕ) (ends : PointEnds)
    (lacks : Bool) → IsTie tie → IsTieIn tie zone
    → start + many ≤ length tie.left.now.sheet.now.fixtures
    → ((k : ℕ) → start ≤ k → k < start + many → AreAllFit tie zone club k)
    → IsClubSoFar tie zone club start ends lacks
    → IsClubSoFar tie zone club (start + many) ends lacks
all_between tie zone club start zero ends lacks tie_is is inside fit so_far =
    subst (λ (n : ℕ). IsClubSoFar tie zone club n ends lacks) (no_more start) so_far
  where
    no_more : (n : ℕ) → n ≡ n + 0
    no_more n = omega arith
all_between tie zone club start (suc many) ends lacks tie_is is inside fit so_far =
    subst (λ (n : ℕ). IsClubSoFar tie zone club n ends lacks) (one_more start many)
    (all_taken tie zone club (start + many) ends lacks tie_is is (omega (arith, inside))
    (fit (start + many) (omega arith) (omega arith))
    (all_between tie zone club start many ends lacks tie_is is (omega (arith, inside))
    (λ k low high. fit k low (omega (arith, high))) so_far))
  where
    one_more : (n m : ℕ) → n + m + 1 ≡ n + suc m
    one_more n m = omega arith

-- ---- all fixtures

turned : (first second off : Range)
    → added (added first off) second ≡ added (added second off) first
turned first second off =
    same_range (added (added first off) second) (added (added second off) first)
    (omega (arith, ints)) (omega (arith, ints))

-- at first the points are those from all that is left
pub at_first : (tie : Tie) (zone : List Literal) (club : ℕ) → IsTieIn tie zone
    → club < length tie.left.now.sheet.now.clubs
    → IsClubSoFar tie zone club 0 (ends_listed tie.ends club) false
at_first tie zone club is inside =
    let fits = fits_of tie zone (club ∷ []) in
    let options = left_options tie zone in record {
      some = refl;
      points = ap (λ (r : Range). added r (later_points tie club 0 fits)) (is.ends club inside)
          ∙ turned (later_points tie club 0 options) (later_points tie club 0 fits)
          (one_value (pos 0 -ℤ deducted_from tie.left.now.season.now (club ∷ [])));
    }

-- at last they tell whether the club can have the points
pub at_last : (tie : Tie) (zone : List Literal) (club : ℕ) (ends : PointEnds)
    → IsTie tie → IsTieIn tie zone
    → IsFitSoFar tie zone club (length tie.left.now.sheet.now.fixtures) ends
    → is_able_in tie zone club ≡ leaves_points (range_of_ends ends) tie.points
at_last tie zone club ends tie_is is so_far =
    let fits = fits_of tie zone (club ∷ []) in
    let options = left_options tie zone in
    let matches = tie.left.now.sheet.now.fixtures in
    let value = points_together (club ∷ []) in
    let whole = points_range tie.left.now.sheet.now tie.left.now.season.now fits (club ∷ []) in
    let long = length-fit tie.left.now zone tie.points (club ∷ []) tie_is.left is.stands in
    let range : range_of_ends ends ≡ whole =
    sym (added-none (range_of_ends ends))
    ∙ ap (added (range_of_ends ends)) (sym (range_from-all value matches fits (length matches)
    (omega arith)))
    ∙ so_far.points
    ∙ ap (added whole) (range_from-all value matches options (length matches) (omega arith))
    ∙ added-none whole in
    (λ i. some_everywhere fits (length matches) so_far.some (omega (arith, long)) i
    && leaves_points (sym range i) tie.points)
