-- The points that a box keeps for each club are those that all zones with the same scores leave it.
use Rattle.std.proofs.Common.{◌≡◌, ℕ, suc, ◌<◌, ◌≤◌, ◌⊎◌, inl, inr, ℤ, pos, ◌-ℤ◌, ◌≤ℤ◌}
use Rattle.std.proofs.Common.{true, List, [], ◌∷◌, length, get_or, refl, sym, ap, ◌∙◌, arith}
use Rattle.std.proofs.lemmas.Bool.{false≢true, cases_lt}
use Rattle.std.proofs.lemmas.Int.{ints, clamps}
use Rattle.std.proofs.lemmas.List.{get_or_past}
use Rattle.league_core.specs.declared.sheet.Sheet.{Sheet}
use Rattle.league_core.specs.declared.sheet.Fixture.{Fixture}
use Rattle.league_core.specs.declared.season.Score.{Score}
use Rattle.league_core.specs.declared.zone.Literal.{Literal}
use Rattle.league_core.specs.game.Results.{are_results}
use Rattle.league_core.specs.search.Options.{has_score, options_in}
use Rattle.league_core.specs.search.PointRanges.{range_of, range_from, added, one_value}
use Rattle.league_core.specs.search.PointRanges.{points_together, least_points_of, most_points_of}
use Rattle.league_core.specs.search.PointRanges.{deducted_from}
use Rattle.league_core.proofs.OptionLemmas.{has_score-first}
use Rattle.league_core.proofs.PointsLemmas.{deduction-le, results-deductions}
use Rattle.league_core.proofs.PointRangeLemmas.{range_bounds, least_reached, greatest_reached}
use Rattle.league_core.proofs.PointRangeLemmas.{least-is, greatest-is}
use Rattle.league_core.proofs.RangeLemmas.{same_range}
use Rattle.near_laws.specs.Fits.{range_in}
use Rattle.near_bound.specs.declared.points.PointEnds.{PointEnds}
use Rattle.near_bound.specs.declared.zone_left.ZoneLeft.{ZoneLeft}
use Rattle.near_bound.specs.inside.AllEnds.{AreAllEnds}
use Rattle.near_bound.specs.inside.Points.{range_of_ends, ends_listed, AreEndsOfClub}
use Rattle.near_bound.specs.inside.ZonesLeft.{StandsFor}
use Rattle.score_box.specs.inside.ZoneBoxViews.{ZoneBoxView}
use Rattle.score_box.proofs.EndLemmas.{ends_small}
use Rattle.near_box.specs.inside.ZoneMatches.{IsOfBox, IsKeptOf, nothing_left}
use Rattle.near_box.proofs.SightLemmas.{stands_for_zone}

-- the same scores in another list have the same range
same_options : (value : Score → ℤ) (one other : List Score)
    → ((score : Score) → has_score one score ≡ has_score other score)
    → range_of value one ≡ range_of value other
same_options value [] [] same = refl
same_options value [] (first ∷ other) same =
    absurd (false≢true (same first ∙ has_score-first first other))
same_options value (first ∷ one) [] same =
    absurd (false≢true (sym (same first) ∙ has_score-first first one))
same_options value (first ∷ one) (second ∷ other) same =
    let low = least_reached value (first ∷ one) refl in
    let high = greatest_reached value (first ∷ one) refl in
    let range = range_of value (first ∷ one) in
    same_range range (range_of value (second ∷ other))
    (least-is value (second ∷ other) range.least
    (λ score is. (range_bounds value (first ∷ one) score (same score ∙ is)).0)
    (low.0, sym (same low.0) ∙ low.1, low.2))
    (greatest-is value (second ∷ other) range.greatest
    (λ score is. (range_bounds value (first ∷ one) score (same score ∙ is)).1)
    (high.0, sym (same high.0) ∙ high.1, high.2))

-- so have all fixtures together
same_points : (value : Fixture → Score → ℤ) (matches : List Fixture) (one other : List (List Score))
    → length one ≡ length other
    → ((k : ℕ) (score : Score) → has_score (get_or one k []) score
    ≡ has_score (get_or other k []) score)
    → range_from value matches one ≡ range_from value matches other
same_points value [] one other long same = refl
same_points value (match ∷ matches) [] [] long same = refl
same_points value (match ∷ matches) [] (more ∷ other) long same = absurd (omega (arith, long))
same_points value (match ∷ matches) (options ∷ one) [] long same = absurd (omega (arith, long))
same_points value (match ∷ matches) (options ∷ one) (more ∷ other) long same =
    let here = same_options (value match) options more (λ score. same 0 score) in
    let rest = same_points value matches one other (omega (arith, long))
    (λ k score. same (suc k) score) in
    λ i. added (here i) (rest i)

-- two lists of options of one match each have the same scores
same_scores : (left : ZoneLeft) (zone other : List Literal) → StandsFor left zone
    → StandsFor left other → (k : ℕ) (score : Score)
    → has_score (get_or (options_in left.sheet.now left.season.now zone) k []) score
    ≡ has_score (get_or (options_in left.sheet.now left.season.now other) k []) score
same_scores left zone other one two k score = by (cases_lt k (length left.matches.now))
  where
    first : List (List Score)
    first = options_in left.sheet.now left.season.now zone

    second : List (List Score)
    second = options_in left.sheet.now left.season.now other

    by : (k < length left.matches.now) ⊎ (length left.matches.now ≤ k)
        → has_score (get_or first k []) score ≡ has_score (get_or second k []) score
    by (inl within) =
        sym (one.matches.each k nothing_left within score)
        ∙ two.matches.each k nothing_left within score
    by (inr past) =
        ap (λ options. has_score options score)
        (get_or_past first k [] (omega (arith, past, one.matches.many))
        ∙ sym (get_or_past second k [] (omega (arith, past, two.matches.many))))

-- a club's points are the same in all zones that one argument stands for
same_in_zones : (left : ZoneLeft) (zone other : List Literal) (club : ℕ) → StandsFor left zone
    → StandsFor left other → range_in left.sheet.now left.season.now zone club
    ≡ range_in left.sheet.now left.season.now other club
same_in_zones left zone other club one two =
    ap (λ range. added range (one_value (pos 0 -ℤ deducted_from left.season.now (club ∷ []))))
    (same_points (points_together (club ∷ [])) left.sheet.now.fixtures
    (options_in left.sheet.now left.season.now zone)
    (options_in left.sheet.now left.season.now other)
    (sym one.matches.many ∙ two.matches.many) (same_scores left zone other one two))

in_order_of : (value : Score → ℤ) (options : List Score)
    → (range_of value options).least ≤ℤ (range_of value options).greatest
in_order_of value [] = omega (arith, ints)
in_order_of value (score ∷ []) = omega (arith, ints)
in_order_of value (score ∷ other ∷ options) =
    let rest = in_order_of value (other ∷ options) in
    omega (arith, ints, clamps, rest)

in_order_from : (value : Fixture → Score → ℤ) (matches : List Fixture) (options : List (List Score))
    → (range_from value matches options).least ≤ℤ (range_from value matches options).greatest
in_order_from value [] options = omega (arith, ints)
in_order_from value (match ∷ matches) [] = omega (arith, ints)
in_order_from value (match ∷ matches) (scores ∷ options) =
    let here = in_order_of (value match) scores in
    let rest = in_order_from value matches options in
    omega (arith, ints, here, rest)

-- it is near to zero
kept_near : (box : ZoneBoxView) (club : ℕ) (ends : PointEnds) → are_results box.season ≡ true
    → length box.sheet.fixtures ≤ 600 → IsKeptOf box club ends → AreEndsOfClub ends
unfolding least_points_of most_points_of
kept_near box club ends results few is =
    let options = options_in box.sheet box.season box.zone in
    let small = ends_small club box.sheet.fixtures options in
    let order = in_order_from (points_together (club ∷ [])) box.sheet.fixtures options in
    let off = deduction-le box.season.deductions club
    (results-deductions box.season results) in record {
      least = omega (arith, ints, is.0, small.0.0, off);
      in_order = omega (arith, ints, is.0, is.1, order);
      most = omega (arith, ints, is.1, small.1.1, few, off);
    }

-- and it is the range in the zone of the box
kept_range : (box : ZoneBoxView) (club : ℕ) (ends : PointEnds) → IsKeptOf box club ends
    → range_of_ends ends ≡ range_in box.sheet box.season box.zone club
unfolding least_points_of most_points_of
kept_range box club ends is =
    same_range (range_of_ends ends) (range_in box.sheet box.season box.zone club) is.0 is.1

-- what is kept of all clubs is so of each argument made of the box
pub ends_in_box : (box : ZoneBoxView) (left : ZoneLeft) (ends : List PointEnds)
    → are_results box.season ≡ true → IsOfBox box left
    → ((club : ℕ) → club < length box.sheet.clubs → IsKeptOf box club (ends_listed ends club))
    → AreAllEnds left ends
ends_in_box box left ends results is kept = record {
  near = λ club within.
      kept_near box club (ends_listed ends club) results few (kept club (here club within));
  range = λ zone stands club within.
      kept_range box club (ends_listed ends club) (kept club (here club within))
      ∙ (λ i. range_in (sym is.sheet i) (sym is.season i) box.zone club)
      ∙ same_in_zones left box.zone zone club (stands_for_zone box left is) stands;
}
  where
    here : (club : ℕ) → club < length left.sheet.now.clubs → club < length box.sheet.clubs
    here club within =
        omega (arith, within, ap (λ (s : Sheet). length s.clubs) is.sheet)

    few : length box.sheet.fixtures ≤ 600
    few = omega (arith, ap (λ (s : Sheet). length s.fixtures) is.sheet, is.limits.most_fixtures)
