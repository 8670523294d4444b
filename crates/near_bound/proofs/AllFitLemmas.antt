-- Matches of which each score that is left is fit for a club: those of other clubs, those with one
-- score at most, and each if the points lie well within the club's range.
use Rattle.std.proofs.Common.{◌≡◌, ℕ, ℤ, pos, ◌<◌, ◌≤ℤ◌, ◌+ℤ◌, ◌-ℤ◌, ◌||◌, Bool, true}
use Rattle.std.proofs.Common.{cond, int_le}
use Rattle.std.proofs.Common.{List, [], ◌∷◌, length, get_or, filter, nat_lt, ◌==◌, Option, Some}
use Rattle.std.proofs.Common.{None}
use Rattle.std.proofs.Common.{refl, sym, ap, ◌∙◌, arith}
use Rattle.std.specs.List.{list_all}
use Rattle.std.proofs.Math.Bool.{and-true, or-true, or-false}
use Rattle.std.proofs.lemmas.Bool.{and_parts, and_from}
use Rattle.std.proofs.lemmas.Int.{ints}
use Rattle.league_core.specs.declared.sheet.Fixture.{Fixture}
use Rattle.league_core.specs.declared.season.Score.{Score}
use Rattle.league_core.specs.declared.zone.Literal.{Literal}
use Rattle.league_core.specs.game.Finishes.{same_score}
use Rattle.league_core.specs.search.Options.{has_score, has_option, meets, options_of}
use Rattle.league_core.specs.search.PointRanges.{Range, range_of, points_together, one_value}
use Rattle.league_core.proofs.LiteralLemmas.{options_at}
use Rattle.league_core.proofs.OptionLemmas.{has_score-first, same_score-true}
use Rattle.league_core.proofs.OptionTestLemmas.{has_option-some}
use Rattle.league_core.proofs.PointRangeLemmas.{least_reached, greatest_reached}
use Rattle.league_core.proofs.PointsLemmas.{match_worth}
use Rattle.league_core.proofs.plain.Numbers.{int_le-from, int_le-to}
use Rattle.near_laws.specs.Fits.{can_reach, is_fit, leaves_points}
use Rattle.near_bound.specs.declared.match_left.MatchLeft.{MatchLeft}
use Rattle.near_bound.specs.declared.tie.Tie.{Tie}
use Rattle.near_bound.specs.inside.FitEnds.{IsRoomyClub, left_options}
use Rattle.near_bound.specs.inside.MatchesLeft.{IsLeftOf, LeavesOneAtMost}
use Rattle.near_bound.specs.inside.Points.{range_of_ends, ends_listed, is_fit_by}
use Rattle.near_bound.specs.inside.Ties.{IsTie, IsTieIn, fits_of, range_has_points, match_at}
use Rattle.near_bound.proofs.CommonFitLemmas.{StaysOut}
use Rattle.near_bound.proofs.FitLeftLemmas.{has_score-filter, one_answer, other_fit, fit_at}
use Rattle.near_bound.proofs.OneScoreLemmas.{fit_alone}
use Rattle.near_bound.proofs.PointLemmas.{not_there}

-- a test that each option passes keeps them all
all_pass : (test : Score → Bool) (options : List Score)
    → ((score : Score) → has_score options score ≡ true → test score ≡ true)
    → filter test options ≡ options
all_pass test [] passes = refl
all_pass test (first ∷ options) passes =
    ap (λ b. cond b (first ∷ filter test options) (filter test options))
    (passes first (has_score-first first options))
    ∙ ap (λ (xs : List Score). first ∷ xs) (all_pass test options (λ score has. passes score
    (ap (λ b. same_score score first || b) has ∙ or-true (same_score score first))))

-- each option of a fixture is fit for the club
abbrev pub AreAllFit : Tie → List Literal → ℕ → ℕ → Type 0
AreAllFit tie zone club k =
    get_or (fits_of tie zone (club ∷ [])) k [] ≡ get_or (left_options tie zone) k []

-- the score is fit for the club, by its range
abbrev IsFitAt : Tie → List Literal → ℕ → ℕ → Score → Type 0
IsFitAt tie zone club k score =
    is_fit_by (range_of_ends (ends_listed tie.ends club)) tie.points club (match_at tie k)
    (get_or (left_options tie zone) k []) score ≡ true

fit_each : (tie : Tie) (zone : List Literal) (club k : ℕ) → IsTie tie → IsTieIn tie zone
    → club < length tie.left.now.sheet.now.clubs → k < length tie.left.now.sheet.now.fixtures
    → ((score : Score) → has_score (get_or (left_options tie zone) k []) score ≡ true
    → IsFitAt tie zone club k score)
    → AreAllFit tie zone club k
fit_each tie zone club k tie_is is inside of_sheet fits =
    let sheet = tie.left.now.sheet.now in
    let season = tie.left.now.season.now in
    let match = match_at tie k in
    let own = get_or (left_options tie zone) k [] in
    let many = is.stands.matches.many in
    let same = tie_is.left.many in
    let there : k < length (left_options tie zone) = omega (arith, many, same, of_sheet) in
    fit_at sheet season zone tie.points (club ∷ []) k (record { home = 0; away = 0 }) of_sheet there
    ∙ all_pass (λ score. list_all (is_fit sheet season zone tie.points match own score) (club ∷ []))
    own
    (λ score has.
    and-true (is_fit sheet season zone tie.points match own score club)
    ∙ ap (λ (r : Range). is_fit_by r tie.points club match own score) (sym (is.ends club inside))
    ∙ fits score has)

-- ---- matches of others

-- a range that has the points has them still where nothing is exchanged
reach_same : (all : Range) (points : ℤ) → leaves_points all points ≡ true
    → can_reach all (one_value (pos 0)) (pos 0) points ≡ true
reach_same all points has =
    let parts = and_parts (int_le all.least points) (int_le points all.greatest) has in
    let from = int_le-to all.least points parts.0 in
    let to = int_le-to points all.greatest parts.1 in
    and_from (int_le (all.least -ℤ pos 0 +ℤ pos 0) points)
    (int_le points (all.greatest -ℤ pos 0 +ℤ pos 0))
    (int_le-from (all.least -ℤ pos 0 +ℤ pos 0) points (omega (arith, ints)))
    (int_le-from points (all.greatest -ℤ pos 0 +ℤ pos 0) (omega (arith, ints)))

pub elsewhere_fit : (tie : Tie) (zone : List Literal) (club k : ℕ) → IsTie tie → IsTieIn tie zone
    → club < length tie.left.now.sheet.now.clubs → k < length tie.left.now.sheet.now.fixtures
    → StaysOut (match_at tie k) club → range_has_points tie club ≡ true
    → AreAllFit tie zone club k
elsewhere_fit tie zone club k tie_is is inside of_sheet out has =
    let match = match_at tie k in
    let own = get_or (left_options tie zone) k [] in
    let all = range_of_ends (ends_listed tie.ends club) in
    fit_each tie zone club k tie_is is inside of_sheet
    (λ score there.
    sym (other_fit all (one_value (pos 0)) tie.points club match own score out.0 out.1
    (not_there match club own out.0 out.1))
    ∙ one_answer (can_reach all (one_value (pos 0)) (pos 0) tie.points)
    (nat_lt score.away score.home) (score.home == score.away)
    ∙ reach_same all tie.points has)

-- ---- one score at most

pub one_fit : (tie : Tie) (zone : List Literal) (club k : ℕ) → IsTie tie → IsTieIn tie zone
    → club < length tie.left.now.sheet.now.clubs → k < length tie.left.now.sheet.now.fixtures
    → ((score other : Score) → has_score (get_or (left_options tie zone) k []) score ≡ true
    → has_score (get_or (left_options tie zone) k []) other ≡ true → score ≡ other)
    → range_has_points tie club ≡ true → AreAllFit tie zone club k
one_fit tie zone club k tie_is is inside of_sheet one has =
    fit_each tie zone club k tie_is is inside of_sheet
    (λ score there.
    sym (fit_alone (range_of_ends (ends_listed tie.ends club)) tie.points club (match_at tie k)
    (get_or (left_options tie zone) k []) score there
    (λ other also. one other score also there))
    ∙ has)

-- a match of which no two scores are left
pub one_left : (tie : Tie) (zone : List Literal) (k : ℕ) (left : MatchLeft) → IsLeftOf left
    (get_or (left_options tie zone) k []) → LeavesOneAtMost left → (score other : Score)
    → has_score (get_or (left_options tie zone) k []) score ≡ true
    → has_score (get_or (left_options tie zone) k []) other ≡ true → score ≡ other
one_left tie zone k left left_of one score other has also =
    one score other (left_of score ∙ has) (left_of other ∙ also)

-- so has a match with a result
one_played : (zone : List Literal) (limit k : ℕ) (played score : Score)
    → has_score (options_of limit zone k (Some played)) score ≡ true → score ≡ played
one_played zone limit k played score has =
    same_score-true score played
    (sym (or-false (same_score score played))
    ∙ (and_parts (has_score (played ∷ []) score) (meets zone k score)
    (sym (has_score-filter (meets zone k) (played ∷ []) score) ∙ has)).0)

pub played_one : (tie : Tie) (zone : List Literal) (k : ℕ) (played : Score)
    → k < length tie.left.now.season.now.scores
    → get_or tie.left.now.season.now.scores k None ≡ Some played → (score other : Score)
    → has_score (get_or (left_options tie zone) k []) score ≡ true
    → has_score (get_or (left_options tie zone) k []) other ≡ true → score ≡ other
played_one tie zone k played inside is score other has also =
    let limit = tie.left.now.sheet.now.goal_limit in
    let options_is : get_or (left_options tie zone) k [] ≡ options_of limit zone k (Some played) =
    options_at limit zone tie.left.now.season.now.scores k inside
    ∙ ap (λ (ended : Option Score). options_of limit zone k ended) is in
    one_played zone limit k played score
    (sym (ap (λ (xs : List Score). has_score xs score) options_is) ∙ has)
    ∙ sym (one_played zone limit k played other
    (sym (ap (λ (xs : List Score). has_score xs other) options_is) ∙ also))

-- ---- points that lie well within the range

reach_within : (all here : Range) (given points : ℤ) → (all.least +ℤ pos 3) ≤ℤ points
    → points ≤ℤ (all.greatest -ℤ pos 3) → pos 0 ≤ℤ here.least → here.greatest ≤ℤ pos 3
    → pos 0 ≤ℤ given → given ≤ℤ pos 3 → can_reach all here given points ≡ true
reach_within all here given points low high least greatest from to =
    and_from (int_le (all.least -ℤ here.least +ℤ given) points)
    (int_le points (all.greatest -ℤ here.greatest +ℤ given))
    (int_le-from (all.least -ℤ here.least +ℤ given) points (omega (arith, ints, low, least, to)))
    (int_le-from points (all.greatest -ℤ here.greatest +ℤ given)
    (omega (arith, ints, high, greatest, from)))

-- a match gives a club from none to three points
worth_within : (club : ℕ) (match : Fixture) (score : Score)
    → (pos 0 ≤ℤ points_together (club ∷ []) match score)
    × (points_together (club ∷ []) match score ≤ℤ pos 3)
worth_within club match score =
    let worth = match_worth club match score in
    (omega (arith, ints, worth.least), omega (arith, ints, worth.most))

range_within : (club : ℕ) (match : Fixture) (options : List Score) → has_option options ≡ true
    → (pos 0 ≤ℤ (range_of (points_together (club ∷ []) match) options).least)
    × ((range_of (points_together (club ∷ []) match) options).greatest ≤ℤ pos 3)
range_within club match options some =
    let least = least_reached (points_together (club ∷ []) match) options some in
    let greatest = greatest_reached (points_together (club ∷ []) match) options some in
    let low = (worth_within club match least.0).0 in
    let high = (worth_within club match greatest.0).1 in (
      omega (arith, ints, low, least.2),
      omega (arith, ints, high, greatest.2),
    )

pub roomy_fit : (tie : Tie) (zone : List Literal) (club k : ℕ) → IsTie tie → IsTieIn tie zone
    → club < length tie.left.now.sheet.now.clubs → k < length tie.left.now.sheet.now.fixtures
    → IsRoomyClub tie club → AreAllFit tie zone club k
roomy_fit tie zone club k tie_is is inside of_sheet roomy =
    let match = match_at tie k in
    let own = get_or (left_options tie zone) k [] in
    let won = points_together (club ∷ []) match in
    fit_each tie zone club k tie_is is inside of_sheet
    (λ score there.
    let worth = worth_within club match score in
    let range = range_within club match own (has_option-some own score there) in
    reach_within (range_of_ends (ends_listed tie.ends club)) (range_of won own) (won score)
    tie.points roomy.above roomy.below range.0 range.1 worth.0 worth.1)
