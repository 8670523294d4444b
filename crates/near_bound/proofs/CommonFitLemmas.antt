-- Matches that have a score which is fit for several clubs: for a club that does not play in a
-- match each score of it is fit, or none.
use Rattle.std.proofs.Common.{◌≡◌, ◌≢◌, ℕ, ℤ, pos, ◌<◌, ◌⊎◌, Bool, true, false, ◌&&◌, ◌||◌, ◌==◌}
use Rattle.std.proofs.Common.{nat_lt, List, [], ◌∷◌, length, get_or, filter, refl, sym, ap, ◌∙◌}
use Rattle.std.proofs.Common.{eq-eqb, inl, inr, arith}
use Rattle.std.specs.List.{list_all}
use Rattle.std.proofs.Math.Bool.{or-true, and-true}
use Rattle.std.proofs.lemmas.Bool.{cases_eq, false≢true, true≢false, and_parts, and_from}
use Rattle.league_core.specs.declared.sheet.Fixture.{Fixture}
use Rattle.league_core.specs.declared.season.Score.{Score}
use Rattle.league_core.specs.declared.zone.Literal.{Literal}
use Rattle.league_core.specs.game.Sums.{has_club}
use Rattle.league_core.specs.search.Options.{has_score, has_option, options_in}
use Rattle.league_core.specs.search.PointRanges.{Range, range_of, points_together}
use Rattle.league_core.proofs.OptionLemmas.{has_score-first}
use Rattle.league_core.proofs.plain.Lists.{list_all-at}
use Rattle.league_core.proofs.plain.TruthValues.{and_comm}
use Rattle.near_laws.specs.Fits.{can_reach, is_fit, fit_options, have_fit, range_in}
use Rattle.near_bound.specs.declared.zone_left.ZoneLeft.{ZoneLeft}
use Rattle.near_bound.specs.inside.Points.{is_fit_by}
use Rattle.near_bound.specs.inside.ZonesLeft.{IsZoneLeft, StandsFor}
use Rattle.near_bound.proofs.LeastLemmas.{some_option}
use Rattle.near_bound.proofs.FitLeftLemmas.{has_score-filter, other_fit, one_answer, fit_at}
use Rattle.near_bound.proofs.TieLemmas.{length-fit}

-- the club does not play in the match
abbrev pub StaysOut : Fixture → ℕ → Type 0
StaysOut match club = (match.home ≢ club) × (match.away ≢ club)

-- then its fit scores are all or none
all_or_none : (all : Range) (points : ℤ) (club : ℕ) (match : Fixture) (options : List Score)
    (score other : Score) → StaysOut match club
    → is_fit_by all points club match options score ≡ is_fit_by all points club match options other
all_or_none all points club match options score other out =
    let here = range_of (points_together (club ∷ []) match) options in
    let none = can_reach all here (pos 0) points in
    sym (other_fit all here points club match options score out.0 out.1 refl)
    ∙ one_answer none (nat_lt score.away score.home) (score.home == score.away)
    ∙ sym (one_answer none (nat_lt other.away other.home) (other.home == other.away))
    ∙ other_fit all here points club match options other out.0 out.1 refl

pub some_score : (options : List Score) → has_option options ≡ true
    → (score : Score) × (has_score options score ≡ true)
some_score [] some = absurd (false≢true some)
some_score (first ∷ options) some = (first, has_score-first first options)

-- if the one test leaves an option, and the other all or none, and not none, both leave one
pub joint_some : (options : List Score) (first second both : Score → Bool)
    → has_option (filter first options) ≡ true → has_option (filter second options) ≡ true
    → ((score other : Score) → second score ≡ second other)
    → ((score : Score) → both score ≡ (first score && second score))
    → has_option (filter both options) ≡ true
joint_some options first second both one other same is =
    let here = some_score (filter first options) one in
    let there = some_score (filter second options) other in
    let of_one = and_parts (has_score options here.0) (first here.0)
    (sym (has_score-filter first options here.0) ∙ here.1) in
    let of_other = and_parts (has_score options there.0) (second there.0)
    (sym (has_score-filter second options there.0) ∙ there.1) in
    some_option (filter both options) here.0
    (has_score-filter both options here.0
    ∙ and_from (has_score options here.0) (both here.0) of_one.0
    (is here.0
    ∙ and_from (first here.0) (second here.0) of_one.1 (same here.0 there.0 ∙ of_other.1)))

-- the fit scores of a fixture for one club
pub some_fit : (left : ZoneLeft) (zone : List Literal) (points : ℤ) (clubs : List ℕ) (k : ℕ)
    → IsZoneLeft left → StandsFor left zone → k < length left.sheet.now.fixtures
    → have_fit left.sheet.now left.season.now zone points clubs ≡ true
    → has_option (get_or (fit_options left.sheet.now left.season.now zone points clubs) k [])
    ≡ true
some_fit left zone points clubs k is stands inside have =
    let long = length-fit left zone points clubs is stands in
    list_all-at has_option (fit_options left.sheet.now left.season.now zone points clubs) k []
    (omega (arith, long)) have

-- for clubs that have fit scores, and another that has some and does not play
pub some_with : (left : ZoneLeft) (zone : List Literal) (points : ℤ) (clubs whole : List ℕ)
    (club k : ℕ) (d : Fixture) → IsZoneLeft left → StandsFor left zone
    → k < length left.sheet.now.fixtures
    → has_option (get_or (fit_options left.sheet.now left.season.now zone points clubs) k [])
    ≡ true
    → have_fit left.sheet.now left.season.now zone points (club ∷ []) ≡ true
    → StaysOut (get_or left.sheet.now.fixtures k d) club
    → ((test : ℕ → Bool) → list_all test whole ≡ (list_all test clubs && test club))
    → has_option (get_or (fit_options left.sheet.now left.season.now zone points whole) k [])
    ≡ true
some_with left zone points clubs whole club k d is stands inside some have out splits =
    let sheet = left.sheet.now in
    let season = left.season.now in
    let own = get_or (options_in sheet season zone) k [] in
    let match = get_or sheet.fixtures k d in
    let test : Score → ℕ → Bool = is_fit sheet season zone points match own in
    let many = stands.matches.many in
    let same = is.many in
    let there : k < length (options_in sheet season zone) = omega (arith, many, same) in
    let alone = some_fit left zone points (club ∷ []) k is stands inside have in
    ap has_option (fit_at sheet season zone points whole k d inside there)
    ∙ joint_some own (λ score. list_all (test score) clubs)
    (λ score. list_all (test score) (club ∷ []))
    (λ score. list_all (test score) whole)
    (sym (ap has_option (fit_at sheet season zone points clubs k d inside there)) ∙ some)
    (sym (ap has_option (fit_at sheet season zone points (club ∷ []) k d inside there)) ∙ alone)
    (λ score other.
    ap (λ b. b && true)
    (all_or_none (range_in sheet season zone club) points club match own score other out))
    (λ score.
    splits (test score)
    ∙ ap (λ b. list_all (test score) clubs && b) (sym (and-true (test score club))))

-- of two clubs of which not both sides are, one stays out
pub one_stays : (match : Fixture) (front back : ℕ) → front ≢ back
    → (has_club (front ∷ back ∷ []) match.home && has_club (front ∷ back ∷ []) match.away) ≡ false
    → StaysOut match front ⊎ StaysOut match back
one_stays match front back apart none =
    by_home (cases_eq match.home front)
  where
    first_in : (club : ℕ) → club ≡ front → has_club (front ∷ back ∷ []) club ≡ true
    first_in club same = ap (λ b. b || ((back == club) || false)) (eq-eqb front club (sym same))

    second_in : (club : ℕ) → club ≡ back → has_club (front ∷ back ∷ []) club ≡ true
    second_in club same =
        ap (λ b. (front == club) || (b || false)) (eq-eqb back club (sym same))
        ∙ or-true (front == club)

    by_back_away : match.home ≡ front → (match.away ≡ back) ⊎ (match.away ≢ back)
        → StaysOut match front ⊎ StaysOut match back
    by_back_away home (inl away) = absurd
        (true≢false (sym (and_from (has_club (front ∷ back ∷ []) match.home)
        (has_club (front ∷ back ∷ []) match.away) (first_in match.home home)
        (second_in match.away away)) ∙ none))
    by_back_away home (inr away) = inr (λ e. apart (sym home ∙ e), away)

    by_back_home : match.away ≡ front → (match.home ≡ back) ⊎ (match.home ≢ back)
        → StaysOut match front ⊎ StaysOut match back
    by_back_home away (inl home) = absurd
        (true≢false (sym (and_from (has_club (front ∷ back ∷ []) match.home)
        (has_club (front ∷ back ∷ []) match.away) (second_in match.home home)
        (first_in match.away away)) ∙ none))
    by_back_home away (inr home) = inr (home, λ e. apart (sym away ∙ e))

    by_away : match.home ≢ front → (match.away ≡ front) ⊎ (match.away ≢ front)
        → StaysOut match front ⊎ StaysOut match back
    by_away home (inl away) = by_back_home away (cases_eq match.home back)
    by_away home (inr away) = inl (home, away)

    by_home : (match.home ≡ front) ⊎ (match.home ≢ front)
        → StaysOut match front ⊎ StaysOut match back
    by_home (inl home) = by_back_away home (cases_eq match.away back)
    by_home (inr home) = by_away home (cases_eq match.away front)

-- two clubs of which one stays out have a score that is fit for both
pub both_have : (left : ZoneLeft) (zone : List Literal) (points : ℤ) (front back k : ℕ)
    (d : Fixture) → IsZoneLeft left → StandsFor left zone → k < length left.sheet.now.fixtures
    → have_fit left.sheet.now left.season.now zone points (front ∷ []) ≡ true
    → have_fit left.sheet.now left.season.now zone points (back ∷ []) ≡ true
    → StaysOut (get_or left.sheet.now.fixtures k d) front
    ⊎ StaysOut (get_or left.sheet.now.fixtures k d) back
    → has_option
    (get_or (fit_options left.sheet.now left.season.now zone points (front ∷ back ∷ [])) k [])
    ≡ true
both_have left zone points front back k d is stands inside has_front has_back (inl out) =
    some_with left zone points (back ∷ []) (front ∷ back ∷ []) front k d is stands inside
    (some_fit left zone points (back ∷ []) k is stands inside has_back) has_front out
    (λ test. and_comm (test front) (test back && true))
both_have left zone points front back k d is stands inside has_front has_back (inr out) =
    some_with left zone points (front ∷ []) (front ∷ back ∷ []) back k d is stands inside
    (some_fit left zone points (front ∷ []) k is stands inside has_front) has_back out
    (λ test. same (test front) (test back))
  where
    same : (a b : Bool) → (a && (b && true)) ≡ ((a && true) && b)
    same true true = refl
    same true false = refl
    same false b = refl
