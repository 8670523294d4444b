-- A number of points on which clubs may end level: tables of what clubs can have, the fit scores of
-- each fixture, and whether each fixture has some.
use Rattle.std.proofs.Common.{◌≡◌, ◌≢◌, ℕ, ℤ, pos, ◌+◌, ◌<◌, ◌≤◌, ◌⊎◌, Bool, true}
use Rattle.std.proofs.Common.{false, ◌&&◌, List, [], ◌∷◌, length, get_or, set, drop, refl}
use Rattle.std.proofs.Common.{sym, ap, ◌∙◌, subst, inl, inr, arith}
use Rattle.std.specs.List.{list_all}
use Rattle.std.proofs.Math.Bool.{and-true}
use Rattle.std.proofs.lemmas.Bool.{cases_eq}
use Rattle.std.proofs.lemmas.List.{drop_more, drop_all, get_or-set_same, get_or-set_other}
use Rattle.league_core.specs.declared.sheet.Fixture.{Fixture}
use Rattle.league_core.specs.declared.season.Score.{Score}
use Rattle.league_core.specs.declared.zone.Literal.{Literal}
use Rattle.league_core.specs.search.Options.{options_in, has_option}
use Rattle.league_core.specs.search.PointRanges.{Range}
use Rattle.near_laws.specs.Fits.{is_fit, options_where, fit_options, range_in}
use Rattle.near_bound.specs.declared.match_left.MatchLeft.{MatchLeft}
use Rattle.near_bound.specs.declared.points.PointEnds.{PointEnds}
use Rattle.near_bound.specs.declared.zone_left.ZoneLeft.{ZoneLeft}
use Rattle.near_bound.specs.inside.MatchesLeft.{IsLeftOf, is_score_left}
use Rattle.near_bound.specs.inside.Points.{is_fit_by, fit_by}
use Rattle.near_bound.specs.inside.ZonesLeft.{IsZoneLeft, StandsFor}
use Rattle.near_bound.specs.inside.Points.{ends_listed}
use Rattle.near_bound.proofs.FitLeftLemmas.{fit_at, left_same, shared_left}

-- what holds of each club passed, and of one more
pub each_ends_more : (Fact : ℕ → PointEnds → Type 0) (table : List PointEnds) (count : ℕ)
    (ends : PointEnds) → count < length table
    → ((x : ℕ) → x < count → Fact x (ends_listed table x)) → Fact count ends
    → (x : ℕ) → x < count + 1 → Fact x (ends_listed (set table count ends) x)
each_ends_more Fact table count ends inside so_far here x below = at (cases_eq x count)
  where
    none : PointEnds
    none = record { least = pos 0; most = pos 0 }

    at : (x ≡ count) ⊎ (x ≢ count) → Fact x (ends_listed (set table count ends) x)
    at (inl same) =
        subst (λ (n : ℕ). Fact n (ends_listed (set table count ends) n)) (sym same)
        (subst (λ (s : PointEnds). Fact count s)
        (sym (get_or-set_same table count ends none inside)) here)
    at (inr other) =
        subst (λ (s : PointEnds). Fact x s)
        (sym (get_or-set_other table count x ends none other))
        (so_far x (omega (arith, below, other)))

-- a list for each fixture
length-options_where : (test : Fixture → List Score → Score → Bool) (matches : List Fixture)
    (options : List (List Score)) → length matches ≡ length options
    → length (options_where test matches options) ≡ length options
length-options_where test [] options same = refl
length-options_where test (match ∷ matches) [] same = absurd (omega arith)
length-options_where test (match ∷ matches) (own ∷ options) same =
    let rest = length-options_where test matches options (omega arith) in omega arith

pub length-fit : (left : ZoneLeft) (zone : List Literal) (points : ℤ) (clubs : List ℕ)
    → IsZoneLeft left → StandsFor left zone
    → length (fit_options left.sheet.now left.season.now zone points clubs)
    ≡ length left.sheet.now.fixtures
length-fit left zone points clubs is stands =
    let many = stands.matches.many in
    let same = is.many in
    length-options_where
    (λ match options score. list_all
    (is_fit left.sheet.now left.season.now zone points match options score) clubs)
    left.sheet.now.fixtures (options_in left.sheet.now left.season.now zone) (sym same ∙ many)
    ∙ sym many ∙ same

-- the fit scores of a fixture are those that are fit for the club
pub fit_is_left : (left : ZoneLeft) (zone : List Literal) (points : ℤ) (club k : ℕ)
    (match d : Fixture) (all : Range) (found : MatchLeft) → IsZoneLeft left → StandsFor left zone
    → k < length left.sheet.now.fixtures → match ≡ get_or left.sheet.now.fixtures k d
    → all ≡ range_in left.sheet.now left.season.now zone club
    → IsLeftOf found (fit_by all points club match
    (get_or (options_in left.sheet.now left.season.now zone) k []))
    → IsLeftOf found
    (get_or (fit_options left.sheet.now left.season.now zone points (club ∷ [])) k [])
fit_is_left left zone points club k match d all found is stands inside match_is all_is left_of =
    let options = options_in left.sheet.now left.season.now zone in
    let own = get_or options k [] in
    let many = stands.matches.many in
    let same = is.many in
    subst (λ (xs : List Score). IsLeftOf found xs)
    (sym (fit_at left.sheet.now left.season.now zone points (club ∷ []) k d inside
    (omega (arith, many, same))))
    (left_same found (is_fit_by all points club match own)
    (λ score. list_all (is_fit left.sheet.now left.season.now zone points
    (get_or left.sheet.now.fixtures k d) own score) (club ∷ [])) own
    (λ score.
    (λ i. is_fit_by (all_is i) points club (match_is i) own score)
    ∙ sym (and-true (is_fit_by (range_in left.sheet.now left.season.now zone club) points club
    (get_or left.sheet.now.fixtures k d) own score)))
    left_of)

-- what is fit for a list of clubs and for another is fit for both lists
pub joined_left : (left : ZoneLeft) (zone : List Literal) (points : ℤ) (club k : ℕ)
    (clubs : List ℕ) (d : Fixture) (first second found : MatchLeft) → IsZoneLeft left
    → StandsFor left zone → k < length left.sheet.now.fixtures
    → IsLeftOf first
    (get_or (fit_options left.sheet.now left.season.now zone points (club ∷ [])) k [])
    → IsLeftOf second
    (get_or (fit_options left.sheet.now left.season.now zone points clubs) k [])
    → ((score : Score) → is_score_left found score
    ≡ (is_score_left first score && is_score_left second score))
    → IsLeftOf found
    (get_or (fit_options left.sheet.now left.season.now zone points (club ∷ clubs)) k [])
joined_left left zone points club k clubs d first second found is stands inside one more shares =
    let sheet = left.sheet.now in
    let season = left.season.now in
    let own = get_or (options_in sheet season zone) k [] in
    let match = get_or sheet.fixtures k d in
    let test : Score → ℕ → Bool = is_fit sheet season zone points match own in
    let many = stands.matches.many in
    let same = is.many in
    let there : k < length (options_in sheet season zone) = omega (arith, many, same) in
    subst (λ (xs : List Score). IsLeftOf found xs)
    (sym (fit_at sheet season zone points (club ∷ clubs) k d inside there))
    (shared_left first second found (λ score. test score club)
    (λ score. list_all (test score) clubs)
    own
    (left_same first (λ score. list_all (test score) (club ∷ [])) (λ score. test score club) own
    (λ score. and-true (test score club))
    (subst (λ (xs : List Score). IsLeftOf first xs)
    (fit_at sheet season zone points (club ∷ []) k d inside there) one))
    (subst (λ (xs : List Score). IsLeftOf second xs)
    (fit_at sheet season zone points clubs k d inside there) more)
    shares)

-- all of a list from some place on
pub all_more : {X : Type 0} (test : X → Bool) (xs : List X) (i : ℕ) (d : X) → i < length xs
    → list_all test (drop i xs) ≡ (test (get_or xs i d) && list_all test (drop (i + 1) xs))
all_more test xs i d inside = ap (list_all test) (drop_more xs i d inside)

pub all_past : {X : Type 0} (test : X → Bool) (xs : List X) (i : ℕ) → length xs ≤ i
    → list_all test (drop i xs) ≡ true
all_past test xs i past = ap (list_all test) (drop_all i xs past)

-- a place without an option
pub none_there : (xs : List (List Score)) (i : ℕ)
    → list_all has_option xs ≡ list_all has_option (drop i xs) → i < length xs
    → has_option (get_or xs i []) ≡ false → list_all has_option xs ≡ false
none_there xs i so_far inside none =
    so_far ∙ all_more has_option xs i [] inside
    ∙ ap (λ b. b && list_all has_option (drop (i + 1) xs)) none

-- a place with one
pub some_there : (xs : List (List Score)) (i : ℕ)
    → list_all has_option xs ≡ list_all has_option (drop i xs) → i < length xs
    → has_option (get_or xs i []) ≡ true
    → list_all has_option xs ≡ list_all has_option (drop (i + 1) xs)
some_there xs i so_far inside some =
    so_far ∙ all_more has_option xs i [] inside
    ∙ ap (λ b. b && list_all has_option (drop (i + 1) xs)) some

-- no place is left
pub some_everywhere : (xs : List (List Score)) (i : ℕ)
    → list_all has_option xs ≡ list_all has_option (drop i xs) → length xs ≤ i
    → list_all has_option xs ≡ true
some_everywhere xs i so_far past = so_far ∙ all_past has_option xs i past

-- what is fit for two lists of clubs is fit for the whole of both
pub whole_left : (left : ZoneLeft) (zone : List Literal) (points : ℤ) (k : ℕ)
    (clubs more whole : List ℕ) (d : Fixture) (first second found : MatchLeft) → IsZoneLeft left
    → StandsFor left zone → k < length left.sheet.now.fixtures
    → ((test : ℕ → Bool) → (list_all test clubs && list_all test more) ≡ list_all test whole)
    → IsLeftOf first
    (get_or (fit_options left.sheet.now left.season.now zone points clubs) k [])
    → IsLeftOf second
    (get_or (fit_options left.sheet.now left.season.now zone points more) k [])
    → ((score : Score) → is_score_left found score
    ≡ (is_score_left first score && is_score_left second score))
    → IsLeftOf found
    (get_or (fit_options left.sheet.now left.season.now zone points whole) k [])
whole_left left zone points k clubs more whole d first second found is stands inside splits one
    other
    shares =
    let sheet = left.sheet.now in
    let season = left.season.now in
    let own = get_or (options_in sheet season zone) k [] in
    let match = get_or sheet.fixtures k d in
    let test : Score → ℕ → Bool = is_fit sheet season zone points match own in
    let many = stands.matches.many in
    let same = is.many in
    let there : k < length (options_in sheet season zone) = omega (arith, many, same) in
    subst (λ (xs : List Score). IsLeftOf found xs)
    (sym (fit_at sheet season zone points whole k d inside there))
    (left_same found (λ score. list_all (test score) clubs && list_all (test score) more)
    (λ score. list_all (test score) whole) own (λ score. splits (test score))
    (shared_left first second found (λ score. list_all (test score) clubs)
    (λ score. list_all (test score) more) own
    (subst (λ (xs : List Score). IsLeftOf first xs)
    (fit_at sheet season zone points clubs k d inside there) one)
    (subst (λ (xs : List Score). IsLeftOf second xs)
    (fit_at sheet season zone points more k d inside there) other)
    shares))

pub one_after_two : (first second third : Bool)
    → ((first && (second && true)) && (third && true)) ≡ (first && (second && (third && true)))
one_after_two true true third = refl
one_after_two true false third = refl
one_after_two false second third = refl
