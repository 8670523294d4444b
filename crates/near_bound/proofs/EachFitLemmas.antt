-- A match with one score at most: if each of some clubs has a fit score there, it is this one.
use Rattle.std.proofs.Common.{◌≡◌, ℕ, ◌<◌, Bool, true, false, List, [], ◌∷◌, length}
use Rattle.std.proofs.Common.{get_or, cond, filter, Some, None, refl, sym, ap, ◌∙◌, subst}
use Rattle.std.proofs.Common.{arith}
use Rattle.std.specs.List.{list_all}
use Rattle.std.proofs.Math.Bool.{and-true, or-false}
use Rattle.std.proofs.lemmas.Bool.{false≢true, and_parts, and_from, or_right}
use Rattle.league_core.specs.declared.season.Score.{Score}
use Rattle.league_core.specs.declared.zone.Literal.{Literal}
use Rattle.league_core.specs.game.Finishes.{same_score}
use Rattle.league_core.specs.search.Options.{has_score, has_option, options_in, meets, options_of}
use Rattle.league_core.specs.search.Options.{has_finish}
use Rattle.league_core.proofs.OptionLemmas.{has_score-first, same_score-true}
use Rattle.league_core.proofs.LiteralLemmas.{options_at}
use Rattle.league_core.proofs.plain.Lists.{list_all-at}
use Rattle.near_laws.specs.Fits.{is_fit}
use Rattle.near_bound.specs.declared.match_left.MatchLeft.{MatchLeft}
use Rattle.near_bound.specs.declared.tie.Tie.{Tie}
use Rattle.near_bound.specs.inside.MatchesLeft.{IsLeftOf, LeavesOneAtMost}
use Rattle.near_bound.specs.inside.Ties.{IsTie, IsTieIn, fits_of}
use Rattle.near_bound.specs.inside.PairLeads.{HaveEach, IsFitForEach}
use Rattle.near_bound.proofs.FitLeftLemmas.{has_score-filter, fit_at}
use Rattle.near_bound.proofs.CommonFitLemmas.{some_fit, some_score}

-- no score
abbrev pub nothing_left : MatchLeft
nothing_left = record {
  home_win = false;
  draw = false;
  away_win = false;
  home_least = 0;
  home_most = 0;
  away_least = 0;
  away_most = 0;
}

-- the options of a fixture in the zone
abbrev pub own_of : Tie → List Literal → ℕ → List Score
own_of tie zone k =
    get_or (options_in tie.left.now.sheet.now tie.left.now.season.now zone) k []

-- whether a score of a fixture is fit for a club
abbrev pub fit_here : Tie → List Literal → ℕ → Score → ℕ → Bool
fit_here tie zone k score =
    is_fit tie.left.now.sheet.now tie.left.now.season.now zone tie.points
    (get_or tie.left.now.sheet.now.fixtures k (record { home = 0; away = 0 })) (own_of tie zone k)
    score

long_enough : (tie : Tie) (zone : List Literal) (k : ℕ) → IsTie tie → IsTieIn tie zone
    → k < length tie.left.now.sheet.now.fixtures
    → k < length (options_in tie.left.now.sheet.now tie.left.now.season.now zone)
long_enough tie zone k of_tie is inside =
    let many = is.stands.matches.many in
    let same = of_tie.left.many in
    omega (arith, inside, many, same)

-- the fit scores of a fixture
pub fits_here : (tie : Tie) (zone : List Literal) (clubs : List ℕ) (k : ℕ) → IsTie tie
    → IsTieIn tie zone → k < length tie.left.now.sheet.now.fixtures
    → get_or (fits_of tie zone clubs) k []
    ≡ filter (λ score. list_all (fit_here tie zone k score) clubs) (own_of tie zone k)
fits_here tie zone clubs k of_tie is inside =
    fit_at tie.left.now.sheet.now tie.left.now.season.now zone tie.points clubs k
    (record { home = 0; away = 0 }) inside (long_enough tie zone k of_tie is inside)

-- an option that no other differs from is fit for each of the clubs
pub each_fits : (tie : Tie) (zone : List Literal) (clubs : List ℕ) (k : ℕ) (score : Score)
    → IsTie tie → IsTieIn tie zone → k < length tie.left.now.sheet.now.fixtures
    → ((other : Score) → has_score (own_of tie zone k) other ≡ true → other ≡ score)
    → HaveEach tie zone clubs → list_all (fit_here tie zone k score) clubs ≡ true
each_fits tie zone [] k score of_tie is inside same have = refl
each_fits tie zone (club ∷ clubs) k score of_tie is inside same have =
    let own = own_of tie zone k in
    let alone : Score → Bool = λ s. list_all (fit_here tie zone k s) (club ∷ []) in
    let found = some_score (filter alone own)
    (sym (ap has_option (fits_here tie zone (club ∷ []) k of_tie is inside))
    ∙ some_fit tie.left.now zone tie.points (club ∷ []) k of_tie.left is.stands inside have.0) in
    let parts = and_parts (has_score own found.0) (alone found.0)
    (sym (has_score-filter alone own found.0) ∙ found.1) in
    and_from (fit_here tie zone k score club) (list_all (fit_here tie zone k score) clubs)
    (sym (and-true (fit_here tie zone k score club))
    ∙ ap alone (sym (same found.0 parts.0)) ∙ parts.1)
    (each_fits tie zone clubs k score of_tie is inside same have.1)

-- a test that all options pass keeps them
filter_whole : (test : Score → Bool) (options : List Score)
    → ((score : Score) → has_score options score ≡ true → test score ≡ true)
    → filter test options ≡ options
filter_whole test [] each = refl
filter_whole test (first ∷ options) each =
    ap (λ b. cond b (first ∷ filter test options) (filter test options))
    (each first (has_score-first first options))
    ∙ ap (λ xs. first ∷ xs)
    (filter_whole test options
    (λ score has. each score (or_right (same_score score first) (has_score options score) has)))

-- in a match with one score at most all that is left is fit for each of them
pub one_fits_all : (tie : Tie) (zone : List Literal) (clubs : List ℕ) (k : ℕ) (d : MatchLeft)
    → IsTie tie → IsTieIn tie zone → k < length tie.left.now.sheet.now.fixtures
    → LeavesOneAtMost (get_or tie.left.now.matches.now k d) → HaveEach tie zone clubs
    → get_or (fits_of tie zone clubs) k [] ≡ own_of tie zone k
one_fits_all tie zone clubs k d of_tie is inside one have =
    fits_here tie zone clubs k of_tie is inside
    ∙ filter_whole (λ s. list_all (fit_here tie zone k s) clubs) (own_of tie zone k)
    (λ score has.
    each_fits tie zone clubs k score of_tie is inside
    (λ other also. one other score (left_of other ∙ also) (left_of score ∙ has)) have)
  where
    left_of : IsLeftOf (get_or tie.left.now.matches.now k d) (own_of tie zone k)
    left_of = is.stands.matches.each k d (omega (arith, inside, of_tie.left.many))

pub one_fits_each : (tie : Tie) (clubs : List ℕ) (k : ℕ) (d : MatchLeft) → IsTie tie
    → k < length tie.left.now.sheet.now.fixtures
    → LeavesOneAtMost (get_or tie.left.now.matches.now k d)
    → IsFitForEach tie k clubs (get_or tie.left.now.matches.now k d)
one_fits_each tie clubs k d of_tie inside one = λ zone is have.
    subst (λ (xs : List Score). IsLeftOf (get_or tie.left.now.matches.now k d) xs)
    (sym (one_fits_all tie zone clubs k d of_tie is inside one have))
    (is.stands.matches.each k d (omega (arith, inside, of_tie.left.many)))

-- ---- a match with a result

one_kept : (test : Score → Bool) (score : Score) → has_option (filter test (score ∷ [])) ≡ true
    → filter test (score ∷ []) ≡ score ∷ []
one_kept test score = by (test score)
  where
    by : (b : Bool) → has_option (cond b (score ∷ []) []) ≡ true
        → cond b (score ∷ []) [] ≡ score ∷ []
    by true some = refl
    by false some = absurd (false≢true some)

each_has : (tie : Tie) (zone : List Literal) → IsTieIn tie zone
    → list_all has_option (options_in tie.left.now.sheet.now tie.left.now.season.now zone) ≡ true
unfolding has_finish
each_has tie zone is = is.finish

-- its only option is the result
own_played : (tie : Tie) (zone : List Literal) (k : ℕ) (score : Score) → IsTie tie
    → IsTieIn tie zone → k < length tie.left.now.sheet.now.fixtures
    → get_or tie.left.now.season.now.scores k None ≡ Some score → own_of tie zone k ≡ score ∷ []
own_played tie zone k score of_tie is inside played =
    let sheet = tie.left.now.sheet.now in
    let season = tie.left.now.season.now in
    let there = long_enough tie zone k of_tie is inside in
    let here = options_at sheet.goal_limit zone season.scores k
    (omega (arith, inside, of_tie.left.league.of_sheet.scores))
    ∙ ap (options_of sheet.goal_limit zone k) played in
    here
    ∙ one_kept (meets zone k) score
    (sym (ap has_option here)
    ∙ list_all-at has_option (options_in sheet season zone) k [] there (each_has tie zone is))

-- and this is fit for clubs that have fit scores
pub played_fits : (tie : Tie) (zone : List Literal) (clubs : List ℕ) (k : ℕ) (score : Score)
    → IsTie tie → IsTieIn tie zone → HaveEach tie zone clubs
    → k < length tie.left.now.sheet.now.fixtures
    → get_or tie.left.now.season.now.scores k None ≡ Some score
    → get_or (fits_of tie zone clubs) k [] ≡ score ∷ []
played_fits tie zone clubs k score of_tie is have inside played =
    let own = own_played tie zone k score of_tie is inside played in
    let test : Score → Bool = λ s. list_all (fit_here tie zone k s) clubs in
    fits_here tie zone clubs k of_tie is inside
    ∙ ap (filter test) own
    ∙ ap (λ b. cond b (score ∷ []) [])
    (each_fits tie zone clubs k score of_tie is inside
    (λ other has.
    same_score-true other score
    (sym (or-false (same_score other score))
    ∙ sym (ap (λ (xs : List Score). has_score xs other) own) ∙ has))
    have)
