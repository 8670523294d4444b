-- What is left of a match once the scores that are not fit for a club are taken away.
use Rattle.std.proofs.Common.{◌≡◌, ℕ, zero, suc, ℤ, pos, ◌+ℤ◌, ◌<◌, ◌≢◌, Bool, true, false, ◌&&◌}
use Rattle.std.proofs.Common.{◌||◌, cond, nat_lt, ◌==◌, List, [], ◌∷◌, length, get_or, filter, refl}
use Rattle.std.proofs.Common.{Option, Some, None, MatchOption, is_some}
use Rattle.std.proofs.Common.{sym, ap, ◌∙◌, eq-eqb, arith}
use Rattle.std.specs.List.{list_all, list_any}
use Rattle.std.proofs.lemmas.Bool.{ne_eqb, false≢true}
use Rattle.std.proofs.lemmas.Bool.Decides.{nat_tests}
use Rattle.league_core.specs.declared.sheet.Sheet.{Sheet}
use Rattle.league_core.specs.declared.sheet.Fixture.{Fixture}
use Rattle.league_core.specs.declared.season.Score.{Score}
use Rattle.league_core.specs.declared.zone.Literal.{Literal}
use Rattle.league_core.specs.game.Results.{Results}
use Rattle.league_core.specs.game.Finishes.{same_score}
use Rattle.league_core.specs.game.Sums.{match_points}
use Rattle.league_core.specs.search.Options.{has_score, has_option, options_in}
use Rattle.league_core.specs.search.PointRanges.{Range, range_of, points_together}
use Rattle.league_core.proofs.OptionLemmas.{same_score-true}
use Rattle.near_laws.specs.Fits.{can_reach, is_fit, options_where, fit_options}
use Rattle.near_bound.specs.declared.match_left.MatchLeft.{MatchLeft}
use Rattle.near_bound.specs.inside.MatchesLeft.{is_score_left, IsLeftOf, IsNothing, IsWorstFor}
use Rattle.near_bound.proofs.LeastLemmas.{some_option}
use Rattle.near_bound.proofs.PointLemmas.{no_options}
use Rattle.near_bound.specs.inside.Points.{by_outcome, is_fit_by}

-- ---- filtered options

one_more_kept : (here same keeps has passes : Bool) → (same ≡ true → keeps ≡ passes)
    → here ≡ (has && passes)
    → cond keeps (same || here) here ≡ ((same || has) && passes)
one_more_kept here true true has true says is = refl
one_more_kept here true true has false says is = absurd (false≢true (sym (says refl)))
one_more_kept here true false has true says is = absurd (false≢true (says refl))
one_more_kept here true false true false says is = is
one_more_kept here true false false false says is = is
one_more_kept here false true has passes says is = is
one_more_kept here false false has passes says is = is

cond_any : (p : Score → Bool) (b : Bool) (first : Score) (rest : List Score)
    → list_any p (cond b (first ∷ rest) rest) ≡ cond b (p first || list_any p rest)
    (list_any p rest)
cond_any p true first rest = refl
cond_any p false first rest = refl

pub has_score-filter : (test : Score → Bool) (options : List Score) (score : Score)
    → has_score (filter test options) score ≡ (has_score options score && test score)
has_score-filter test [] score = refl
has_score-filter test (first ∷ options) score =
    cond_any (same_score score) (test first) first (filter test options)
    ∙ one_more_kept (has_score (filter test options) score) (same_score score first) (test first)
    (has_score options score) (test score)
    (λ same. ap test (sym (same_score-true score first same)))
    (has_score-filter test options score)

-- two tests that say the same keep the same
pub left_same : (left : MatchLeft) (test other : Score → Bool) (options : List Score)
    → ((score : Score) → test score ≡ other score) → IsLeftOf left (filter test options)
    → IsLeftOf left (filter other options)
left_same left test other options same left_of score =
    left_of score
    ∙ has_score-filter test options score
    ∙ ap (λ b. has_score options score && b) (same score)
    ∙ sym (has_score-filter other options score)

-- outcomes that are kept by a test
pub kept_left : (left kept : MatchLeft) (test : Score → Bool) (home_win draw away_win : Bool)
    (options : List Score) → IsLeftOf left options
    → ((score : Score) → is_score_left kept score
    ≡ (is_score_left left score && by_outcome home_win draw away_win score))
    → ((score : Score) → by_outcome home_win draw away_win score ≡ test score)
    → IsLeftOf kept (filter test options)
kept_left left kept test home_win draw away_win options left_of keeps same score =
    keeps score
    ∙ ap (λ b. b && by_outcome home_win draw away_win score) (left_of score)
    ∙ ap (λ b. has_score options score && b) (same score)
    ∙ sym (has_score-filter test options score)

-- what is left by both of two tests
both_kept : (has first second : Bool)
    → ((has && first) && (has && second)) ≡ (has && (first && second))
both_kept true first second = refl
both_kept false first second = refl

pub shared_left : (left other both : MatchLeft) (test second : Score → Bool) (options : List Score)
    → IsLeftOf left (filter test options) → IsLeftOf other (filter second options)
    → ((score : Score) → is_score_left both score
    ≡ (is_score_left left score && is_score_left other score))
    → IsLeftOf both (filter (λ score. test score && second score) options)
shared_left left other both test second options left_of other_of shares score =
    shares score
    ∙ (λ i. left_of score i && other_of score i)
    ∙ (λ i. has_score-filter test options score i && has_score-filter second options score i)
    ∙ both_kept (has_score options score) (test score) (second score)
    ∙ sym (has_score-filter (λ s. test s && second s) options score)

-- whether a score is left, by the worst one
pub some_left : (left : MatchLeft) (options : List Score) (found : Option Score)
    → MatchOption found (IsNothing left) (IsWorstFor left false false) → IsLeftOf left options
    → is_some found ≡ has_option options
some_left left options None nothing left_of =
    ap has_option (sym (no_options options (λ score. sym (left_of score) ∙ nothing score)))
some_left left options (Some worst) is left_of =
    sym (some_option options worst (sym (left_of worst) ∙ is.is_left))

-- the outcome and the goals, or the goals and the outcome
pub in_order : (left goals outcome : Bool)
    → ((left && outcome) && goals) ≡ (left && (goals && outcome))
in_order left goals outcome = grind (arith)

-- ---- which outcomes are fit

by_points : (answer : ℤ → Bool) (won drawn : Bool)
    → cond won (answer (pos 3)) (cond drawn (answer (pos 1)) (answer (pos 0)))
    ≡ answer (cond won (pos 3) (cond drawn (pos 1) (pos 0)) +ℤ pos 0)
by_points answer true drawn = refl
by_points answer false true = refl
by_points answer false false = refl

turned_outcome : (home away : ℕ) (first second third : Bool)
    → cond (nat_lt away home) first (cond (home == away) second third)
    ≡ cond (nat_lt home away) third (cond (away == home) second first)
turned_outcome home away first second third = grind (arith, nat_tests)

pub one_answer : (answer : Bool) (first second : Bool)
    → cond first answer (cond second answer answer)
    ≡ answer
one_answer answer true second = refl
one_answer answer false true = refl
one_answer answer false false = refl

abbrev pub answer_at : Range → Range → ℤ → ℤ → Bool
answer_at all here points given = can_reach all here given points

-- the answers of the outcomes are those of the points that they give the club
pub home_fit : (all here : Range) (points : ℤ) (club : ℕ) (match : Fixture) (options : List Score)
    (score : Score) → match.home ≡ club
    → here ≡ range_of (points_together (club ∷ []) match) options
    → by_outcome (can_reach all here (pos 3) points) (can_reach all here (pos 1) points)
    (can_reach all here (pos 0) points) score ≡ is_fit_by all points club match options score
home_fit all here points club match options score home is =
    by_points (answer_at all here points) (nat_lt score.away score.home) (score.home == score.away)
    ∙ ap (λ b. answer_at all here points (cond b (match_points score.home score.away false)
    (cond (match.away == club) (match_points score.away score.home true) (pos 0)) +ℤ pos 0))
    (sym (eq-eqb match.home club home))
    ∙ ap (λ (r : Range). answer_at all r points (points_together (club ∷ []) match score)) is

pub away_fit : (all here : Range) (points : ℤ) (club : ℕ) (match : Fixture) (options : List Score)
    (score : Score) → match.home ≢ club → match.away ≡ club
    → here ≡ range_of (points_together (club ∷ []) match) options
    → by_outcome (can_reach all here (pos 0) points) (can_reach all here (pos 1) points)
    (can_reach all here (pos 3) points) score ≡ is_fit_by all points club match options score
away_fit all here points club match options score not_home away is =
    turned_outcome score.home score.away (can_reach all here (pos 0) points)
    (can_reach all here (pos 1) points) (can_reach all here (pos 3) points)
    ∙ by_points (answer_at all here points) (nat_lt score.home score.away)
    (score.away == score.home)
    ∙ ap (λ b. answer_at all here points (cond b (match_points score.away score.home true) (pos 0)
    +ℤ pos 0)) (sym (eq-eqb match.away club away))
    ∙ ap (λ b. answer_at all here points (cond b (match_points score.home score.away false)
    (cond (match.away == club) (match_points score.away score.home true) (pos 0)) +ℤ pos 0))
    (sym (ne_eqb match.home club not_home))
    ∙ ap (λ (r : Range). answer_at all r points (points_together (club ∷ []) match score)) is

pub other_fit : (all here : Range) (points : ℤ) (club : ℕ) (match : Fixture) (options : List Score)
    (score : Score) → match.home ≢ club → match.away ≢ club
    → here ≡ range_of (points_together (club ∷ []) match) options
    → by_outcome (can_reach all here (pos 0) points) (can_reach all here (pos 0) points)
    (can_reach all here (pos 0) points) score ≡ is_fit_by all points club match options score
other_fit all here points club match options score not_home not_away is =
    one_answer (can_reach all here (pos 0) points) (nat_lt score.away score.home)
    (score.home == score.away)
    ∙ ap (λ b. answer_at all here points (cond b (match_points score.away score.home true) (pos 0)
    +ℤ pos 0)) (sym (ne_eqb match.away club not_away))
    ∙ ap (λ b. answer_at all here points (cond b (match_points score.home score.away false)
    (cond (match.away == club) (match_points score.away score.home true) (pos 0)) +ℤ pos 0))
    (sym (ne_eqb match.home club not_home))
    ∙ ap (λ (r : Range). answer_at all r points (points_together (club ∷ []) match score)) is

-- ---- one fixture of all

options_where-at : (test : Fixture → List Score → Score → Bool) (matches : List Fixture)
    (options : List (List Score)) (k : ℕ) (d : Fixture) → k < length matches → k < length options
    → get_or (options_where test matches options) k []
    ≡ filter (test (get_or matches k d) (get_or options k [])) (get_or options k [])
options_where-at test [] options k d inside there = absurd (omega arith)
options_where-at test (match ∷ matches) [] k d inside there = absurd (omega arith)
options_where-at test (match ∷ matches) (own ∷ options) zero d inside there = refl
options_where-at test (match ∷ matches) (own ∷ options) (suc k) d inside there =
    options_where-at test matches options k d (omega arith) (omega arith)

-- the fit options of a fixture
pub fit_at : (sheet : Sheet) (season : Results) (zone : List Literal) (points : ℤ) (clubs : List ℕ)
    (k : ℕ) (d : Fixture) → k < length sheet.fixtures → k < length (options_in sheet season zone)
    → get_or (fit_options sheet season zone points clubs) k []
    ≡ filter (λ score. list_all (is_fit sheet season zone points (get_or sheet.fixtures k d)
    (get_or (options_in sheet season zone) k []) score) clubs)
    (get_or (options_in sheet season zone) k [])
fit_at sheet season zone points clubs k d inside there =
    options_where-at
    (λ match options score. list_all (is_fit sheet season zone points match options score) clubs)
    sheet.fixtures (options_in sheet season zone) k d inside there
