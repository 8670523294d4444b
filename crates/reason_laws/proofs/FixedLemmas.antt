-- If the options of each fixture are alike, a sum has one value: points if they have one outcome,
-- every sum if each fixture has one option.
use Rattle.std.proofs.Common.{◌≡◌, ℕ, ℤ, pos, ◌+ℤ◌, Bool, true, false, ◌==◌, cond, List, [], ◌∷◌}
use Rattle.std.proofs.Common.{refl, sym, ap, ◌∙◌, subst, inl, inr, arith}
use Rattle.std.specs.List.{list_all}
use Rattle.std.proofs.lemmas.Int.{ints}
use Rattle.std.proofs.lemmas.Bool.{false≢true, and_parts, or_cases}
use Rattle.league_core.specs.declared.sheet.Fixture.{Fixture}
use Rattle.league_core.specs.declared.season.Score.{Score}
use Rattle.league_core.specs.game.Finishes.{same_score}
use Rattle.league_core.specs.game.Sums.{match_points, worth_to}
use Rattle.league_core.specs.search.Options.{has_score, same_outcome, has_one_score}
use Rattle.league_core.specs.search.Options.{has_one_outcome}
use Rattle.league_core.specs.search.PointRanges.{range_of, range_from, points_together}
use Rattle.league_core.proofs.OptionLemmas.{same_score-true}
use Rattle.league_core.proofs.OutcomeLemmas.{one_of_three, same_outcome-itself}
use Rattle.league_core.proofs.WorthLemmas.{sides_at_win, sides_at_draw, sides_at_loss}
use Rattle.league_core.proofs.PointRangeLemmas.{least_reached, greatest_reached}
use Rattle.league_core.proofs.plain.Lists.{list_all-weaker}

-- the options have one value
abbrev pub AreAlike : (Score → ℤ) → List Score → Type 0
AreAlike value options =
    (score other : Score) → has_score options score ≡ true → has_score options other ≡ true
    → value score ≡ value other

range_of-alike : (value : Score → ℤ) (options : List Score) → AreAlike value options
    → (range_of value options).least ≡ (range_of value options).greatest
range_of-alike value [] alike = refl
range_of-alike value (first ∷ options) alike =
    let low = least_reached value (first ∷ options) refl in
    let high = greatest_reached value (first ∷ options) refl in
    sym low.2 ∙ alike low.0 high.0 low.1 high.1 ∙ high.2

-- so a sum over fixtures whose options pass such a test has one value
pub range_from-alike : (value : Fixture → Score → ℤ) (test : List Score → Bool)
    (matches : List Fixture) (options : List (List Score))
    → ((match : Fixture) (scores : List Score) → test scores ≡ true
    → AreAlike (value match) scores) → list_all test options ≡ true
    → (range_from value matches options).least ≡ (range_from value matches options).greatest
range_from-alike value test [] options alike all = refl
range_from-alike value test (match ∷ matches) [] alike all = refl
range_from-alike value test (match ∷ matches) (scores ∷ options) alike all =
    let parts = and_parts (test scores) (list_all test options) all in
    let here = range_of-alike (value match) scores (alike match scores parts.0) in
    let rest = range_from-alike value test matches options alike parts.1 in
    omega (arith, ints)

-- what each other option has in common with the first, all options have
pub all_alike : {A : Type 0} (value : Score → A) (test : Score → Score → Bool) (first : Score)
    (options : List Score)
    → ((other : Score) → test first other ≡ true → value first ≡ value other)
    → list_all (test first) options ≡ true → (score : Score)
    → has_score (first ∷ options) score ≡ true → value first ≡ value score
all_alike value test first options alike all score is =
    elim (or_cases (same_score score first) (has_score options score) is) as (λ _. value first
    ≡ value score) [
      | inl same ↦ ap value (sym (same_score-true score first same))
      | inr later ↦ among options all later
    ]
  where
    among : (others : List Score) → list_all (test first) others ≡ true
        → has_score others score ≡ true → value first ≡ value score
    among [] every later = absurd (false≢true later)
    among (other ∷ others) every later =
        let parts = and_parts (test first other) (list_all (test first) others) every in
        elim (or_cases (same_score score other)
        (has_score others score) later) as (λ _. value first ≡ value score) [
          | inl same ↦ alike other parts.0 ∙ ap value (sym (same_score-true score other same))
          | inr further ↦ among others parts.1 further
        ]

-- one option has one value
pub scores_alike : (value : Score → ℤ) (options : List Score) → has_one_score options ≡ true
    → AreAlike value options
scores_alike value [] one score other is is_other = absurd (false≢true one)
scores_alike value (first ∷ options) one score other is is_other =
    let each = all_alike value same_score first options (λ third same. ap value
    (same_score-true first third same)) one in
    sym (each score is) ∙ each other is_other

-- the points of a match are those of its outcome
abbrev SamePoints : Score → Score → Type 0
SamePoints score other =
    (match_points score.home score.away false ≡ match_points other.home other.away false)
    × (match_points score.away score.home true ≡ match_points other.away other.home true)

points_by_outcome : (score other : Score) → same_outcome score other ≡ true → SamePoints score other
points_by_outcome score other same =
    one_of_three {P = SamePoints score other} score other same
    (λ mine theirs. let here = sides_at_win score mine in
    let there = sides_at_win other theirs in (here.0 ∙ sym there.0, here.1 ∙ sym there.1))
    (λ mine theirs. let here = sides_at_draw score mine in
    let there = sides_at_draw other theirs in (here.0 ∙ sym there.0, here.1 ∙ sym there.1))
    (λ mine theirs. let here = sides_at_loss score mine in
    let there = sides_at_loss other theirs in (here.0 ∙ sym there.0, here.1 ∙ sym there.1))

worth_by_outcome : (club : ℕ) (match : Fixture) (score other : Score) → SamePoints score other
    → worth_to match_points club match score ≡ worth_to match_points club match other
worth_by_outcome club match score other same =
    ap (λ (n : ℤ). cond (match.home == club) n
    (cond (match.away == club) (match_points score.away score.home true) (pos 0))) same.0
    ∙ ap (λ (n : ℤ). cond (match.home == club) (match_points other.home other.away false)
    (cond (match.away == club) n (pos 0))) same.1

-- one outcome gives a club one number of points
pub points_alike : (club : ℕ) (match : Fixture) (options : List Score)
    → has_one_outcome options ≡ true → AreAlike (points_together (club ∷ []) match) options
points_alike club match [] one score other is is_other = absurd (false≢true is)
points_alike club match (first ∷ options) one score other is is_other =
    let value = points_together (club ∷ []) match in
    let each = all_alike value same_outcome first options
    (λ third same. ap (λ (n : ℤ). n +ℤ pos 0)
    (worth_by_outcome club match first third (points_by_outcome first third same))) one in
    sym (each score is) ∙ each other is_other

-- one option has one outcome
pub one_score-outcome : (options : List Score) → has_one_score options ≡ true
    → has_one_outcome options ≡ true
one_score-outcome [] one = refl
one_score-outcome (first ∷ options) one =
    list_all-weaker (same_score first) (same_outcome first) options
    (λ other same.
    subst (λ (x : Score). same_outcome first x ≡ true) (same_score-true first other same)
    (same_outcome-itself first)) one
