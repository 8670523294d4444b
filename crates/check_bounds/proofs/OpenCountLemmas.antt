-- Counts of fixtures that do not pass a test: one fixture more, another answer at one place, and
-- that none fails exactly when all pass.
use Rattle.std.proofs.Common.{◌≡◌, ℕ, zero, suc, ◌+◌, ◌<◌, ◌≤◌, Bool, true, false, ◌&&◌, ◌==◌}
use Rattle.std.proofs.Common.{List, [], ◌∷◌, length, get_or, set, refl, ap, ◌∙◌, arith}
use Rattle.std.specs.List.{list_all}
use Rattle.std.proofs.lemmas.Bool.{ne_eqb}
use Rattle.league_core.specs.declared.season.Score.{Score}
use Rattle.league_core.specs.search.Options.{has_option, has_one_outcome}
use Rattle.check_bounds.specs.declared.open_counts.OpenCounts.{OpenCounts}
use Rattle.check_bounds.specs.inside.OpenCounts.{fails, failing, AreOpenCounts, AreExchanged}
use Rattle.check_bounds.specs.inside.OpenCounts.{IsAmong}

one_at_most : (passed : Bool) → fails passed ≤ 1
one_at_most true = omega arith
one_at_most false = omega arith

-- no more fail than there are
failing_few : (test : List Score → Bool) (corners : List (List Score))
    → failing test corners ≤ length corners
failing_few test [] = omega arith
failing_few test (own ∷ corners) =
    let rest = failing_few test corners in
    let here = one_at_most (test own) in
    omega (arith, rest, here)

-- each that fails is counted
failing-at : (test : List Score → Bool) (corners : List (List Score)) (k : ℕ)
    → k < length corners → fails (test (get_or corners k [])) ≤ failing test corners
failing-at test [] k inside = absurd (omega (arith, inside))
failing-at test (own ∷ corners) zero inside = omega arith
failing-at test (own ∷ corners) (suc k) inside =
    let rest = failing-at test corners k (omega (arith, inside)) in
    omega (arith, rest)

-- another answer at one place
failing-set : (test : List Score → Bool) (corners : List (List Score)) (k : ℕ)
    (new : List Score) → k < length corners
    → failing test (set corners k new) + fails (test (get_or corners k []))
    ≡ failing test corners + fails (test new)
failing-set test [] k new inside = absurd (omega (arith, inside))
failing-set test (own ∷ corners) zero new inside = omega arith
failing-set test (own ∷ corners) (suc k) new inside =
    let rest = failing-set test corners k new (omega (arith, inside)) in
    omega (arith, rest)

with_first : (passed : Bool) (count : ℕ) (rest : Bool) → (count == 0) ≡ rest
    → (fails passed + count == 0) ≡ (passed && rest)
with_first true count rest same =
    let e : 0 + count ≡ count = omega arith in ap (λ n. n == 0) e ∙ same
with_first false count rest same = ne_eqb (fails false + count) 0 (λ e. omega (arith, e))

-- none fails exactly when all pass
pub failing-none : (test : List Score → Bool) (corners : List (List Score))
    → (failing test corners == 0) ≡ list_all test corners
failing-none test [] = refl
failing-none test (own ∷ corners) =
    with_first (test own) (failing test corners) (list_all test corners)
    (failing-none test corners)

-- the extremes of each fixture are counted
pub is_among : (corners : List (List Score)) (loose : OpenCounts) (k : ℕ) → k < length corners
    → length corners ≤ 600 → AreOpenCounts corners loose → IsAmong (get_or corners k []) loose
is_among corners loose k inside few are =
    let scores = failing-at has_option corners k inside in
    let outcomes = failing-at has_one_outcome corners k inside in
    let all_scores = failing_few has_option corners in
    let all_outcomes = failing_few has_one_outcome corners in
    record {
      without_score = omega (arith, scores, are.without_score);
      undecided = omega (arith, outcomes, are.undecided);
      few = omega (arith, few, all_scores, are.without_score);
      few_outcomes = omega (arith, few, all_outcomes, are.undecided);
    }

-- counts that follow one fixture are those of the new extremes
pub loose_set : (corners : List (List Score)) (before after : OpenCounts) (k : ℕ)
    (new : List Score) → k < length corners → AreOpenCounts corners before
    → AreExchanged before (get_or corners k []) new after → AreOpenCounts (set corners k new) after
loose_set corners before after k new inside are is =
    let scores = failing-set has_option corners k new inside in
    let outcomes = failing-set has_one_outcome corners k new inside in
    record {
      without_score = omega (arith, scores, are.without_score, is.without_score);
      undecided = omega (arith, outcomes, are.undecided, is.undecided);
    }
