-- A season whose matches that are not played end without goals.
use Rattle.std.proofs.Common.{◌≡◌, ◌<◌, ◌≤◌, ℕ, zero, suc, ◌+◌, List, [], ◌∷◌, ◌++◌, length, map}
use Rattle.std.proofs.Common.{take, drop, Option, Some, None, refl, sym, ap, subst, ◌∙◌, arith}
use Rattle.std.proofs.Common.{slice_index_or}
use Rattle.std.specs.Prelude.{slice_set}
use Rattle.std.specs.Option.{unwrap_or}
use Rattle.league_core.specs.declared.sheet.Sheet.{Sheet}
use Rattle.league_core.specs.declared.season.Score.{Score}
use Rattle.league_core.specs.game.Results.{Results}
use Rattle.league_core.specs.game.Finishes.{IsFinishOf}
use Rattle.league_core.proofs.FinishLemmas.{ended_of, may_all_end-ended}

-- the first matches, so many, are ended
abbrev pub ended_to : ℕ → Results → Results
ended_to count season =
    record season { scores = map ended_of (take count season.scores) ++ drop count season.scores }

-- one match more
next_scores : (scores : List (Option Score)) (k : ℕ) → k < length scores
    → slice_set (map ended_of (take k scores) ++ drop k scores) k
    (ended_of (slice_index_or scores k None))
    ≡ map ended_of (take (suc k) scores) ++ drop (suc k) scores
next_scores [] k below = absurd (omega (arith, below))
next_scores (score ∷ scores) zero below = refl
next_scores (score ∷ scores) (suc k) below =
    ap (λ rest. ended_of score ∷ rest) (next_scores scores k (omega (arith, below)))

pub ended_to-next : (season finish : Results) (k : ℕ) → k < length season.scores
    → finish ≡ record (ended_to k season) {
      scores = slice_set (ended_to k season).scores k
          (ended_of (slice_index_or season.scores k None));
    }
    → finish ≡ ended_to (k + 1) season
ended_to-next season finish k below is =
    let next : suc k ≡ k + 1 = omega arith in
    is ∙ ap (λ scores. record season { scores = scores })
    (next_scores season.scores k below
    ∙ ap (λ n. map ended_of (take n season.scores) ++ drop n season.scores) next)

-- as many matches as before
length_ended : (scores : List (Option Score)) (k : ℕ)
    → length (map ended_of (take k scores) ++ drop k scores) ≡ length scores
length_ended [] zero = refl
length_ended [] (suc k) = refl
length_ended (score ∷ scores) zero = refl
length_ended (score ∷ scores) (suc k) = ap suc (length_ended scores k)

pub length-ended_to : (season : Results) (k : ℕ)
    → length (ended_to k season).scores ≡ length season.scores
length-ended_to season k = length_ended season.scores k

-- all of them
all_scores : (scores : List (Option Score)) (k : ℕ) → length scores ≤ k
    → map ended_of (take k scores) ++ drop k scores ≡ map ended_of scores
all_scores [] zero all = refl
all_scores [] (suc k) all = refl
all_scores (score ∷ scores) zero all = absurd (omega (arith, all))
all_scores (score ∷ scores) (suc k) all =
    ap (λ rest. ended_of score ∷ rest) (all_scores scores k (omega (arith, all)))

pub ended_to-all : (sheet : Sheet) (season finish : Results) (k : ℕ) → length season.scores ≤ k
    → finish ≡ ended_to k season → IsFinishOf sheet season finish
ended_to-all sheet season finish k all is =
    subst (IsFinishOf sheet season) (sym (is ∙ ap (λ scores. record season { scores = scores })
    (all_scores season.scores k all)))
    (record { deductions = refl; scores = may_all_end-ended sheet.goal_limit season.scores })

-- the score that a match has, or none
pub some_ended : (known : Option Score)
    → Some (unwrap_or known (record { home = 0; away = 0 })) ≡ ended_of known
some_ended None = refl
some_ended (Some score) = refl
