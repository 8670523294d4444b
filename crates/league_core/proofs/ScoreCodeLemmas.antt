-- Codes of scores: scores that may be have one code only if they are one, and codes stay in step
-- with the scores.
use Rattle.std.proofs.Common.{◌≡◌, ℕ, zero, suc, ◌≤◌, true, List, [], ◌∷◌, map, set, replicate}
use Rattle.std.proofs.Common.{Option, Some, None, sym, ap, refl, ◌∙◌, arith, leb}
use Rattle.std.specs.List.{list_all}
use Rattle.std.proofs.lemmas.List.{map-set}
use Rattle.std.proofs.lemmas.Bool.{leb-true, and_parts}
use Rattle.league_core.specs.declared.season.Score.{Score}
use Rattle.league_core.specs.game.Results.{Results, is_score, is_score_or_none, are_results}
use Rattle.league_core.specs.inside.ScoreCodes.{score_code}

-- the goals of a score that may be are below 100
goals_below : (score : Score) → is_score score ≡ true → (score.home ≤ 99) × (score.away ≤ 99)
goals_below score may_be =
    let parts = and_parts (leb score.home 99) (leb score.away 99) may_be in
    (leb-true score.home 99 parts.0, leb-true score.away 99 parts.1)

-- one code, one score
pub code_names_score : (a b : Option Score) → is_score_or_none a ≡ true → is_score_or_none b ≡ true
    → score_code a ≡ score_code b → a ≡ b
code_names_score None None a_may b_may same = refl
code_names_score None (Some score) a_may b_may same =
    let goals = goals_below score b_may in
    absurd (omega (arith, same, goals))
code_names_score (Some score) None a_may b_may same =
    let goals = goals_below score a_may in
    absurd (omega (arith, same, goals))
code_names_score (Some score) (Some other) a_may b_may same =
    let goals = goals_below score a_may in
    let others = goals_below other b_may in
    let home : score.home ≡ other.home = omega (arith, same, goals, others) in
    let away : score.away ≡ other.away = omega (arith, same, goals, others) in
    λ i. Some (record { home = home i; away = away i })

-- the same codes, the same scores
pub codes_name_scores : (scores others : List (Option Score))
    → list_all is_score_or_none scores ≡ true → list_all is_score_or_none others ≡ true
    → map score_code scores ≡ map score_code others → scores ≡ others
codes_name_scores [] [] all all' same = refl
codes_name_scores [] (y ∷ ys) all all' same = cc
codes_name_scores (x ∷ xs) [] all all' same = cc
codes_name_scores (x ∷ xs) (y ∷ ys) all all' same =
    let here = and_parts (is_score_or_none x) (list_all is_score_or_none xs) all in
    let there = and_parts (is_score_or_none y) (list_all is_score_or_none ys) all' in
    let head : x ≡ y = code_names_score x y here.0 there.0 cc in
    let tail : xs ≡ ys = codes_name_scores xs ys here.1 there.1 cc in
    λ i. head i ∷ tail i

-- seasons with the same codes and deductions are one
pub codes_name_results : (season other : Results) → are_results season ≡ true
    → are_results other ≡ true → map score_code season.scores ≡ map score_code other.scores
    → season.deductions ≡ other.deductions → season ≡ other
codes_name_results season other may_be may_be' codes deductions =
    let scores = codes_name_scores season.scores other.scores (and_parts _ _ may_be).0
    (and_parts _ _ may_be').0 codes in
    λ i. record { scores = scores i; deductions = deductions i }

-- the code of a score that is written stands in the score's place
pub codes-set : (scores : List (Option Score)) (codes : List ℕ) (fixture : ℕ)
    (score : Option Score) (code : ℕ) → codes ≡ map score_code scores → code ≡ score_code score
    → set codes fixture code ≡ map score_code (set scores fixture score)
codes-set scores codes fixture score code in_step here =
    ap (λ cs. set cs fixture code) in_step
    ∙ ap (set (map score_code scores) fixture) here
    ∙ sym (map-set score_code scores fixture score)

-- if nothing is played each code is that of none
pub codes-unplayed : (scores : List (Option Score)) (codes : List ℕ) (fixtures code : ℕ)
    → scores ≡ replicate fixtures None → codes ≡ replicate fixtures code → code ≡ score_code None
    → codes ≡ map score_code scores
codes-unplayed scores codes fixtures code none all here =
    all ∙ ap (replicate fixtures) here ∙ each fixtures ∙ ap (map score_code) (sym none)
  where
    each : (fixtures : ℕ)
        → replicate fixtures (score_code None) ≡ map score_code (replicate fixtures None)
    each zero = refl
    each (suc n) = ap (λ rest. score_code None ∷ rest) (each n)
