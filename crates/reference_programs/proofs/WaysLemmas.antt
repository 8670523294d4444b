-- In how many ways the first fixtures of a season may end.
use Rattle.std.proofs.Common.{◌≡◌, ℕ, zero, suc, ◌+◌, ◌*◌, ◌<◌, ◌≤◌, List, [], ◌∷◌, length, get_or}
use Rattle.std.proofs.Common.{take, Option, None, ap, ◌∙◌, arith}
use Rattle.std.proofs.Math.Nat.{mul-le-mul_left}
use Rattle.league_core.specs.declared.season.Score.{Score}
use Rattle.league_core.specs.inside.FinishList.{ways_to_end, ways_to_finish}
use Rattle.league_core.proofs.FinishListLemmas.{ways_to_finish-some}

ways_to_finish-take_suc : (limit : ℕ) (season : List (Option Score)) (i : ℕ) → i < length season
    → ways_to_finish limit (take (suc i) season)
    ≡ ways_to_finish limit (take i season) * ways_to_end limit (get_or season i None)
ways_to_finish-take_suc limit [] i within = absurd (omega arith)
ways_to_finish-take_suc limit (played ∷ season) zero within =
    let w = ways_to_end limit played in
    let one : w * 1 ≡ 1 * w = omega arith in
    one
ways_to_finish-take_suc limit (played ∷ season) (suc i) within =
    let rest = ap (λ n. ways_to_end limit played * n)
    (ways_to_finish-take_suc limit season i (omega arith)) in
    rest ∙ omega arith

-- one fixture more multiplies them by its own ways
pub ways_to_finish-take_more : (limit : ℕ) (season : List (Option Score)) (i : ℕ)
    → i < length season
    → ways_to_finish limit (take (i + 1) season)
    ≡ ways_to_finish limit (take i season) * ways_to_end limit (get_or season i None)
ways_to_finish-take_more limit season i within =
    let next : i + 1 ≡ suc i = omega arith in
    ap (λ n. ways_to_finish limit (take n season)) next
    ∙ ways_to_finish-take_suc limit season i within

-- all fixtures may end in no fewer ways than the first of them
pub ways_to_finish-take-le : (limit : ℕ) (season : List (Option Score)) (i : ℕ)
    → ways_to_finish limit (take i season) ≤ ways_to_finish limit season
ways_to_finish-take-le limit season zero = ways_to_finish-some limit season
ways_to_finish-take-le limit [] (suc i) = omega arith
ways_to_finish-take-le limit (played ∷ season) (suc i) =
    mul-le-mul_left (ways_to_end limit played) (ways_to_finish-take-le limit season i)
