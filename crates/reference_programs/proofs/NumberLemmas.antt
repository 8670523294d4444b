-- Finishes and their numbers in the list of all: what a new score of one fixture makes of them.
use Rattle.std.proofs.Common.{◌≡◌, ℕ, zero, suc, ◌+◌, ◌*◌, ◌<◌, true, List, [], ◌∷◌, length, get_or}
use Rattle.std.proofs.Common.{set, take, Option, None, sym, ap, ◌∙◌, arith}
use Rattle.std.proofs.lemmas.Bool.{false≢true, and_parts, and_from}
use Rattle.league_core.specs.declared.sheet.Sheet.{Sheet}
use Rattle.league_core.specs.declared.season.Score.{Score}
use Rattle.league_core.specs.game.Results.{Results}
use Rattle.league_core.specs.game.Seasons.{IsLeague}
use Rattle.league_core.specs.game.Finishes.{may_end, may_all_end, IsFinishOf}
use Rattle.league_core.specs.inside.FinishList.{ways_to_end, ways_to_finish, end_number, number_of}
use Rattle.league_core.proofs.FinishLemmas.{finish_is_of}
use Rattle.league_core.proofs.FinishListLemmas.{finish_stands, length-finishes_of, number_of-same}
use Rattle.reference_programs.specs.inside.Walks.{count_of_finishes, number_in}

-- with another end of one fixture that may be, a finish is a finish again
pub may_all_end-set : (limit : ℕ) (season finish : List (Option Score)) (i : ℕ)
    (ended : Option Score) → may_all_end limit season finish ≡ true
    → may_end limit (get_or season i None) ended ≡ true
    → may_all_end limit season (set finish i ended) ≡ true
may_all_end-set limit [] [] i ended may here = may
may_all_end-set limit [] (old ∷ finish) i ended may here = absurd (false≢true may)
may_all_end-set limit (played ∷ season) [] i ended may here = absurd (false≢true may)
may_all_end-set limit (played ∷ season) (old ∷ finish) zero ended may here =
    and_from (may_end limit played ended) (may_all_end limit season finish) here
    (and_parts (may_end limit played old) (may_all_end limit season finish) may).1
may_all_end-set limit (played ∷ season) (old ∷ finish) (suc i) ended may here =
    let parts = and_parts (may_end limit played old) (may_all_end limit season finish) may in
    and_from (may_end limit played old) (may_all_end limit season (set finish i ended)) parts.0
    (may_all_end-set limit season finish i ended parts.1 here)

-- another end of one fixture moves the number by as many finishes as the fixtures before it have,
-- for each end that it moves on
pub number_of-set : (limit : ℕ) (season finish : List (Option Score)) (i : ℕ)
    (ended : Option Score) → may_all_end limit season finish ≡ true → i < length season
    → number_of limit season (set finish i ended)
    + end_number limit (get_or season i None) (get_or finish i None)
    * ways_to_finish limit (take i season)
    ≡ number_of limit season finish
    + end_number limit (get_or season i None) ended * ways_to_finish limit (take i season)
number_of-set limit [] finish i ended may within = absurd (omega arith)
number_of-set limit (played ∷ season) [] i ended may within = absurd (false≢true may)
number_of-set limit (played ∷ season) (old ∷ finish) zero ended may within = omega arith
number_of-set limit (played ∷ season) (old ∷ finish) (suc i) ended may within =
    let later = number_of-set limit season finish i ended
    (and_parts (may_end limit played old) (may_all_end limit season finish) may).1 (omega arith) in
    let scaled = ap (λ n. n * ways_to_end limit played) later in
    omega arith

-- the number of a finish is below the number of finishes
pub number_in-lt : (sheet : Sheet) (season finish : Results) → IsFinishOf sheet season finish
    → number_in sheet season finish < count_of_finishes sheet season
number_in-lt sheet season finish is_finish =
    let at = finish_stands sheet.goal_limit season.scores finish.scores is_finish.scores in
    omega (arith, at.within, length-finishes_of sheet.goal_limit season.scores)

-- two finishes with one number are one finish
pub number_in-same : (sheet : Sheet) (season finish other : Results)
    → IsFinishOf sheet season finish → IsFinishOf sheet season other
    → number_in sheet season finish ≡ number_in sheet season other → finish ≡ other
number_in-same sheet season finish other is_finish other_is same =
    let scores = number_of-same sheet.goal_limit season.scores finish.scores other.scores
    is_finish.scores other_is.scores same in
    let deductions = is_finish.deductions ∙ sym other_is.deductions in
    λ i. record { scores = scores i; deductions = deductions i }

-- a finish of a season of the sheet is a season of the sheet
pub finish_of_sheet : (sheet : Sheet) (season finish : Results) → IsLeague sheet season
    → IsFinishOf sheet season finish → IsLeague sheet finish
finish_of_sheet sheet season finish league is_finish = record {
  limits = league.limits;
  of_sheet = finish_is_of sheet season finish league.of_sheet is_finish;
}
