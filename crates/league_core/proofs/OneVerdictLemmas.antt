-- No two verdicts hold together: each season has a finish, and each finish leaves the club on one
-- side of the line.
use Rattle.std.proofs.Common.{◌≡◌, ℕ, ◌<◌, Bool, true, false, nat_le, List}
use Rattle.std.proofs.Common.{length, map, refl, sym, subst}
use Rattle.std.specs.List.{list_all}
use Rattle.std.proofs.lemmas.Bool.{and_from}
use Rattle.league_core.specs.declared.sheet.Sheet.{Sheet}
use Rattle.league_core.specs.declared.question.Claim.{Claim}
use Rattle.league_core.specs.declared.question.Claim.TheVariants.{Inside, Outside}
use Rattle.league_core.specs.game.Results.{Results, are_results}
use Rattle.league_core.specs.game.Sheets.{IsWithinLimits}
use Rattle.league_core.specs.game.Sums.{points_of}
use Rattle.league_core.specs.game.Ranking.{are_lots, is_inside}
use Rattle.league_core.specs.game.Finishes.{IsFinishOf}
use Rattle.league_core.specs.game.Questions.{is_on_side, is_in_window, IsExample, full_question}
use Rattle.league_core.specs.game.Verdicts.{IsClinched, IsLost, IsPossible}
use Rattle.league_core.specs.inside.LotsFor.{first_lots}
use Rattle.league_core.proofs.FinishLemmas.{ended_of, may_all_end-ended}
use Rattle.league_core.proofs.LotsLemmas.{first_lots-are_lots}
use Rattle.league_core.proofs.PointsLemmas.{points_in_full_window, results-deductions}

-- each season has a finish
pub some_finish : (sheet : Sheet) (season : Results)
    → (finish : Results) × IsFinishOf sheet season finish
some_finish sheet season = (
  record { scores = map ended_of season.scores; deductions = season.deductions },
  record { deductions = refl; scores = may_all_end-ended sheet.goal_limit season.scores },
)

-- a finish and lots are an example for the side on which they leave the club
pub finish_example : (sheet : Sheet) (season finish : Results) (lots : List ℕ) (club line : ℕ)
    (claim : Claim) → IsWithinLimits sheet → are_results season ≡ true
    → IsFinishOf sheet season finish → are_lots (length sheet.clubs) lots ≡ true
    → is_on_side (is_inside sheet finish lots club line) claim ≡ true
    → IsExample sheet season (full_question club line claim) finish lots
finish_example sheet season finish lots club line claim limits results is_finish drawn
    on_side = record {
      is_finish = is_finish;
      is_drawn = drawn;
      holds = and_from (is_in_window (full_question club line claim) (points_of sheet finish club))
          (is_on_side (is_inside sheet finish lots club line) claim)
          (points_in_full_window sheet finish club line claim limits
          (subst (λ (d : List ℕ). list_all (λ points. nat_le points 99) d ≡ true)
          (sym is_finish.deductions) (results-deductions season results)))
          on_side;
    }

either_side : (inside : Bool) → (is_on_side inside Inside ≡ true → ⊥)
    → (is_on_side inside Outside ≡ true → ⊥) → ⊥
either_side true lost clinched = lost refl
either_side false lost clinched = clinched refl

-- no club is clinched and lost
pub clinched_or_lost : (sheet : Sheet) (season : Results) (club line : ℕ) → IsWithinLimits sheet
    → are_results season ≡ true → club < length sheet.clubs → IsClinched sheet season club line
    → IsLost sheet season club line → ⊥
clinched_or_lost sheet season club line limits results below clinched lost =
    let finish = some_finish sheet season in
    let lots = first_lots (length sheet.clubs) club in
    let drawn = first_lots-are_lots (length sheet.clubs) club below in
    either_side (is_inside sheet finish.0 lots club line)
    (λ inside. lost finish.0 lots
    (finish_example sheet season finish.0 lots club line Inside limits results finish.1 drawn
    inside))
    (λ outside. clinched finish.0 lots
    (finish_example sheet season finish.0 lots club line Outside limits results finish.1 drawn
    outside))

-- what is possible is not clinched
pub possible_or_clinched : (sheet : Sheet) (season : Results) (club line : ℕ)
    → IsPossible sheet season club line → ¬ IsClinched sheet season club line
possible_or_clinched sheet season club line possible clinched =
    clinched possible.1.0 possible.1.1 possible.1.2

-- nor lost
pub possible_or_lost : (sheet : Sheet) (season : Results) (club line : ℕ)
    → IsPossible sheet season club line → ¬ IsLost sheet season club line
possible_or_lost sheet season club line possible lost =
    lost possible.0.0 possible.0.1 possible.0.2
