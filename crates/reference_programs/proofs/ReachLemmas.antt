-- From what a club can reach over all finishes to its verdict.
use Rattle.std.proofs.Common.{◌≡◌, ℕ, ◌<◌, ◌≤◌, true, nat_le, length, arith}
use Rattle.std.proofs.lemmas.Bool.{le-leb, lt-leb, not_from_true, not_from_false}
use Rattle.league_core.specs.declared.sheet.Sheet.{Sheet}
use Rattle.league_core.specs.declared.question.Claim.TheVariants.{Inside, Outside}
use Rattle.league_core.specs.game.Sheets.{IsWithinLimits}
use Rattle.league_core.specs.game.Results.{Results, are_results}
use Rattle.league_core.specs.game.Verdicts.{IsClinched, IsLost}
use Rattle.league_core.specs.inside.LotsFor.{lots_for_claim, best_place_of, worst_place_of}
use Rattle.league_core.proofs.LotsLemmas.{lots_for_claim-are_lots}
use Rattle.league_core.proofs.OneVerdictLemmas.{finish_example}
use Rattle.league_core.proofs.EachVerdictLemmas.{no_example}
use Rattle.reference_programs.specs.declared.reach.Reach.{Reach}
use Rattle.reference_programs.specs.inside.Reaches.{IsReachOf}
use Rattle.reference_programs.specs.inside.Outcomes.{Shows}

-- a club whose worst place is inside the line has clinched it
pub clinched_by_worst : (sheet : Sheet) (season : Results) (club line : ℕ) (reach : Reach)
    → IsReachOf sheet season club reach → reach.worst ≤ line → IsClinched sheet season club line
clinched_by_worst sheet season club line reach is inside =
    no_example sheet season club line Outside
    (λ finish is_finish.
    let worst = is.none_worse finish is_finish in
    not_from_true (nat_le (worst_place_of sheet finish club) line)
    (le-leb (worst_place_of sheet finish club) line (omega arith)))

-- a club whose best place is outside the line has lost it
pub lost_by_best : (sheet : Sheet) (season : Results) (club line : ℕ) (reach : Reach)
    → IsReachOf sheet season club reach → line < reach.best → IsLost sheet season club line
lost_by_best sheet season club line reach is outside =
    no_example sheet season club line Inside
    (λ finish is_finish.
    let best = is.none_better finish is_finish in
    lt-leb (best_place_of sheet finish club) line (omega arith))

-- a best place inside the line comes with a finish that shows it
pub best_shows_inside : (sheet : Sheet) (season : Results) (club line : ℕ) (reach : Reach)
    → IsWithinLimits sheet → are_results season ≡ true → club < length sheet.clubs
    → IsReachOf sheet season club reach → reach.best ≤ line
    → Shows sheet season club line Inside reach.best_finish
best_shows_inside sheet season club line reach limits results below is inside =
    let best = is.best in
    finish_example sheet season reach.best_finish (lots_for_claim (length sheet.clubs) club Inside)
    club line Inside limits results is.best_passes
    (lots_for_claim-are_lots (length sheet.clubs) club Inside below)
    (le-leb (best_place_of sheet reach.best_finish club) line (omega arith))

-- a worst place outside the line comes with a finish that shows it
pub worst_shows_outside : (sheet : Sheet) (season : Results) (club line : ℕ) (reach : Reach)
    → IsWithinLimits sheet → are_results season ≡ true → club < length sheet.clubs
    → IsReachOf sheet season club reach → line < reach.worst
    → Shows sheet season club line Outside reach.worst_finish
worst_shows_outside sheet season club line reach limits results below is outside =
    let worst = is.worst in
    finish_example sheet season reach.worst_finish
    (lots_for_claim (length sheet.clubs) club Outside) club line Outside limits results
    is.worst_passes (lots_for_claim-are_lots (length sheet.clubs) club Outside below)
    (not_from_false (nat_le (worst_place_of sheet reach.worst_finish club) line)
    (lt-leb (worst_place_of sheet reach.worst_finish club) line (omega arith)))
