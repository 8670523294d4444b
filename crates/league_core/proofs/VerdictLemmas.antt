-- From a club's best and worst place in a played season to its verdict.
use Rattle.std.proofs.Common.{◌≡◌, ℕ, ◌<◌, ◌≤◌, true, nat_le, List, length, sym, ◌∙◌, subst}
use Rattle.std.proofs.lemmas.Bool.{false≢true, and_parts, and_from, le-leb, lt-leb, not_from_true}
use Rattle.std.proofs.lemmas.Bool.{not_from_false}
use Rattle.league_core.specs.declared.sheet.Sheet.{Sheet}
use Rattle.league_core.specs.declared.question.Claim.{Claim}
use Rattle.league_core.specs.declared.question.Claim.TheVariants.{Inside, Outside}
use Rattle.league_core.specs.game.Results.{Results, are_results}
use Rattle.league_core.specs.game.Sheets.{IsWithinLimits}
use Rattle.league_core.specs.game.Sums.{points_of}
use Rattle.league_core.specs.game.Ranking.{is_inside}
use Rattle.league_core.specs.game.Finishes.{is_played}
use Rattle.league_core.specs.game.Questions.{is_on_side, is_in_window, holds_at, IsExample}
use Rattle.league_core.specs.game.Questions.{full_question}
use Rattle.league_core.specs.game.Verdicts.{IsClinched, IsLost}
use Rattle.league_core.specs.inside.LotsFor.{lots_for_claim, best_place_of, worst_place_of}
use Rattle.league_core.proofs.LotsLemmas.{holds_at-favoured, lots_for_claim-are_lots}
use Rattle.league_core.proofs.LotsLemmas.{lots_for_claim-favoured}
use Rattle.league_core.proofs.FinishLemmas.{played_finishes_itself, played_only_finish}
use Rattle.league_core.proofs.PointsLemmas.{points_in_full_window, results-deductions}

-- an example of a played season leaves the club on the claim's side with the lots for the claim
pub example_of_played : (sheet : Sheet) (season : Results) (club line : ℕ) (claim : Claim)
    (finish : Results) (lots : List ℕ) → is_played season ≡ true
    → IsExample sheet season (full_question club line claim) finish lots
    → is_on_side (is_inside sheet season (lots_for_claim (length sheet.clubs) club claim) club line)
    claim ≡ true
example_of_played sheet season club line claim finish lots played example =
    let question = full_question club line claim in
    let best = lots_for_claim (length sheet.clubs) club claim in
    let same = played_only_finish sheet season finish played example.is_finish in
    let held : holds_at sheet question season lots
    ≡ true = subst (λ (f : Results). holds_at sheet question f lots ≡ true) same example.holds in
    let best_held = holds_at-favoured sheet question season lots best
    (lots_for_claim-favoured (length sheet.clubs) club claim) held in
    (and_parts (is_in_window question (points_of sheet season club))
    (is_on_side (is_inside sheet season best club line) claim) best_held).1

-- a club whose worst place is inside the line has clinched
pub clinched_by_worst_place : (sheet : Sheet) (season : Results) (club line : ℕ)
    → is_played season ≡ true → worst_place_of sheet season club ≤ line
    → IsClinched sheet season club line
clinched_by_worst_place sheet season club line played inside finish lots example =
    false≢true
    (sym (not_from_true (nat_le (worst_place_of sheet season club) line)
    (le-leb (worst_place_of sheet season club) line inside))
    ∙ example_of_played sheet season club line Outside finish lots played example)

-- a club whose best place is outside the line is lost
pub lost_by_best_place : (sheet : Sheet) (season : Results) (club line : ℕ)
    → is_played season ≡ true → line < best_place_of sheet season club
    → IsLost sheet season club line
lost_by_best_place sheet season club line played outside finish lots example =
    false≢true (sym (lt-leb (best_place_of sheet season club) line outside)
    ∙ example_of_played sheet season club line Inside finish lots played example)

-- a played season is an example for the side on which the lots for the claim leave the club
pub played_example : (sheet : Sheet) (season : Results) (club line : ℕ) (claim : Claim)
    → is_played season ≡ true → club < length sheet.clubs
    → is_in_window (full_question club line claim) (points_of sheet season club) ≡ true
    → is_on_side (is_inside sheet season (lots_for_claim (length sheet.clubs) club claim) club line)
    claim ≡ true
    → IsExample sheet season (full_question club line claim) season
    (lots_for_claim (length sheet.clubs) club claim)
played_example sheet season club line claim played below in_window on_side = record {
  is_finish = played_finishes_itself sheet season played;
  is_drawn = lots_for_claim-are_lots (length sheet.clubs) club claim below;
  holds = and_from (is_in_window (full_question club line claim) (points_of sheet season club))
      (is_on_side
      (is_inside sheet season (lots_for_claim (length sheet.clubs) club claim) club line)
      claim) in_window on_side;
}

-- a best place inside the line is an example of it
pub example_inside : (sheet : Sheet) (season : Results) (club line : ℕ) → IsWithinLimits sheet
    → are_results season ≡ true → is_played season ≡ true → club < length sheet.clubs
    → best_place_of sheet season club ≤ line
    → IsExample sheet season (full_question club line Inside) season
    (lots_for_claim (length sheet.clubs) club Inside)
example_inside sheet season club line limits results played below inside =
    played_example sheet season club line Inside played below
    (points_in_full_window sheet season club line Inside limits (results-deductions season results))
    (le-leb (best_place_of sheet season club) line inside)

-- a worst place outside the line is an example of that
pub example_outside : (sheet : Sheet) (season : Results) (club line : ℕ) → IsWithinLimits sheet
    → are_results season ≡ true → is_played season ≡ true → club < length sheet.clubs → line
    < worst_place_of sheet season club
    → IsExample sheet season (full_question club line Outside) season
    (lots_for_claim (length sheet.clubs) club Outside)
example_outside sheet season club line limits results played below outside =
    played_example sheet season club line Outside played below
    (points_in_full_window sheet season club line Outside limits
    (results-deductions season results))
    (not_from_false (nat_le (worst_place_of sheet season club) line)
    (lt-leb (worst_place_of sheet season club) line outside))
