-- One verdict always holds: the list of all finishes is gone through once for each side of the
-- line, with the lots that favour that side.
use Rattle.std.proofs.Common.{◌≡◌, ◌⊎◌, ℕ, ◌<◌, Bool, true, false, List, length, Option, refl, sym}
use Rattle.std.proofs.Common.{◌∙◌, subst, inl, inr}
use Rattle.std.proofs.lemmas.Bool.{false≢true, and_parts}
use Rattle.std.proofs.lemmas.List.Elements.{All-contains}
use Rattle.league_core.specs.declared.sheet.Sheet.{Sheet}
use Rattle.league_core.specs.declared.season.Score.{Score}
use Rattle.league_core.specs.declared.question.Claim.{Claim}
use Rattle.league_core.specs.declared.question.Claim.TheVariants.{Inside, Outside}
use Rattle.league_core.specs.game.Results.{Results, are_results}
use Rattle.league_core.specs.game.Sheets.{IsWithinLimits}
use Rattle.league_core.specs.game.Sums.{points_of}
use Rattle.league_core.specs.game.Ranking.{is_inside}
use Rattle.league_core.specs.game.Questions.{is_on_side, is_in_window, full_question}
use Rattle.league_core.specs.game.Finishes.{IsFinishOf}
use Rattle.league_core.specs.inside.FinishList.{finishes_of}
use Rattle.league_core.specs.game.Verdicts.{HasExample, HasNoExample, IsClinched, IsLost}
use Rattle.league_core.specs.game.Verdicts.{IsPossible}
use Rattle.league_core.specs.inside.LotsFor.{lots_for_claim}
use Rattle.league_core.proofs.LotsLemmas.{holds_at-favoured, lots_for_claim-are_lots}
use Rattle.league_core.proofs.LotsLemmas.{lots_for_claim-favoured}
use Rattle.league_core.proofs.FinishListLemmas.{finishes_listed}
use Rattle.league_core.proofs.OneVerdictLemmas.{finish_example}
use Rattle.league_core.proofs.plain.Lists.{some_or_none}

-- the finish with these scores leaves the club on the claim's side, with the lots that favour it
abbrev pub ends_on_side : Sheet → Results → ℕ → ℕ → Claim → Bool
ends_on_side sheet finish club line claim =
    is_on_side (is_inside sheet finish (lots_for_claim (length sheet.clubs) club claim) club line)
    claim

-- a question that holds at no finish with the lots that favour its claim has no example
pub no_example : (sheet : Sheet) (season : Results) (club line : ℕ) (claim : Claim)
    → ((finish : Results) → IsFinishOf sheet season finish
    → ends_on_side sheet finish club line claim ≡ false)
    → HasNoExample sheet season (full_question club line claim)
no_example sheet season club line claim none finish lots example =
    let question = full_question club line claim in
    let best = lots_for_claim (length sheet.clubs) club claim in
    let held = holds_at-favoured sheet question finish lots best
    (lots_for_claim-favoured (length sheet.clubs) club claim) example.holds in
    let side = (and_parts (is_in_window question (points_of sheet finish club))
    (ends_on_side sheet finish club line claim) held).1 in
    false≢true (sym (none finish example.is_finish) ∙ side)

-- each question with the full window has an example or none
example_or_none : (sheet : Sheet) (season : Results) (club line : ℕ) (claim : Claim)
    → IsWithinLimits sheet → are_results season ≡ true → club < length sheet.clubs
    → HasExample sheet season (full_question club line claim)
    ⊎ HasNoExample sheet season (full_question club line claim)
example_or_none sheet season club line claim limits results below =
    elim (some_or_none test (finishes_of sheet.goal_limit season.scores)) [
      | inl found ↦ inl (
        finish_with found.0,
        lots_for_claim (length sheet.clubs) club claim,
        finish_example sheet season (finish_with found.0)
            (lots_for_claim (length sheet.clubs) club claim) club line claim limits results
            (record {
              deductions = refl;
              scores = (finishes_listed sheet.goal_limit season.scores found.0).0 found.1;
            })
            (lots_for_claim-are_lots (length sheet.clubs) club claim below) found.2,
      )
      | inr none ↦ inr (no_example sheet season club line claim (λ finish is_finish.
          subst (λ (taken : List ℕ). ends_on_side sheet
          (record { scores = finish.scores; deductions = taken }) club line claim ≡ false)
          (sym is_finish.deductions)
          (All-contains (λ scores. test scores ≡ false) (finishes_of sheet.goal_limit season.scores)
          finish.scores none
          ((finishes_listed sheet.goal_limit season.scores finish.scores).1 is_finish.scores))))
    ]
  where
    finish_with : List (Option Score) → Results
    finish_with scores = record { scores = scores; deductions = season.deductions }

    test : List (Option Score) → Bool
    test scores = ends_on_side sheet (finish_with scores) club line claim

-- a club has clinched a line, or lost it, or both is possible
pub one_verdict : (sheet : Sheet) (season : Results) (club line : ℕ) → IsWithinLimits sheet
    → are_results season ≡ true → club < length sheet.clubs
    → IsClinched sheet season club line ⊎ IsLost sheet season club line
    ⊎ IsPossible sheet season club line
one_verdict sheet season club line limits results below =
    elim (example_or_none sheet season club line Outside limits results below) [
      | inr none ↦ inl none
      | inl outside ↦
          elim (example_or_none sheet season club line Inside limits results below) [
            | inr none ↦ inr (inl none)
            | inl inside ↦ inr (inr (inside, outside))
          ]
    ]
