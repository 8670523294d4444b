-- Lemmas on what a call for the next step answers.
use Rattle.std.proofs.Common.{◌≡◌, ℕ, List, Result, Ok, Err}
use Rattle.std.specs.Prelude.{IfOk}
use Rattle.league_core.specs.declared.sheet.Sheet.{Sheet}
use Rattle.league_core.specs.game.Results.{Results}
use Rattle.league_core.specs.game.Seasons.{IsSeasonOf}
use Rattle.result_log.specs.declared.entry.Entry.TheVariants.{Change, Ask, Proofs, End}
use Rattle.result_log.specs.declared.fault.FeedStop.{FeedStop}
use Rattle.result_log.specs.inside.Readings.{IsParsedThere}
use Rattle.what_if.specs.declared.step.Step.{Step}
use Rattle.what_if.specs.declared.step.Step.TheVariants as step
use Rattle.what_if.specs.Steps.{forget, step_of}
use Rattle.what_if.specs.inside.StepCalls.{IsStepAt, IsStepThere}
use Rattle.what_if.proofs.StepLemmas.{step-may_come}

module _ (sheet : Sheet) (season : Results) (events : ℕ) (text : List ℕ) where
  -- which step it is
  pub parsed-step : (result : Result Step FeedStop)
      → IsParsedThere forget (step_of sheet season events) text result
      → IsStepThere sheet season events text result
  parsed-step (Ok (step.When fixture)) there = there (λ (is : Ask ≡ End). cc)
  parsed-step (Ok (step.Entry (Change event))) there = there (λ (is : Change event ≡ End). cc)
  parsed-step (Ok (step.Entry Ask)) there = there (λ (is : Ask ≡ End). cc)
  parsed-step (Ok (step.Entry Proofs)) there = there (λ (is : Proofs ≡ End). cc)
  parsed-step (Ok (step.Entry End)) there = tt
  parsed-step (Err stop) there = tt

  -- it may come
  pub there-may_come : (result : Result Step FeedStop) → IsSeasonOf sheet season
      → IsStepThere sheet season events text result → IfOk result (IsStepAt sheet season events)
  there-may_come (Ok (step.When fixture)) of_sheet there =
      step-may_come sheet season events text (step.When fixture) of_sheet there
  there-may_come (Ok (step.Entry (Change event))) of_sheet there =
      step-may_come sheet season events text (step.Entry (Change event)) of_sheet there
  there-may_come (Ok (step.Entry Ask)) of_sheet there = tt
  there-may_come (Ok (step.Entry Proofs)) of_sheet there =
      step-may_come sheet season events text (step.Entry Proofs) of_sheet there
  there-may_come (Ok (step.Entry End)) of_sheet there = tt
  there-may_come (Err stop) of_sheet there = tt
