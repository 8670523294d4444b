-- What is found in a zone for a question: the proposed finish if it is an example, else the first
-- reason that holds, else a fair split.
use Rattle.std.specs.Prelude.{◌≡◌, ◌<◌, ℕ, Bool, false, IsTrue, List, length}
use Rattle.league_core.specs.declared.sheet.Sheet.{Sheet}
use Rattle.league_core.specs.declared.question.Question.{Question}
use Rattle.league_core.specs.declared.zone.Literal.{Literal}
use Rattle.league_core.specs.declared.zone.Reason.{Reason}
use Rattle.league_core.specs.declared.zone.Reason.TheVariants.{Count, Window, Low, High, Tie}
use Rattle.league_core.specs.game.Results.{Results}
use Rattle.league_core.specs.game.Questions.{IsExample, holds_at}
use Rattle.league_core.specs.inside.LotsFor.{lots_for_claim}
use Rattle.league_core.specs.search.Proposals.{proposed_finish}
use Rattle.league_core.specs.search.Reasons.{has_reason}
use Rattle.league_core.specs.search.Splits.{IsNoExample, IsFairSplit}
use Rattle.reason_core.specs.declared.finding.Finding.{Finding}
use Rattle.reason_core.specs.declared.finding.Finding.TheVariants.{Refuted, Split, Won}

-- the turn in which a reason is tried
abbrev pub turn_of : Reason → ℕ
turn_of Count = 0
turn_of Window = 1
turn_of (Low clubs) = 2
turn_of (High clubs) = 3
turn_of Tie = 4

-- the reason holds, and none that is tried in an earlier turn does
pub record IsFirstReason (sheet : Sheet) (season : Results) (question : Question)
    (zone : List Literal) (reason : Reason) : Type 0 where
  pub holds : IsTrue (has_reason sheet season question zone reason)
  pub first : (other : Reason) → turn_of other < turn_of reason
      → has_reason sheet season question zone other ≡ false

-- with the lots that favour the claim the question holds at the zone's proposed finish
abbrev pub is_proposed_example : Sheet → Results → Question → List Literal → Bool
is_proposed_example sheet season question zone =
    holds_at sheet question (proposed_finish sheet season question zone)
    (lots_for_claim (length sheet.clubs) question.club question.claim)

-- with none of the lots is the zone's proposed finish an example
abbrev pub IsProposedInVain : Sheet → Results → Question → List Literal → Type 0
IsProposedInVain sheet season question zone =
    IsNoExample sheet season question (proposed_finish sheet season question zone)

-- an example that is the proposed finish
pub record IsProposedExample (sheet : Sheet) (season : Results) (question : Question)
    (zone : List Literal) (finish : Results) (lots : List ℕ) : Type 0 where
  pub proposed : finish ≡ proposed_finish sheet season question zone
  pub example : IsExample sheet season question finish lots

-- the first reason that holds, if the proposed finish is no example
pub record IsFoundReason (sheet : Sheet) (season : Results) (question : Question)
    (zone : List Literal) (reason : Reason) : Type 0 where
  pub no_example : IsProposedInVain sheet season question zone
  pub first : IsFirstReason sheet season question zone reason

-- what is found: the proposed finish with lots if it is an example, otherwise the first reason if
-- one holds, otherwise a split that is one unit of work
abbrev pub IsFoundIn : Sheet → Results → Question → List Literal → Finding → Type 0
IsFoundIn sheet season question zone (Won finish lots) =
    IsProposedExample sheet season question zone finish lots
IsFoundIn sheet season question zone (Refuted reason) =
    IsFoundReason sheet season question zone reason
IsFoundIn sheet season question zone (Split literal) =
    IsFairSplit sheet season question zone literal.test
