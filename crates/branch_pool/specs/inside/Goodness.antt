-- What every step keeps. The pool is good: what was reported is true, the leaves leave nothing out,
-- what is refuted is refuted by a reason that holds, examples are examples, units are units of
-- work, and what is lent is exactly what is out in the present epoch.
use Rattle.std.specs.Prelude.{◌≡◌, ◌<◌, ◌≤◌, ℕ, ◌+◌, ◌*◌, ◌&&◌, ◌==◌, IsTrue, List, [], ◌∷◌}
use Rattle.std.specs.Prelude.{length, map, Option, Some, None, All, IfSome, if◌then◌else◌}
use Rattle.std.specs.List.{slice_get}
use Rattle.league_core.specs.declared.sheet.Sheet.{Sheet}
use Rattle.league_core.specs.declared.question.Question.{Question}
use Rattle.league_core.specs.declared.zone.Literal.{Literal}
use Rattle.league_core.specs.game.Limits.{most_events}
use Rattle.league_core.specs.game.Sheets.{IsWithinLimits}
use Rattle.league_core.specs.game.Results.{Results}
use Rattle.league_core.specs.game.Seasons.{AreEventsOf, season_after}
use Rattle.league_core.specs.game.Questions.{IsExample, IsQuestionOf}
use Rattle.league_core.specs.search.Options.{has_finish}
use Rattle.league_core.specs.search.Trees.{NodesMeet, IsCover, zones_of, new_count, node_count}
use Rattle.league_core.specs.inside.Lending.{lent_count, lent_zones}
use Rattle.league_core.specs.search.Splits.{IsProperNode, IsUnitIfNew, AreReasonsTrue}
use Rattle.tree_arena.specs.declared.example.Example.{Example}
use Rattle.branch_pool.specs.declared.question_state.QuestionState.{QuestionState}
use Rattle.branch_pool.specs.declared.question_state.Loan.{Loan}
use Rattle.branch_pool.specs.inside.States.{PoolView, present_epoch, loan_at, most_questions}
use Rattle.tree_reuse.specs.Retargets.{most_kept}
use Rattle.tree_arena.specs.inside.GoodNodes.{IsGoodNode}

-- ---- what the type keeps

-- what is kept as an example is one
abbrev pub IsExampleOf : Sheet → Results → Question → Example → Type 0
IsExampleOf sheet season question example =
    IsExample sheet season question example.finish example.lots

-- what holds of a question and what is kept of it: good nodes, counted, within the budget, and no
-- more of them than a change leaves and the units bring
pub record IsGoodSeat (sheet : Sheet) (season : Results) (seat : QuestionState) : Type 0 where
  pub nodes : NodesMeet (IsGoodNode sheet season seat.question) [] seat.tree
  pub units : seat.units ≡ new_count seat.tree
  pub lent : seat.lent ≡ lent_count seat.tree
  pub within : seat.units + seat.lent ≤ sheet.budget
  pub few : node_count seat.tree ≤ most_kept + 2 * seat.units
  pub example : IfSome seat.example (IsExampleOf sheet season seat.question)

-- what is out was lent in an epoch that has been, for one of so many questions
pub record IsGoodLoan (epoch places : ℕ) (loan : Loan) : Type 0 where
  pub has_been : loan.epoch ≤ epoch
  pub in_range : loan.place < places

-- the zone of what is out, if it was lent in this epoch for the question at this place
abbrev pub zones_due : ℕ → ℕ → Option Loan → List (List Literal)
zones_due epoch place None = []
zones_due epoch place (Some loan) =
    if (loan.epoch == epoch) && (loan.place == place) then loan.zone.literals ∷ [] else []

-- the leaf that is lent under a number, for the question at a place, is exactly what is out under
-- this number in the present epoch and for this place
abbrev pub AreLoansTrue : PoolView → Type 0
AreLoansTrue pool =
    (number place : ℕ) (seat : QuestionState) → slice_get pool.seats place ≡ Some seat
    → lent_zones number [] seat.tree
    ≡ zones_due (present_epoch pool) place (loan_at pool.loans number)

-- all that the type of pools keeps
pub record IsSoundPool (pool : PoolView) : Type 0 where
  pub limits : IsWithinLimits pool.sheet
  pub season : pool.season ≡ season_after pool.sheet pool.log
  pub events : AreEventsOf pool.sheet pool.log
  pub most_events : length pool.log ≤ most_events
  pub asked : map (λ (seat : QuestionState). seat.question) pool.seats ≡ pool.questions
  pub questions : All (IsQuestionOf pool.sheet) pool.questions
  pub most_questions : length pool.questions ≤ most_questions
  pub seats : All (IsGoodSeat pool.sheet pool.season) pool.seats
  pub loans : All (λ loan. IfSome loan (IsGoodLoan (present_epoch pool) (length pool.seats)))
      pool.loans
  pub due : AreLoansTrue pool

-- ---- what that means

-- what was reported: the sheet is within the limits, the season is that of the events, which may
-- each be reported and are not too many
pub record IsLogGood (pool : PoolView) : Type 0 where
  pub limits : IsWithinLimits pool.sheet
  pub season : pool.season ≡ season_after pool.sheet pool.log
  pub most_events : length pool.log ≤ most_events
  pub events : AreEventsOf pool.sheet pool.log

-- the leaves of a question leave nothing out: splits are proper, each node's zone has a finish, and
-- the leaves cover every finish of the season with every lots
pub record IsCovered (sheet : Sheet) (season : Results) (seat : QuestionState) : Type 0 where
  pub proper : NodesMeet (IsProperNode sheet season seat.question) [] seat.tree
  pub finishes : NodesMeet (λ zone node. IsTrue (has_finish sheet season zone)) [] seat.tree
  pub cover : IsCover sheet season seat.question (zones_of seat.tree)

-- each refuted leaf of a question has a reason that holds
abbrev pub AreLeavesRefuted : Sheet → Results → QuestionState → Type 0
AreLeavesRefuted sheet season seat = AreReasonsTrue sheet season seat.question [] seat.tree

-- the example of a question, if there is one, is an example in the season
abbrev pub IsExampleTrue : Sheet → Results → QuestionState → Type 0
IsExampleTrue sheet season seat = IfSome seat.example (IsExampleOf sheet season seat.question)

-- new nodes of a question are units of work, as many as are counted, and with the lent leaves they
-- are at most the budget
pub record AreUnitsTrue (sheet : Sheet) (season : Results) (seat : QuestionState) : Type 0 where
  pub nodes : NodesMeet (IsUnitIfNew sheet season seat.question) [] seat.tree
  pub count : seat.units ≡ new_count seat.tree
  pub within : seat.units + lent_count seat.tree ≤ sheet.budget

-- what is lent and what is out agree, and nothing was lent in an epoch to come
pub record AreLoansGood (pool : PoolView) : Type 0 where
  pub epochs : All (λ loan. IfSome loan (IsGoodLoan (present_epoch pool) (length pool.seats)))
      pool.loans
  pub leaves : AreLoansTrue pool

-- a good pool
pub record IsGood (pool : PoolView) : Type 0 where
  pub log : IsLogGood pool
  pub cover : All (IsCovered pool.sheet pool.season) pool.seats
  pub refuted : All (AreLeavesRefuted pool.sheet pool.season) pool.seats
  pub examples : All (IsExampleTrue pool.sheet pool.season) pool.seats
  pub units : All (AreUnitsTrue pool.sheet pool.season) pool.seats
  pub loans : AreLoansGood pool
