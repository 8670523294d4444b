-- A question that is searched from its root on, given a zone: in which zones it can be looked, what
-- is found there, and what comes of the search.
use Rattle.std.specs.Prelude.{◌≡◌, ℕ, IsTrue, List, ◌++◌}
use Rattle.std.specs.Borrow.{GName}
use Rattle.league_core.specs.declared.question.Question.{Question}
use Rattle.league_core.specs.declared.sheet.Sheet.{Sheet}
use Rattle.league_core.specs.declared.zone.Literal.{Literal}
use Rattle.league_core.specs.declared.zone.Reason.{Reason}
use Rattle.league_core.specs.declared.zone.Test.{Test}
use Rattle.league_core.specs.game.Questions.{IsQuestionOf}
use Rattle.league_core.specs.game.Results.{Results}
use Rattle.league_core.specs.game.Seasons.{IsLeague}
use Rattle.league_core.specs.search.GivenVerdicts.{HoldsNowhereIn, IsExampleIn}
use Rattle.league_core.specs.search.Options.{has_finish}
use Rattle.league_core.specs.search.Reasons.{has_reason}
use Rattle.league_core.specs.search.Splits.{IsFairSplit}
use Rattle.league_core.specs.search.Zones.{IsZoneFor}
use Rattle.reason_core.specs.declared.finding.Finding.{Finding}
use Rattle.reason_core.specs.declared.finding.Finding.TheVariants as finding
use Rattle.score_box.specs.inside.PlayedViews.{PlayedView}
use Rattle.tree_arena.specs.declared.example.Example.{Example}
use Rattle.depth_search.specs.declared.kind.SearchEnd.{SearchEnd}
use Rattle.depth_search.specs.declared.kind.SearchEnd.TheVariants.{Won, Refuted, Spent}
use Rattle.depth_search.specs.declared.kind.ZoneLook.{ZoneLook}
use Rattle.depth_search.specs.declared.kind.ZoneLook.TheVariants as look
use Rattle.depth_search.specs.inside.Cases.{Cases, case_nodes}
use Rattle.depth_search.specs.inside.ZoneTrees.{new_tree}
use Rattle.what_if.specs.declared.task.Task.{Task}
use Rattle.what_if.specs.Bases.{is_base_of}
use Rattle.what_if.specs.Given.{IsFairlySpentBelow}

-- ---- what is asked

-- a question given a base, the worker, its sheet and season, and those of the tables beside it
pub record Asked : Type 0 where
  pub worker : GName
  pub league : PlayedView
  pub tables : PlayedView
  pub question : Question
  pub base : List Literal

-- by a task
abbrev pub asked_of : Task → Asked
asked_of task = record {
  worker = task.solver.ghost_name;
  league = task.solver.now;
  tables = task.hints.now.played.now;
  question = task.question.now;
  base = task.base.now;
}

-- the end of a way from the root can be looked at: its zone, the base and after it the way, is one
-- for the question and has a finish
pub record MayLook (asked : Asked) (way : List Literal) : Type 0 where
  pub league : IsLeague asked.league.sheet asked.league.season
  pub sheet : asked.league.sheet ≡ asked.tables.sheet
  pub season : asked.league.season ≡ asked.tables.season
  pub of_sheet : IsQuestionOf asked.league.sheet asked.question
  pub of_base : IsTrue (is_base_of asked.league.sheet asked.base)
  pub for_question : IsZoneFor asked.league.sheet asked.question (asked.base ++ way)
  pub has_finish : IsTrue (has_finish asked.league.sheet asked.league.season (asked.base ++ way))

-- the example is a member of the base
abbrev pub ShowsBelow : Asked → Example → Type 0
ShowsBelow asked example =
    IsExampleIn asked.league.sheet asked.league.season asked.question asked.base example.finish
    example.lots

-- the reason holds at the end of a way
abbrev pub RefutesBelow : Asked → List Literal → Reason → Type 0
RefutesBelow asked way reason =
    IsTrue (has_reason asked.league.sheet asked.league.season asked.question (asked.base ++ way)
    reason)

-- the split is one unit of work there
abbrev pub SplitsBelow : Asked → List Literal → Test → Type 0
SplitsBelow asked way test =
    IsFairSplit asked.league.sheet asked.league.season asked.question (asked.base ++ way) test

-- what a worker finds, as a search takes it
abbrev pub look_of : Finding → ZoneLook Example Reason
look_of (finding.Won finish lots) = look.Won (record { finish = finish; lots = lots })
look_of (finding.Refuted reason) = look.Refuted reason
look_of (finding.Split literal) = look.Split literal.test

-- ---- what comes of it

-- an example that is a member of the base; or there is none; or the nodes of a tree below the base
-- on which so many units were spent fairly
abbrev pub IsSolvedGiven : Sheet → Results → Question → List Literal → ℕ
    → SearchEnd Example Reason → Type 0
IsSolvedGiven sheet season question base budget (Won example) =
    IsExampleIn sheet season question base example.finish example.lots
IsSolvedGiven sheet season question base budget (Refuted nodes) =
    HoldsNowhereIn sheet season question base
IsSolvedGiven sheet season question base budget (Spent nodes) =
    (cases : Cases Reason) × (case_nodes cases ≡ nodes.items)
    × IsFairlySpentBelow sheet season question base budget (new_tree cases)
