-- A question that is searched from its root on with near reasons: in which zones it can be looked,
-- and what comes of the search.
use Rattle.std.specs.Prelude.{◌≡◌, ℕ, true, IsTrue, List}
use Rattle.std.specs.Borrow.{GName}
use Rattle.league_core.specs.declared.question.Question.{Question}
use Rattle.league_core.specs.declared.sheet.Sheet.{Sheet}
use Rattle.league_core.specs.declared.zone.Literal.{Literal}
use Rattle.league_core.specs.declared.zone.Test.{Test}
use Rattle.league_core.specs.game.Questions.{IsQuestionOf}
use Rattle.league_core.specs.game.Results.{Results}
use Rattle.league_core.specs.game.Seasons.{IsLeague}
use Rattle.league_core.specs.search.Options.{has_finish}
use Rattle.league_core.specs.search.Zones.{IsZoneFor}
use Rattle.score_box.specs.inside.PlayedViews.{PlayedView}
use Rattle.tree_arena.specs.declared.example.Example.{Example}
use Rattle.depth_search.specs.declared.kind.CaseNode.{CaseNode}
use Rattle.depth_search.specs.declared.kind.CaseNode.TheVariants as node
use Rattle.depth_search.specs.declared.kind.SearchEnd.{SearchEnd}
use Rattle.depth_search.specs.declared.kind.SearchEnd.TheVariants.{Won, Refuted, Spent}
use Rattle.depth_search.specs.inside.Cases.{Cases, left_open, refuted, split, case_nodes}
use Rattle.wide_lines.specs.declared.wide_reason.WideReason.{WideReason}
use Rattle.wide_lines.specs.declared.wide_node.WideNode.{WideNode}
use Rattle.wide_lines.specs.declared.wide_node.WideNode.TheVariants as wide_node
use Rattle.wide_lines.specs.WideTrees.{WideTree, open_leaf, refuted_leaf, branch}
use Rattle.wide_lines.specs.WideTreeLines.{IsWideRefutation}
use Rattle.decide_run.specs.declared.task.Task.{Task}
use Rattle.decide_run.specs.FairTrees.{IsWideSpentFairly, IsWideFairSplit}
use Rattle.decide_run.specs.inside.WideLooks.{IsWideExampleOf, IsReasonIn}

-- ---- what is asked

-- a question, the worker, its sheet and season, and those of the tables beside it
pub record AskedWide : Type 0 where
  pub worker : GName
  pub league : PlayedView
  pub tables : PlayedView
  pub question : Question

-- by a task
abbrev pub asked_wide_of : Task → AskedWide
asked_wide_of task = record {
  worker = task.solver.ghost_name;
  league = task.solver.now;
  tables = task.played.now;
  question = task.question.now;
}

-- the zone can be looked at: it is one for the question and has a finish
pub record MayLookWide (asked : AskedWide) (zone : List Literal) : Type 0 where
  pub league : IsLeague asked.league.sheet asked.league.season
  pub sheet : asked.league.sheet ≡ asked.tables.sheet
  pub season : asked.league.season ≡ asked.tables.season
  pub of_sheet : IsQuestionOf asked.league.sheet asked.question
  pub for_question : IsZoneFor asked.league.sheet asked.question zone
  pub has_finish : IsTrue (has_finish asked.league.sheet asked.league.season zone)

-- an example of what is asked
abbrev pub ShowsWide : AskedWide → Example → Type 0
ShowsWide asked example = IsWideExampleOf asked.league.sheet asked.league.season asked.question
    example

-- the reason holds in the zone
abbrev pub Refutes : AskedWide → List Literal → WideReason → Type 0
Refutes asked zone reason =
    IsReasonIn asked.league.sheet asked.league.season asked.question zone reason

-- the split is one unit of work there
abbrev pub Splits : AskedWide → List Literal → Test → Type 0
Splits asked zone test =
    IsWideFairSplit asked.league.sheet asked.league.season asked.question zone test

-- ---- what comes of it

-- the wide tree with these cases, all of whose splits and refuted leaves are new
abbrev pub new_wide_tree : Cases WideReason → WideTree
new_wide_tree left_open = open_leaf
new_wide_tree (refuted reason) = refuted_leaf reason true
new_wide_tree (split test yes_half no_half) = branch test true (new_wide_tree yes_half)
    (new_wide_tree no_half)

-- a node of it
abbrev pub new_wide_node : CaseNode WideReason → WideNode
new_wide_node (node.Split test) = wide_node.Split test true
new_wide_node (node.Refuted reason) = wide_node.Refuted reason true
new_wide_node node.Open = wide_node.Open

-- the nodes are those of a refutation
abbrev pub IsRefutedBy : Sheet → Results → Question → List (CaseNode WideReason) → Type 0
IsRefutedBy sheet season question nodes =
    (cases : Cases WideReason) × (case_nodes cases ≡ nodes)
    × IsWideRefutation sheet season question (new_wide_tree cases)

-- they are those of a tree on which so many units were spent fairly
abbrev pub IsSpentOn : Sheet → Results → Question → ℕ → List (CaseNode WideReason) → Type 0
IsSpentOn sheet season question budget nodes =
    (cases : Cases WideReason) × (case_nodes cases ≡ nodes)
    × IsWideSpentFairly sheet season question budget (new_wide_tree cases)

-- an example, or the nodes of one of these trees
abbrev pub IsWideSolved : Sheet → Results → Question → ℕ → SearchEnd Example WideReason → Type 0
IsWideSolved sheet season question budget (Won example) = IsWideExampleOf sheet season question
    example
IsWideSolved sheet season question budget (Refuted nodes) =
    IsRefutedBy sheet season question nodes.items
IsWideSolved sheet season question budget (Spent nodes) =
    IsSpentOn sheet season question budget nodes.items
