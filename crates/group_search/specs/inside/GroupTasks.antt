-- A question about a group that is searched from its root on: in which zones it can be looked, and
-- what comes of the search.
use Rattle.std.specs.Prelude.{◌≡◌, ℕ, ◌<◌, ◌≤◌, true, IsTrue, List, length}
use Rattle.league_core.specs.declared.sheet.Sheet.{Sheet}
use Rattle.league_core.specs.declared.zone.Literal.{Literal}
use Rattle.league_core.specs.declared.zone.Test.{Test}
use Rattle.league_core.specs.game.Results.{Results, are_results}
use Rattle.league_core.specs.game.Seasons.{IsLeague}
use Rattle.league_core.specs.search.Options.{has_finish}
use Rattle.league_core.specs.search.Zones.{IsZoneFor}
use Rattle.tree_arena.specs.declared.example.Example.{Example}
use Rattle.depth_search.specs.declared.kind.CaseNode.{CaseNode}
use Rattle.depth_search.specs.declared.kind.SearchEnd.{SearchEnd}
use Rattle.depth_search.specs.declared.kind.SearchEnd.TheVariants.{Won, Refuted, Spent}
use Rattle.depth_search.specs.inside.Cases.{Cases, left_open, refuted, split, case_nodes}
use Rattle.cup_sheet.specs.declared.question.GroupReason.{GroupReason}
use Rattle.cup_sheet.specs.CupLimits.{direct_places}
use Rattle.cup_sheet.specs.GroupQuestions.{GroupQuestion, place_question}
use Rattle.cup_sheet.specs.GroupTrees.{GroupTree, open_zone, refuted_zone, split_zone}
use Rattle.cup_sheet.specs.GroupTrees.{IsFairGroupSplit, IsGroupRefutation, AreSplitsFair}
use Rattle.cup_sheet.specs.GroupTrees.{IsFairlySpentGroupTree, are_all_new}
use Rattle.group_search.specs.declared.task.GroupTask.{GroupTask}
use Rattle.cup_groups.specs.inside.KindQuestions.{group_question_of}
use Rattle.group_search.specs.inside.GroupLooks.{IsGroupExampleOf, IsGroupReasonIn}

-- ---- what is asked

-- a question, and the group with what has been played of it
pub record AskedInGroup : Type 0 where
  pub sheet : Sheet
  pub season : Results
  pub question : GroupQuestion

-- by a task
abbrev pub asked_in_group : GroupTask → AskedInGroup
asked_in_group task = record {
  sheet = task.zone_box.sheet;
  season = task.zone_box.season;
  question = group_question_of task.question;
}

-- the zone can be looked at: it is one for the question and has a finish
pub record MayLookInGroup (asked : AskedInGroup) (zone : List Literal) : Type 0 where
  pub league : IsLeague asked.sheet asked.season
  pub results : IsTrue (are_results asked.season)
  pub in_range : asked.question.club < length asked.sheet.clubs
  pub for_question : IsZoneFor asked.sheet
      (place_question direct_places asked.question.kind asked.question.club) zone
  pub has_finish : IsTrue (has_finish asked.sheet asked.season zone)

-- an example of what is asked
abbrev pub ShowsInGroup : AskedInGroup → Example → Type 0
ShowsInGroup asked example = IsGroupExampleOf asked.sheet asked.season asked.question example

-- the reason holds in the zone
abbrev pub RefutesInGroup : AskedInGroup → List Literal → GroupReason → Type 0
RefutesInGroup asked zone reason =
    IsGroupReasonIn asked.sheet asked.season asked.question zone reason

-- the split is one unit of work there
abbrev pub SplitsInGroup : AskedInGroup → List Literal → Test → Type 0
SplitsInGroup asked zone test =
    IsFairGroupSplit direct_places asked.sheet asked.season asked.question zone test

-- ---- what comes of it

-- the tree with these cases, all of whose splits and refuted leaves are new
abbrev pub new_group_tree : Cases GroupReason → GroupTree
new_group_tree left_open = open_zone
new_group_tree (refuted reason) = refuted_zone reason true
new_group_tree (split test yes_half no_half) =
    split_zone test true (new_group_tree yes_half) (new_group_tree no_half)

-- the nodes are those of a refutation, all of it new, with no more nodes than the budget has units
pub record IsGroupRefutedBy (sheet : Sheet) (season : Results) (question : GroupQuestion)
    (budget : ℕ) (nodes : List (CaseNode GroupReason)) : Type 0 where
  pub cases : Cases GroupReason
  pub listed : case_nodes cases ≡ nodes
  pub refuted : IsGroupRefutation direct_places sheet season question (new_group_tree cases)
  pub units : AreSplitsFair direct_places sheet season question (new_group_tree cases)
  pub all_new : IsTrue (are_all_new (new_group_tree cases))
  pub few : length nodes ≤ budget

-- they are those of a tree, all of it new, on which the budget was spent fairly
pub record IsGroupSpentOn (sheet : Sheet) (season : Results) (question : GroupQuestion)
    (budget : ℕ) (nodes : List (CaseNode GroupReason)) : Type 0 where
  pub cases : Cases GroupReason
  pub listed : case_nodes cases ≡ nodes
  pub tree_spent : IsFairlySpentGroupTree direct_places sheet season question budget
      (new_group_tree cases)
  pub all_new : IsTrue (are_all_new (new_group_tree cases))

-- an example, or the nodes of one of these trees
abbrev pub IsGroupSolved : Sheet → Results → GroupQuestion → ℕ → SearchEnd Example GroupReason
    → Type 0
IsGroupSolved sheet season question budget (Won example) =
    IsGroupExampleOf sheet season question example
IsGroupSolved sheet season question budget (Refuted nodes) =
    IsGroupRefutedBy sheet season question budget nodes.items
IsGroupSolved sheet season question budget (Spent nodes) =
    IsGroupSpentOn sheet season question budget nodes.items
