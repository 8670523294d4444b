-- What the calls come to that read a tree about a group of a cup, node by node.
use Rattle.std.specs.Prelude.{◌≡◌, ◌<◌, ◌≤◌, ℕ, Bool, IsTrue, List, ◌∷◌, length}
use Rattle.std.specs.Prelude.{map, Option, Some, None, if◌then◌else◌, Result, Ok, Err}
use Rattle.std.specs.List.{list_all}
use Rattle.league_core.specs.inside.Pending.{pending_of}
use Rattle.check_bounds.specs.inside.Trails.{TrailView}
use Rattle.cert_check.specs.declared.stop.CheckStopAt.{CheckStopAt}
use Rattle.cert_check.specs.LineGrammars.{Next}
use Rattle.cup_groups.specs.inside.KindQuestions.{group_question_of}
use Rattle.cup_grammar.specs.PlacedGroups.{OwnNode, PlacedGroup, has_placed_club, is_group_test}
use Rattle.cup_grammar.specs.PlacedGroups.{open_node, own_club, refuted_node, split_node}
use Rattle.cup_grammar.specs.CupDues.{CupDue, after_group_node, nodes}
use Rattle.cup_check.specs.inside.CupGoes.{CupReportView, HaltsInCup, cup_ending_from}
use Rattle.cup_check.specs.declared.leaf.GroupNode.{GroupNode}
use Rattle.cup_check.specs.declared.leaf.GroupNode.TheVariants as told
use Rattle.cup_check.specs.declared.walk.GroupTreeSpec.{GroupTreeSpec}
use Rattle.cup_check.specs.declared.walk.GroupWalk.{GroupWalk}

-- the clubs of a cut by their numbers in the group, if all are of it
abbrev pub own_numbers : PlacedGroup → List ℕ → Option (List ℕ)
own_numbers group clubs =
    if list_all (has_placed_club group) clubs then Some (map (own_club group) clubs) else None

-- a node as the code has it
abbrev pub node_seen : GroupNode → OwnNode
node_seen (told.Split test fresh) = split_node test fresh
node_seen (told.Refuted reason fresh) = refuted_node reason fresh
node_seen told.Open = open_node

-- a place of the group's season
pub record IsInGroup (group : PlacedGroup) (path : TrailView) : Type 0 where
  pub sheet : path.sheet ≡ group.sheet
  pub season : path.season ≡ group.season

-- a place of the group's season, whose zone a tree for the question can have
pub record IsPathInGroup (group : PlacedGroup) (wanted : GroupTreeSpec) (path : TrailView)
    : Type 0 where
  pub inside : IsInGroup group path
  pub tests : IsTrue (list_all (λ it. is_group_test group (group_question_of wanted.question)
      it.test) path.zone)

-- what is due when the reading of a tree stands so
abbrev pub group_nodes_due : PlacedGroup → GroupTreeSpec → GroupWalk → CupDue
group_nodes_due group wanted walk =
    nodes wanted.kind group (group_question_of wanted.question) walk.path.zone
    (pending_of walk.path.zone) walk.tally

-- what is due after a node when it stands so
abbrev pub after_group_walked : PlacedGroup → GroupTreeSpec → GroupWalk → OwnNode → Next CupDue
after_group_walked group wanted walk node =
    after_group_node wanted.kind group (group_question_of wanted.question) walk.path.zone
    (pending_of walk.path.zone) walk.tally node

-- a call that goes on over one node: nodes are still due after it, unless the tree is whole
abbrev pub GoesOverNode : CupReportView → ℕ → CupDue → CupDue → Result (ℕ × Bool) CheckStopAt
    → Type 0
GoesOverNode judged from due later (Ok found) =
    (from < found.0)
    × (found.0 ≤ length judged.tokens)
    × ((dues : List CupDue) (unsettled : ℕ)
    → cup_ending_from judged from (due ∷ dues) unsettled
    ≡ cup_ending_from judged found.0 (if found.1 then dues else later ∷ dues) unsettled)
GoesOverNode judged from due later (Err stop) = HaltsInCup judged from due stop
