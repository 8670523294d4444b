-- What is found in a zone for a question about a group.
use Rattle.std.specs.Prelude.{ℕ, IsTrue, List}
use Rattle.league_core.specs.declared.sheet.Sheet.{Sheet}
use Rattle.league_core.specs.declared.zone.Literal.{Literal}
use Rattle.league_core.specs.game.Results.{Results}
use Rattle.tree_arena.specs.declared.example.Example.{Example}
use Rattle.depth_search.specs.declared.kind.ZoneLook.{ZoneLook}
use Rattle.depth_search.specs.inside.Searches.{IsFoundBy}
use Rattle.cup_sheet.specs.declared.question.GroupReason.{GroupReason}
use Rattle.cup_sheet.specs.CupLimits.{direct_places}
use Rattle.cup_sheet.specs.GroupQuestions.{GroupQuestion, IsGroupExample, has_group_reason}
use Rattle.cup_sheet.specs.GroupTrees.{proposed_in_group, IsFairGroupSplit}

-- an example of the question
abbrev pub IsGroupExampleOf : Sheet → Results → GroupQuestion → Example → Type 0
IsGroupExampleOf sheet season question example =
    IsGroupExample direct_places sheet season question example.finish example.lots

-- the reason holds in the zone
abbrev pub IsGroupReasonIn : Sheet → Results → GroupQuestion → List Literal → GroupReason → Type 0
IsGroupReasonIn sheet season question zone reason =
    IsTrue (has_group_reason direct_places sheet season question zone reason)

-- with none of the lots is the zone's proposed finish an example
abbrev pub IsVainInGroup : Sheet → Results → GroupQuestion → List Literal → Type 0
IsVainInGroup sheet season question zone =
    (lots : List ℕ) → ¬ IsGroupExample direct_places sheet season question
    (proposed_in_group direct_places sheet season question zone) lots

-- an example, a reason that holds, or a split that is one unit of work
abbrev pub IsGroupLookIn : Sheet → Results → GroupQuestion → List Literal
    → ZoneLook Example GroupReason → Type 0
IsGroupLookIn sheet season question zone look =
    IsFoundBy (IsGroupExampleOf sheet season question) (IsGroupReasonIn sheet season question zone)
    (IsFairGroupSplit direct_places sheet season question zone) look
