-- What is found in a zone for a question, with near reasons.
use Rattle.std.specs.Prelude.{IsTrue, List}
use Rattle.league_core.specs.declared.sheet.Sheet.{Sheet}
use Rattle.league_core.specs.declared.question.Question.{Question}
use Rattle.league_core.specs.declared.zone.Literal.{Literal}
use Rattle.league_core.specs.game.Results.{Results}
use Rattle.league_core.specs.game.Questions.{IsExample}
use Rattle.tree_arena.specs.declared.example.Example.{Example}
use Rattle.depth_search.specs.declared.kind.ZoneLook.{ZoneLook}
use Rattle.depth_search.specs.inside.Searches.{IsFoundBy}
use Rattle.wide_lines.specs.declared.wide_reason.WideReason.{WideReason}
use Rattle.wide_lines.specs.WideReasons.{has_wide_reason}
use Rattle.decide_run.specs.FairTrees.{IsWideFairSplit}

-- an example of the question
abbrev pub IsWideExampleOf : Sheet → Results → Question → Example → Type 0
IsWideExampleOf sheet season question example =
    IsExample sheet season question example.finish example.lots

-- the reason holds in the zone
abbrev pub IsReasonIn : Sheet → Results → Question → List Literal → WideReason → Type 0
IsReasonIn sheet season question zone reason =
    IsTrue (has_wide_reason sheet season question zone reason)

-- an example, a reason that holds, or a split that is one unit of work
abbrev pub IsLookIn : Sheet → Results → Question → List Literal → ZoneLook Example WideReason
    → Type 0
IsLookIn sheet season question zone look =
    IsFoundBy (IsWideExampleOf sheet season question) (IsReasonIn sheet season question zone)
    (IsWideFairSplit sheet season question zone) look
