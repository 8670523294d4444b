-- Wide reasons: the reasons of a zone, and the near reason by a rival.
use Rattle.std.specs.Prelude.{Bool, List}
use Rattle.league_core.specs.declared.sheet.Sheet.{Sheet}
use Rattle.league_core.specs.declared.question.Question.{Question}
use Rattle.league_core.specs.declared.zone.Literal.{Literal}
use Rattle.league_core.specs.game.Results.{Results}
use Rattle.league_core.specs.search.Reasons.{has_reason}
use Rattle.near_laws.specs.Near.{has_near_reason}
use Rattle.wide_lines.specs.declared.wide_reason.WideReason.{WideReason}
use Rattle.wide_lines.specs.declared.wide_reason.WideReason.TheVariants.{Plain, Near}

-- the reason holds in the zone
abbrev pub has_wide_reason : Sheet → Results → Question → List Literal → WideReason → Bool
has_wide_reason sheet season question zone (Plain reason) =
    has_reason sheet season question zone reason
has_wide_reason sheet season question zone (Near rival) =
    has_near_reason sheet season question zone rival
