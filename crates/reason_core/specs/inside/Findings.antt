-- What is true of a finding, for a question in a zone of a season: by reasons, fair splits and
-- examples.
use Rattle.std.specs.Prelude.{IsTrue, List}
use Rattle.league_core.specs.declared.sheet.Sheet.{Sheet}
use Rattle.league_core.specs.declared.question.Question.{Question}
use Rattle.league_core.specs.declared.zone.Literal.{Literal}
use Rattle.league_core.specs.game.Results.{Results}
use Rattle.league_core.specs.game.Questions.{IsExample}
use Rattle.league_core.specs.search.Reasons.{has_reason}
use Rattle.league_core.specs.search.Splits.{IsFairSplit}
use Rattle.reason_core.specs.declared.finding.Finding.{Finding}
use Rattle.reason_core.specs.declared.finding.Finding.TheVariants.{Refuted, Split, Won}

-- the finding is true: the reason holds in the zone; the split is one unit of work; the finish and
-- the lots are an example of the question in the season, the lots an order of all clubs
abbrev pub IsTrueFinding : Sheet → Results → Question → List Literal → Finding → Type 0
IsTrueFinding sheet season question zone (Refuted reason) =
    IsTrue (has_reason sheet season question zone reason)
IsTrueFinding sheet season question zone (Split literal) =
    IsFairSplit sheet season question zone literal.test
IsTrueFinding sheet season question zone (Won finish lots) =
    IsExample sheet season question finish lots
