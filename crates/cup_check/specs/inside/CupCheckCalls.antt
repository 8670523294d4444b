-- What `check_cup` promises: its answer is that of the reading line by line.
use Rattle.std.specs.Prelude.{ℕ, List, Result}
use Rattle.kept_lines.specs.LineLists.{NumberedLine}
use Rattle.cert_check.specs.declared.stop.Accepted.{Accepted}
use Rattle.cert_check.specs.declared.stop.CheckStop.{CheckStop}
use Rattle.cert_check.specs.inside.Goes.{ChecksWhole}
use Rattle.cup_sheet.specs.Cups.{clubs_together}
use Rattle.cup_grammar.specs.PlacedGroups.{CupBasis}
use Rattle.cup_grammar.specs.CupReports.{cup_part_ending}
use Rattle.cup_grammar.specs.inside.CupRowTruths.{SaysTrulyInCup}

-- a call that checks the part of one ask: it is whole, with a row for each club, and tells the
-- truth; or the reading stops at a line, whose number is returned
abbrev pub ChecksCup : CupBasis → List NumberedLine → ℕ → Result Accepted CheckStop → Type 0
ChecksCup basis lines from result =
    ChecksWhole (cup_part_ending basis lines from) lines (clubs_together basis.cup.groups)
    (SaysTrulyInCup basis lines from) result
