-- What it means that a call reads what is due in a report on a cup: the words of Goes at the
-- grammar of reports on cups.
use Rattle.std.specs.Prelude.{ℕ, ◌+◌, IsTrue, List, Result, if◌then◌else◌}
use Rattle.line_tokens.specs.declared.row_word.RowWord.{RowWord}
use Rattle.league_core.specs.game.Results.{Results}
use Rattle.cert_check.specs.declared.item.PartRead.{PartRead}
use Rattle.cert_check.specs.declared.stop.CheckStopAt.{CheckStopAt}
use Rattle.cert_check.specs.LineGrammars.{Ending}
use Rattle.cert_check.specs.inside.Goes.{LinesView, rest_ending, HaltsBy, GoesBy, IsNextLine}
use Rattle.cert_check.specs.inside.Goes.{FindsNextLine, GoesByFound, AllHaltBy, GoesAfterBy}
use Rattle.cert_check.specs.inside.Goes.{GoesOverBy, ReachesBy}
use Rattle.cert_check.specs.inside.Calls.{unsettled_in}
use Rattle.cup_sheet.specs.declared.cup.Cup.{Cup}
use Rattle.cup_sheet.specs.Cups.{AreSeasonsOf, IsCup}
use Rattle.cup_grammar.specs.declared.token.CupToken.{CupToken}
use Rattle.cup_grammar.specs.PlacedGroups.{CupBasis}
use Rattle.cup_grammar.specs.CupDues.{CupDue, club_row}
use Rattle.cup_grammar.specs.CupExpected.{after_in_cup, dues_of_cup_word}
use Rattle.cup_grammar.specs.CupReports.{cup_grammar, is_unsettled_club}
use Rattle.cup_grammar.specs.inside.CupParts.{is_token_in_range}
use Rattle.cup_grammar.specs.inside.CupRowTruths.{counts_in_cup}

-- what is judged: by what, and which lines
abbrev pub CupReportView : Type 0
CupReportView = LinesView CupBasis CupToken

-- a cup that may be played, and a season of each of its groups
pub record IsJudgedInCup (cup : Cup) (seasons : List Results) : Type 0 where
  pub is_cup : IsCup cup
  pub of_groups : AreSeasonsOf cup.groups seasons

-- one more, if the line is the row of a club that is not settled
abbrev pub with_unsettled_club : ℕ → CupToken → ℕ
with_unsettled_club unsettled token =
    if is_unsettled_club token then unsettled + 1 else unsettled

-- what the lines from a position on come to, if this is due first
abbrev pub cup_ending_from : CupReportView → ℕ → List CupDue → ℕ → Ending
cup_ending_from judged from dues unsettled = rest_ending cup_grammar judged from dues unsettled

-- ---- the next line

-- a line that counts, its numbers within their ranges
pub record IsCountedInCup (token : CupToken) : Type 0 where
  pub counts : IsTrue (counts_in_cup token)
  pub in_range : IsTrue (is_token_in_range token)

-- the next line that counts
abbrev pub IsNextInCup : CupReportView → ℕ → ℕ → CupToken → Type 0
IsNextInCup judged from at token =
    IsNextLine cup_grammar IsCountedInCup after_in_cup with_unsettled_club judged from at token

-- a call that looks for the next line that counts: there is none if lines are missing
abbrev pub FindsNextInCup : CupReportView → ℕ → Result (ℕ × CupToken) CheckStopAt → Type 0
FindsNextInCup judged from result =
    FindsNextLine cup_grammar IsCountedInCup after_in_cup with_unsettled_club judged from result

-- ---- one thing due

-- the reading stops so, whatever else is due
abbrev pub HaltsInCup : CupReportView → ℕ → CupDue → CheckStopAt → Type 0
HaltsInCup judged from due stop = HaltsBy cup_grammar judged from due stop

-- the position from which the rest is read, if what was due is shown; or why the reading stops
abbrev pub GoesInCup : CupReportView → ℕ → CupDue → Result ℕ CheckStopAt → Type 0
GoesInCup judged from due result = GoesBy cup_grammar judged from due result

-- the row of a club leaves due what its word asks for
abbrev pub GoesByClubWord : CupReportView → ℕ → ℕ → Result (ℕ × RowWord) CheckStopAt → Type 0
GoesByClubWord judged from club result =
    GoesByFound cup_grammar judged from (club_row club) (dues_of_cup_word club) unsettled_in result

-- ---- several

-- the reading stops so when all of this is due, whatever else is
abbrev pub AllHaltInCup : CupReportView → ℕ → List CupDue → CheckStopAt → Type 0
AllHaltInCup judged from wanted stop = AllHaltBy cup_grammar judged from wanted stop

-- the position from which the rest is read, when all of this is shown; or why the reading stops
abbrev pub GoesAfterInCup : CupReportView → ℕ → List CupDue → Result ℕ CheckStopAt → Type 0
GoesAfterInCup judged from wanted result = GoesAfterBy cup_grammar judged from wanted result

-- items are shown, with so many unsettled rows among them, or the reading stops
abbrev pub GoesOverCup : CupReportView → ℕ → List CupDue → Result PartRead CheckStopAt → Type 0
GoesOverCup judged from wanted result = GoesOverBy cup_grammar judged from wanted result

-- what is due is shown up to a position, with so many unsettled rows, and the rest is still due
abbrev pub ReachesInCup : CupReportView → ℕ → List CupDue → ℕ → List CupDue → ℕ → Type 0
ReachesInCup judged from wanted at left unsettled =
    ReachesBy cup_grammar judged from wanted at left unsettled
