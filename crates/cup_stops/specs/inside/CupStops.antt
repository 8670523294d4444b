-- The laws that join the reading of a report on a cup line by line with its grammar by cases: each
-- statement is the contract of a function of src/laws.rt that does nothing.
use Rattle.std.specs.Prelude.{◌≡◌, ◌↔◌, ◌≤◌, ℕ, ◌+◌, Bool, true, IsTrue, List, ◌++◌, length}
use Rattle.std.specs.Prelude.{nat_lt}
use Rattle.std.specs.List.{list_all}
use Rattle.cert_check.specs.LineGrammars.{whole_at, bad_line, no_proof, short}
use Rattle.cert_check.specs.inside.LineParts.{AreAllParts, unsettled_with}
use Rattle.cert_check.specs.inside.LineParts.{IsBadLineAt, IsUnprovedAt, AreTooFew}
use Rattle.cup_sheet.specs.Cups.{AreSeasonsOf, IsCup, clubs_together}
use Rattle.cup_grammar.specs.declared.token.CupToken.{CupToken}
use Rattle.cup_grammar.specs.PlacedGroups.{CupBasis}
use Rattle.cup_grammar.specs.CupDues.{CupDue, club_row, key_line, groups_line}
use Rattle.cup_grammar.specs.CupReports.{cup_ending_of, is_unsettled_club, part_of_cup_ask}
use Rattle.cup_grammar.specs.inside.CupRowTruths.{counts_in_cup, counted_in_cup}
use Rattle.cup_stops.specs.inside.CupCases.{cup_cases}

-- ---- where the laws hold

-- the number is that of a club of the cup
abbrev pub is_club_of_cup : CupBasis → ℕ → Bool
is_club_of_cup basis club = nat_lt club (clubs_together basis.cup.groups)

-- what is due can be met: a side is refuted only of a club that plays in a group
abbrev pub can_be_met : CupBasis → CupDue → Bool
can_be_met basis (club_row club) = is_club_of_cup basis club
can_be_met basis (key_line claim club) = is_club_of_cup basis club
can_be_met basis (groups_line claim club key) = is_club_of_cup basis club
can_be_met basis _ = true

-- a cup that may be played, with the seasons of its groups, and all that is due can be met
pub record AreDueInCup (basis : CupBasis) (dues : List CupDue) : Type 0 where
  pub is_cup : IsCup basis.cup
  pub each : AreSeasonsOf basis.cup.groups basis.seasons
  pub met : IsTrue (list_all (can_be_met basis) dues)

-- so is all that an answer is made of
abbrev pub AnswersAreDue : Type 0
AnswersAreDue =
    (basis : CupBasis) → IsCup basis.cup → AreSeasonsOf basis.cup.groups basis.seasons
    → AreDueInCup basis (part_of_cup_ask basis.cup)

-- ---- stops

-- a line is refused exactly when it does not fit
abbrev pub BadCupLinesDoNotFit : Type 0
BadCupLinesDoNotFit =
    (basis : CupBasis) (tokens : List CupToken) (dues : List CupDue) (at unsettled place : ℕ)
    → AreDueInCup basis dues
    → (cup_ending_of basis tokens dues at unsettled ≡ bad_line (at + place))
    ↔ IsBadLineAt cup_cases basis tokens dues place

-- a line is named as no proof exactly when it is the first that does not prove what it says
abbrev pub UnprovedCupLinesFit : Type 0
UnprovedCupLinesFit =
    (basis : CupBasis) (tokens : List CupToken) (dues : List CupDue) (at unsettled place : ℕ)
    → AreDueInCup basis dues
    → (cup_ending_of basis tokens dues at unsettled ≡ no_proof (at + place))
    ↔ IsUnprovedAt cup_cases basis tokens dues place

-- lines are said to be missing exactly when they are too few
abbrev pub ShortCupReportsBegin : Type 0
ShortCupReportsBegin =
    (basis : CupBasis) (tokens : List CupToken) (dues : List CupDue) (at unsettled : ℕ)
    → AreDueInCup basis dues
    → (cup_ending_of basis tokens dues at unsettled ≡ short)
    ↔ AreTooFew cup_cases basis tokens dues

-- ---- what is read as whole

-- what is read as whole up to a position are lines that prove what is due, some passed over among
-- them, and its unsettled rows are theirs
abbrev pub AcceptedCupCasesAreProved : Type 0
AcceptedCupCasesAreProved =
    (basis : CupBasis) (tokens : List CupToken) (dues : List CupDue) (at unsettled to found : ℕ)
    → AreDueInCup basis dues → cup_ending_of basis tokens dues at unsettled ≡ whole_at to found
    → (taken : List CupToken) × (rest : List CupToken) × (tokens ≡ taken ++ rest)
    × (to ≡ at + length taken) × (found ≡ unsettled_with is_unsettled_club unsettled taken)
    × AreAllParts cup_cases true basis dues (counted_in_cup taken)

-- lines that prove what is due are read as whole, whatever follows; the last of them that counts is
-- the last that is read
abbrev pub ProvedCupCasesAreAccepted : Type 0
ProvedCupCasesAreAccepted =
    (basis : CupBasis) (taken rest : List CupToken) (dues : List CupDue) (at unsettled : ℕ)
    → AreDueInCup basis dues → AreAllParts cup_cases true basis dues (counted_in_cup taken)
    → (to : ℕ) × (cup_ending_of basis (taken ++ rest) dues at unsettled
    ≡ whole_at to (unsettled_with is_unsettled_club unsettled taken))
    × (to ≤ at + length taken)
    × (IsTrue (list_all counts_in_cup taken) → to ≡ at + length taken)
