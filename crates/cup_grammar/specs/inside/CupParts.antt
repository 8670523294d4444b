-- What the lines that are read for something due show, if each of them proves what it says: a true
-- row, that a side is refuted, or a joint finish of it. A tree on which the budget was spent shows
-- nothing of a club.
use Rattle.std.specs.Prelude.{◌≡◌, ℕ, ℤ, Bool, true, false, IsTrue, List, [], ◌∷◌, ◌++◌, length}
use Rattle.std.specs.Prelude.{Option, None}
use Rattle.league_core.specs.declared.question.Claim.{Claim}
use Rattle.league_core.specs.declared.season.Score.{Score}
use Rattle.league_core.specs.declared.zone.Literal.{Literal}
use Rattle.league_core.specs.game.Finishes.{may_all_end}
use Rattle.league_core.specs.game.Ranking.{are_lots}
use Rattle.line_tokens.specs.RowFields.{ask_fields}
use Rattle.line_tokens.specs.declared.tree_line.TreeKind.{TreeKind}
use Rattle.line_tokens.specs.declared.tree_line.TreeKind.TheVariants.{Refutation, Spent}
use Rattle.cert_check.specs.inside.LineParts.{PartGrammar}
use Rattle.cup_sheet.specs.CupAnswers.{HasCupExample, IsCupRefuted, IsRefutedInGroup, qualifies_on}
use Rattle.cup_sheet.specs.CupFeeds.{goal_limit_of}
use Rattle.cup_sheet.specs.CupLimits.{direct_places}
use Rattle.cup_sheet.specs.Cups.{clubs_together}
use Rattle.cup_sheet.specs.GroupQuestions.{GroupQuestion, has_group_reason}
use Rattle.cup_sheet.specs.GroupTrees.{GroupTree, ZonesMeet, has_open_zone}
use Rattle.cup_sheet.specs.JointFinishes.{GroupState}
use Rattle.cup_sheet.specs.Qualifying.{qualifies_at}
use Rattle.cup_text.specs.CupRanges.{is_cup_line}
use Rattle.cup_grammar.specs.declared.token.CupToken.{CupToken}
use Rattle.cup_grammar.specs.declared.token.CupToken.TheVariants.{Blank, Row, Proof, Unknown}
use Rattle.cup_grammar.specs.PlacedGroups.{CupBasis, PlacedGroup}
use Rattle.cup_grammar.specs.CupDues.{CupDue, ask_row, club_row, key_line, groups_line, tree_head}
use Rattle.cup_grammar.specs.CupDues.{spent_head, finish_head, one_part, both_parts, nodes, score}
use Rattle.cup_grammar.specs.CupDues.{lots, ends_of_groups}
use Rattle.cup_grammar.specs.CupReports.{cup_grammar}
use Rattle.cup_grammar.specs.inside.CupRowTruths.{IsTrueClubRow, counts_in_cup}

-- a group as the cup's definitions see it: where its fixtures begin does not matter there
abbrev pub state_of_group : PlacedGroup → GroupState
state_of_group group = record {
  block = record { first = group.start.club; count = length group.sheet.clubs };
  sheet = group.sheet;
  results = group.season;
}

-- ---- lines

-- the numbers of a proof line are such as its form has
abbrev pub is_token_in_range : CupToken → Bool
is_token_in_range Blank = true
is_token_in_range (Row fields) = true
is_token_in_range (Proof it) = is_cup_line it
is_token_in_range Unknown = true

-- so they are if the line was read
abbrev pub IsReadInCup : CupToken → Type 0
IsReadInCup token = IsTrue (is_token_in_range token)

-- ---- trees

-- below this zone a tree refutes the question about the group
abbrev pub IsRefutedInZone : PlacedGroup → GroupQuestion → List Literal → Type 0
IsRefutedInZone group question zone =
    (tree : GroupTree) × (has_open_zone tree ≡ false)
    × ZonesMeet
    (λ it reason fresh.
    IsTrue (has_group_reason direct_places group.sheet group.season question it reason))
    (λ it test fresh. Unit {0}) zone tree

-- and so below each of these
abbrev pub AreRefutedInZones : PlacedGroup → GroupQuestion → List (List Literal) → Type 0
AreRefutedInZones group question [] = Unit {0}
AreRefutedInZones group question (zone ∷ zones) =
    IsRefutedInZone group question zone × AreRefutedInZones group question zones

-- what the nodes of a tree of this kind show
abbrev pub ShowsZones : TreeKind → PlacedGroup → GroupQuestion → List (List Literal) → Type 0
ShowsZones Refutation group question zones = AreRefutedInZones group question zones
ShowsZones Spent group question zones = Unit {0}

-- ---- sides

-- the side is refuted, with this key
abbrev pub IsRefutedWithKey : CupBasis → Claim → ℕ → List ℤ → Type 0
IsRefutedWithKey basis claim club key =
    (listed : List ℕ) × IsCupRefuted basis.cup basis.seasons claim club key listed

-- the fixtures that are left can end, and lots can be drawn, so that the club is on the side
abbrev pub CanEndFrom : CupBasis → Claim → ℕ → List (Option Score) → List (Option Score) → Type 0
CanEndFrom basis claim club ended left =
    (scores : List (Option Score)) × (drawn : List ℕ)
    × IsTrue (may_all_end (goal_limit_of basis.cup.groups) left scores)
    × IsTrue (are_lots (clubs_together basis.cup.groups) drawn)
    × (qualifies_at basis.cup (ends_of_groups basis.seasons (ended ++ scores)) drawn club
    ≡ qualifies_on claim)

-- ---- what is due

-- what the lines show that are read for it
abbrev pub ShowsDue : CupBasis → CupDue → List CupToken → Type 0
ShowsDue basis ask_row tokens = tokens ≡ Row (ask_fields basis.epoch) ∷ []
ShowsDue basis (club_row club) tokens = IsTrueClubRow basis club tokens
ShowsDue basis (key_line claim club) tokens = (key : List ℤ) × IsRefutedWithKey basis claim club key
ShowsDue basis (groups_line claim club key) tokens = IsRefutedWithKey basis claim club key
ShowsDue basis (tree_head group question) tokens = IsRefutedInGroup (state_of_group group) question
ShowsDue basis spent_head tokens = Unit {0}
ShowsDue basis (finish_head claim club) tokens = HasCupExample basis.cup basis.seasons claim club
ShowsDue basis (one_part claim club) tokens = Unit {0}
ShowsDue basis (both_parts club) tokens = Unit {0}
ShowsDue basis (nodes kind group question zone zones tally) tokens =
    ShowsZones kind group question (zone ∷ zones)
ShowsDue basis (score claim club ended left) tokens =
    CanEndFrom basis claim club ended (None ∷ left)
ShowsDue basis (lots claim club ended) tokens = CanEndFrom basis claim club ended []

-- the grammar of reports on cups with what its parts show
abbrev pub cup_parts : PartGrammar CupBasis CupToken CupDue
cup_parts = record {
  reads = cup_grammar;
  counts = counts_in_cup;
  IsPart = λ proved basis due tokens. ShowsDue basis due tokens;
}
