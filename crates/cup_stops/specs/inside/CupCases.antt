-- The grammar of a report on a cup by cases, over its lines without those that are passed over.
-- With `proved` true a part also proves what it says; with `proved` false it need not.
use Rattle.std.specs.Prelude.{◌≡◌, ◌⊎◌, ℕ, ℤ, Bool, not, ◌==◌, IsTrue, List, [], ◌∷◌, ◌++◌}
use Rattle.std.specs.Prelude.{length, map, Option, Some, None, option_map, slice_get}
use Rattle.std.specs.Bool.{OnTrue}
use Rattle.league_core.specs.declared.season.Score.{Score}
use Rattle.league_core.specs.declared.question.Claim.{Claim}
use Rattle.league_core.specs.declared.question.Claim.TheVariants.{Inside, Outside}
use Rattle.league_core.specs.game.Finishes.{may_all_end}
use Rattle.league_core.specs.game.Ranking.{are_lots}
use Rattle.league_core.specs.game.Sheets.{clubs_of}
use Rattle.line_tokens.specs.RowFields.{ask_fields, verdict_fields}
use Rattle.line_tokens.specs.declared.row_word.RowWord.{RowWord}
use Rattle.line_tokens.specs.declared.row_word.RowWord.TheVariants as word
use Rattle.line_tokens.specs.declared.tree_line.TreeKind.TheVariants.{Spent}
use Rattle.cert_check.specs.inside.LineParts.{PartGrammar}
use Rattle.cup_sheet.specs.declared.question.GroupKind.{GroupKind}
use Rattle.cup_sheet.specs.CupAnswers.{listed_groups, qualifies_on}
use Rattle.cup_sheet.specs.CupFeeds.{goal_limit_of}
use Rattle.cup_sheet.specs.Cups.{clubs_together}
use Rattle.cup_sheet.specs.KeyBounds.{nearer_kind, others_kind, place_kind}
use Rattle.cup_sheet.specs.Qualifying.{qualifies_at}
use Rattle.cup_text.specs.CupItems.{cup_club_name, group_scores_from}
use Rattle.cup_text.specs.declared.cup_line.CupKey.{CupKey}
use Rattle.cup_text.specs.declared.cup_line.GroupList.{GroupList}
use Rattle.cup_text.specs.declared.cup_line.CupLine.TheVariants as line
use Rattle.cup_grammar.specs.declared.token.CupToken.{CupToken}
use Rattle.cup_grammar.specs.declared.token.CupToken.TheVariants.{Proof, Row}
use Rattle.cup_grammar.specs.PlacedGroups.{CupBasis, PlacedGroup, group_with, own_club}
use Rattle.cup_grammar.specs.PlacedGroups.{placed_groups}
use Rattle.cup_grammar.specs.CupDues.{CupDue, ask_row, club_row, key_line, groups_line, tree_head}
use Rattle.cup_grammar.specs.CupDues.{spent_head, finish_head, one_part, both_parts, nodes, score}
use Rattle.cup_grammar.specs.CupDues.{lots, ends_of_groups, key_of_head, scores_of_groups}
use Rattle.cup_grammar.specs.CupReports.{cup_grammar}
use Rattle.cup_grammar.specs.inside.CupRowTruths.{counts_in_cup}
use Rattle.cup_stops.specs.inside.GroupTreeCases.{AreGroupTrees, IsGroupTree, IsHeadedRefutation}

-- lines one after another, some for each of these things, in their order
abbrev pub AreTokensOf : {A : Type 0} → (A → List CupToken → Type 0) → List A → List CupToken
    → Type 0
AreTokensOf IsPart [] tokens = tokens ≡ []
AreTokensOf {A} IsPart (x ∷ xs) tokens =
    (front : List CupToken) × (back : List CupToken) × IsPart x front
    × AreTokensOf IsPart xs back × (tokens ≡ front ++ back)

-- ---- joint finishes and spent trees

-- scores for the fixtures that are left, in the order of the cup, and lots of all clubs; proved,
-- the club is on the side with them
abbrev pub IsJointFrom : Bool → CupBasis → Claim → ℕ → List (Option Score) → List (Option Score)
    → List CupToken → Type 0
IsJointFrom proved basis claim club ended left tokens =
    (scores : List (Option Score)) × (drawn : List ℕ)
    × IsTrue (may_all_end (goal_limit_of basis.cup.groups) left scores)
    × IsTrue (are_lots (clubs_together basis.cup.groups) drawn)
    × OnTrue proved
    (qualifies_at basis.cup (ends_of_groups basis.seasons (ended ++ scores)) drawn club
    ≡ qualifies_on claim)
    × (tokens ≡ map Proof
    (group_scores_from (length ended) left scores ++ line.Lots (record { list = drawn }) ∷ []))

-- a joint finish for a side, under its head
abbrev pub IsHeadedFinish : Bool → CupBasis → Claim → ℕ → List CupToken → Type 0
IsHeadedFinish proved basis claim club tokens =
    (rest : List CupToken)
    × IsJointFrom proved basis claim club [] (scores_of_groups basis.seasons) rest
    × (tokens ≡ Proof (line.Finish claim) ∷ rest)

-- a tree on which the budget was spent, under its head: of any kind, about any club of the cup,
-- with any key
abbrev pub IsHeadedSpent : Bool → CupBasis → List CupToken → Type 0
IsHeadedSpent proved basis tokens =
    (kind : GroupKind) × (club : ℕ) × (key : Option CupKey) × (group : PlacedGroup)
    × (rest : List CupToken) × (group_with (placed_groups basis) club ≡ Some group)
    × IsGroupTree proved Spent group
    (record {
      kind = kind;
      club = own_club group club;
      key = key_of_head (option_map (λ it. it.parts) key);
    }) rest
    × (tokens ≡ Proof (line.Spent kind club key) ∷ rest)

-- one of the two
abbrev pub IsFinishOrSpent : Bool → CupBasis → Claim → ℕ → List CupToken → Type 0
IsFinishOrSpent proved basis claim club tokens =
    IsHeadedFinish proved basis claim club tokens ⊎ IsHeadedSpent proved basis tokens

-- a joint finish for each side
abbrev pub AreTwoFinishes : Bool → CupBasis → ℕ → List CupToken → Type 0
AreTwoFinishes proved basis club tokens =
    (front : List CupToken) × (back : List CupToken)
    × IsHeadedFinish proved basis Inside club front
    × IsHeadedFinish proved basis Outside club back
    × (tokens ≡ front ++ back)

-- one of the two for each side, at least once a spent tree
abbrev pub AreUnsettledSides : Bool → CupBasis → ℕ → List CupToken → Type 0
AreUnsettledSides proved basis club tokens =
    (front : List CupToken) × (back : List CupToken)
    × ((IsHeadedFinish proved basis Inside club front × IsHeadedSpent proved basis back)
    ⊎ (IsHeadedSpent proved basis front × IsFinishOrSpent proved basis Outside club back))
    × (tokens ≡ front ++ back)

-- ---- refuted sides

-- the numbers are those of these groups, all of them other ones than the club's
abbrev pub AreOtherGroups : CupBasis → PlacedGroup → List ℕ → List PlacedGroup → Type 0
AreOtherGroups basis mine [] groups = groups ≡ []
AreOtherGroups basis mine (number ∷ numbers) groups =
    (group : PlacedGroup) × (later : List PlacedGroup)
    × (slice_get (placed_groups basis) number ≡ Some group)
    × IsTrue (not (group.start.club == mine.start.club))
    × AreOtherGroups basis mine numbers later × (groups ≡ group ∷ later)

-- refutations about each club of a group: none is its group's candidate on the far side of the key
abbrev pub AreOthersRefuted : Bool → Claim → List ℤ → PlacedGroup → List CupToken → Type 0
AreOthersRefuted proved claim key group tokens =
    AreTokensOf
    (λ other. IsHeadedRefutation proved group
    (record { kind = others_kind claim; club = other; key = key }))
    (clubs_of group.sheet) tokens

-- the refutations of a side: of what is asked of the club's place, of a nearer key, and of all
-- clubs of the listed groups
abbrev pub AreSideTrees : Bool → Claim → ℕ → List ℤ → PlacedGroup → List PlacedGroup
    → List CupToken → Type 0
AreSideTrees proved claim club key mine listed tokens =
    (by_place : List CupToken) × (by_key : List CupToken) × (others : List CupToken)
    × IsHeadedRefutation proved mine
    (record { kind = place_kind claim; club = own_club mine club; key = [] }) by_place
    × IsHeadedRefutation proved mine
    (record { kind = nearer_kind claim; club = own_club mine club; key = key }) by_key
    × AreTokensOf (AreOthersRefuted proved claim key) listed others
    × (tokens ≡ by_place ++ (by_key ++ others))

-- the numbers of as many other groups as are listed, and the refutations; that the numbers rise is
-- a matter of the line's form
abbrev pub IsListedSide : Bool → CupBasis → Claim → ℕ → List ℤ → List CupToken → Type 0
IsListedSide proved basis claim club key tokens =
    (mine : PlacedGroup) × (groups : GroupList) × (listed : List PlacedGroup)
    × (rest : List CupToken) × (group_with (placed_groups basis) club ≡ Some mine)
    × (length groups.list ≡ listed_groups basis.cup claim)
    × AreOtherGroups basis mine groups.list listed
    × AreSideTrees proved claim club key mine listed rest
    × (tokens ≡ Proof (line.Groups groups) ∷ rest)

-- a side that is refuted, from its key on
abbrev pub IsRefutedSide : Bool → CupBasis → Claim → ℕ → List CupToken → Type 0
IsRefutedSide proved basis claim club tokens =
    (key : CupKey) × (rest : List CupToken)
    × IsListedSide proved basis claim club key.parts rest
    × (tokens ≡ Proof (line.KeyLine key) ∷ rest)

-- ---- items

-- what comes after the row of a word
abbrev pub IsAfterClubRow : Bool → CupBasis → ℕ → RowWord → List CupToken → Type 0
IsAfterClubRow proved basis club word.Clinched tokens =
    IsRefutedSide proved basis Outside club tokens
IsAfterClubRow proved basis club word.Lost tokens = IsRefutedSide proved basis Inside club tokens
IsAfterClubRow proved basis club word.Possible tokens = AreTwoFinishes proved basis club tokens
IsAfterClubRow proved basis club word.Unsettled tokens = AreUnsettledSides proved basis club tokens

-- an item: the row of a club, with the quota in the place of a line, and what its word asks for
abbrev pub IsClubItem : Bool → CupBasis → ℕ → List CupToken → Type 0
IsClubItem proved basis club tokens =
    (said : RowWord) × (rest : List CupToken) × IsAfterClubRow proved basis club said rest
    × (tokens ≡ Row (verdict_fields basis.cup.quota (cup_club_name basis.cup club) said) ∷ rest)

-- the lines that may stand for what is due
abbrev pub IsCupCase : Bool → CupBasis → CupDue → List CupToken → Type 0
IsCupCase proved basis ask_row tokens = tokens ≡ Row (ask_fields basis.epoch) ∷ []
IsCupCase proved basis (club_row club) tokens = IsClubItem proved basis club tokens
IsCupCase proved basis (key_line claim club) tokens = IsRefutedSide proved basis claim club tokens
IsCupCase proved basis (groups_line claim club key) tokens =
    IsListedSide proved basis claim club key tokens
IsCupCase proved basis (tree_head group question) tokens =
    IsHeadedRefutation proved group question tokens
IsCupCase proved basis spent_head tokens = IsHeadedSpent proved basis tokens
IsCupCase proved basis (finish_head claim club) tokens =
    IsHeadedFinish proved basis claim club tokens
IsCupCase proved basis (one_part claim club) tokens =
    IsFinishOrSpent proved basis claim club tokens
IsCupCase proved basis (both_parts club) tokens = AreUnsettledSides proved basis club tokens
IsCupCase proved basis (nodes kind group question zone zones tally) tokens =
    AreGroupTrees proved kind group question (zone ∷ zones) tally tokens
IsCupCase proved basis (score claim club ended left) tokens =
    IsJointFrom proved basis claim club ended (None ∷ left) tokens
IsCupCase proved basis (lots claim club ended) tokens =
    IsJointFrom proved basis claim club ended [] tokens

-- the grammar of reports on cups with these parts
abbrev pub cup_cases : PartGrammar CupBasis CupToken CupDue
cup_cases = record { reads = cup_grammar; counts = counts_in_cup; IsPart = IsCupCase }
