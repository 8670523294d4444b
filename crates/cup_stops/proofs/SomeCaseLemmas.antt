-- What can be met can be met: a refuted side of any club of the cup, with one other group as often
-- as groups are listed, and a spent tree about its first club.
use Rattle.std.proofs.Common.{◌≡◌, ◌<◌, ◌≤◌, ℕ, zero, suc, ◌+◌, ℤ, Bool, true, false, not, ◌&&◌}
use Rattle.std.proofs.Common.{◌==◌, List, [], ◌∷◌, ◌++◌, length, Some, None, refl, sym}
use Rattle.std.proofs.Common.{ap, ◌∙◌, inl, arith, nat_lt}
use Rattle.std.specs.Prelude.{All, if◌then◌else◌, slice_get}
use Rattle.std.proofs.lemmas.Bool.{eqb-true, le-leb, ltb-false, ltb-true, ne_eqb}
use Rattle.std.proofs.lemmas.List.Elements.{All-head}
use Rattle.league_core.specs.declared.question.Claim.{Claim}
use Rattle.league_core.specs.declared.question.Claim.TheVariants.{Inside, Outside}
use Rattle.league_core.specs.declared.sheet.Sheet.{Sheet}
use Rattle.league_core.specs.game.Results.{Results}
use Rattle.line_tokens.specs.RowFields.{ask_fields, verdict_fields}
use Rattle.line_tokens.specs.declared.row_word.RowWord.TheVariants as word
use Rattle.line_tokens.specs.declared.tree_line.TreeKind.TheVariants.{Spent}
use Rattle.cup_sheet.specs.declared.question.GroupKind.TheVariants.{Top}
use Rattle.cup_sheet.specs.CupAnswers.{listed_groups}
use Rattle.cup_sheet.specs.Cups.{AreSeasonsOf, IsCup, IsGroup, clubs_together}
use Rattle.cup_groups.specs.declared.start.GroupStart.{GroupStart}
use Rattle.cup_groups.specs.GroupStarts.{start_after}
use Rattle.cup_text.specs.declared.cup_line.CupLine.TheVariants as line
use Rattle.cup_text.specs.CupItems.{cup_club_name}
use Rattle.cup_grammar.specs.declared.token.CupToken.{CupToken}
use Rattle.cup_grammar.specs.declared.token.CupToken.TheVariants.{Proof, Row}
use Rattle.cup_grammar.specs.PlacedGroups.{CupBasis, PlacedGroup, group_with, has_placed_club}
use Rattle.cup_grammar.specs.PlacedGroups.{own_club, placed_from}
use Rattle.cup_grammar.specs.PlacedGroups.{placed_groups}
use Rattle.cup_grammar.specs.CupDues.{CupDue, ask_row, both_parts, club_row}
use Rattle.cup_grammar.specs.CupDues.{finish_head, groups_line, key_line, lots, nodes, one_part}
use Rattle.cup_grammar.specs.CupDues.{score, spent_head, tree_head}
use Rattle.cup_stops.specs.inside.CupCases.{AreOtherGroups}
use Rattle.cup_stops.specs.inside.CupCases.{IsCupCase, IsHeadedSpent}
use Rattle.cup_stops.specs.inside.CupCases.{IsListedSide, IsRefutedSide}
use Rattle.cup_stops.specs.inside.CupStops.{can_be_met}
use Rattle.cup_stops.proofs.SomeTreeLemmas.{some_finish, some_joint, some_refutation}
use Rattle.cup_stops.proofs.SomeTreeLemmas.{some_side_trees, some_trees}

-- ---- groups

-- a club of the groups plays in one of them
plays_in : (start : GroupStart) (groups : List Sheet) (seasons : List Results) (club : ℕ)
    → AreSeasonsOf groups seasons → start.club ≤ club
    → club < start.club + clubs_together groups
    → (mine : PlacedGroup) × (group_with (placed_from start groups seasons) club ≡ Some mine)
plays_in start [] seasons club each least below = absurd (omega (arith, least, below))
plays_in start (group ∷ groups) [] club each least below = absurd each
plays_in start (group ∷ groups) (season ∷ seasons) club each least below =
    by_test (has_placed_club head club) refl
    (λ past. plays_in (start_after start group) groups seasons club each.1 past
    (omega (arith, below)))
  where
    head : PlacedGroup
    head = record { start = start; sheet = group; season = season }

    later : List PlacedGroup
    later = placed_from (start_after start group) groups seasons

    by_test : (test : Bool) → has_placed_club head club ≡ test
        → (start.club + length group.clubs ≤ club
        → (mine : PlacedGroup) × (group_with later club ≡ Some mine))
        → (mine : PlacedGroup)
        × ((if test then Some head else group_with later club) ≡ Some mine)
    by_test true has behind = (head, refl)
    by_test false has behind =
        let ends = start.club + length group.clubs in
        let misses : nat_lt club ends ≡ false =
        sym (ap (λ it. it && nat_lt club ends) (le-leb start.club club least)) ∙ has in
        behind (ltb-false club ends misses)

-- among two groups at least one begins elsewhere than a given one
begins_elsewhere : (limit budget : ℕ) (groups : List Sheet) (seasons : List Results) (first : ℕ)
    → 2 ≤ length groups → All (IsGroup limit budget) groups → AreSeasonsOf groups seasons
    → (number : ℕ) × (group : PlacedGroup)
    × (slice_get (placed_from (record { club = 0; fixture = 0 }) groups seasons) number
    ≡ Some group) × (not (group.start.club == first) ≡ true)
begins_elsewhere limit budget [] seasons first least are each = absurd (omega (arith, least))
begins_elsewhere limit budget (group ∷ []) seasons first least are each =
    absurd (omega (arith, least))
begins_elsewhere limit budget (group ∷ other ∷ groups) [] first least are each = absurd each
begins_elsewhere limit budget (group ∷ other ∷ groups) (season ∷ []) first least are each =
    absurd each.1
begins_elsewhere limit budget (group ∷ other ∷ groups) (season ∷ second ∷ seasons) first least are
    each =
    by_test (0 == first) refl
  where
    start : GroupStart
    start = record { club = 0; fixture = 0 }

    by_test : (test : Bool) → (0 == first) ≡ test
        → (number : ℕ) × (it : PlacedGroup)
        × (slice_get (placed_from (record { club = 0; fixture = 0 }) (group ∷ other ∷ groups)
        (season ∷ second ∷ seasons)) number ≡ Some it) × (not (it.start.club == first) ≡ true)
    by_test false differs = (
      0,
      record { start = start; sheet = group; season = season },
      refl,
      ap not differs,
    )
    by_test true same =
        let is = All-head (IsGroup limit budget) group (other ∷ groups) are in
        let zero_is : 0 ≡ first = eqb-true 0 first same in
        let some = is.least_clubs in (
          1,
          record { start = start_after start group; sheet = other; season = second },
          refl,
          ap not (ne_eqb (0 + length group.clubs) first (λ it. omega (arith, it, zero_is, some))),
        )

-- one group as often as groups are listed
same_listed : (basis : CupBasis) (mine group : PlacedGroup) (number count : ℕ)
    → slice_get (placed_groups basis) number ≡ Some group
    → not (group.start.club == mine.start.club) ≡ true
    → (numbers : List ℕ) × (listed : List PlacedGroup) × (length numbers ≡ count)
    × AreOtherGroups basis mine numbers listed
same_listed basis mine group number zero there other = ([], [], refl, refl)
same_listed basis mine group number (suc count) there other =
    let later = same_listed basis mine group number count there other in (
      number ∷ later.0,
      group ∷ later.1,
      omega (arith, later.2),
      (group, later.1, there, other, later.3, refl),
    )

module _ (basis : CupBasis) (is_cup : IsCup basis.cup)
    (each : AreSeasonsOf basis.cup.groups basis.seasons) where
  -- the group of a club
  group_of : (club : ℕ) → club < clubs_together basis.cup.groups
      → (mine : PlacedGroup) × (group_with (placed_groups basis) club ≡ Some mine)
  group_of club below =
      plays_in (record { club = 0; fixture = 0 }) basis.cup.groups basis.seasons club each
      (omega arith) (omega (arith, below))

  -- there is a club
  has_clubs : (limit budget : ℕ) (groups : List Sheet) → 2 ≤ length groups
      → All (IsGroup limit budget) groups → 0 < clubs_together groups
  has_clubs limit budget [] least are = absurd (omega (arith, least))
  has_clubs limit budget (group ∷ groups) least are =
      let is = All-head (IsGroup limit budget) group groups are in
      let some = is.least_clubs in omega (arith, some)

  -- ---- a side

  some_listed_side : (claim : Claim) (club : ℕ) (key : List ℤ)
      → club < clubs_together basis.cup.groups
      → (tokens : List CupToken) × IsListedSide false basis claim club key tokens
  some_listed_side claim club key below =
      let mine = group_of club below in
      let other = begins_elsewhere is_cup.groups.0 is_cup.groups.1 basis.cup.groups basis.seasons
      mine.0.start.club is_cup.least_groups is_cup.groups.2 each in
      let listed = same_listed basis mine.0 other.1 other.0 (listed_groups basis.cup claim) other.2
      other.3 in
      let trees = some_side_trees claim club key mine.0 listed.1 in (
        Proof (line.Groups (record { list = listed.0 })) ∷ trees.0,
        (
          mine.0,
          record { list = listed.0 },
          listed.1,
          trees.0,
          mine.1,
          listed.2,
          listed.3,
          trees.1,
          refl,
        ),
      )

  some_refuted_side : (claim : Claim) (club : ℕ) → club < clubs_together basis.cup.groups
      → (tokens : List CupToken) × IsRefutedSide false basis claim club tokens
  some_refuted_side claim club below =
      let rest = some_listed_side claim club [] below in (
        Proof (line.KeyLine (record { parts = [] })) ∷ rest.0,
        (record { parts = [] }, rest.0, rest.1, refl),
      )

  some_spent : (tokens : List CupToken) × IsHeadedSpent false basis tokens
  some_spent =
      let mine = group_of 0 (has_clubs is_cup.groups.0 is_cup.groups.1 basis.cup.groups
      is_cup.least_groups is_cup.groups.2) in
      let tree = some_trees Spent mine.0
      (record { kind = Top; club = own_club mine.0 0; key = [] }) ([] ∷ [])
      (record { news = 0; some_open = false }) in (
        Proof (line.Spent Top 0 None) ∷ tree.0,
        (Top, 0, None, mine.0, tree.0, mine.1, tree.1, refl),
      )

  -- ---- anything that can be met

  pub some_case : (due : CupDue) → can_be_met basis due ≡ true
      → (tokens : List CupToken) × IsCupCase false basis due tokens
  some_case ask_row met = (Row (ask_fields basis.epoch) ∷ [], refl)
  some_case (club_row club) met =
      let front = some_finish basis Inside club in
      let back = some_finish basis Outside club in (
        Row (verdict_fields basis.cup.quota (cup_club_name basis.cup club) word.Possible)
            ∷ (front.0 ++ back.0),
        (
          word.Possible,
          front.0 ++ back.0,
          (front.0, back.0, front.1, back.1, refl),
          refl,
        ),
      )
  some_case (key_line claim club) met =
      some_refuted_side claim club (ltb-true club (clubs_together basis.cup.groups) met)
  some_case (groups_line claim club key) met =
      some_listed_side claim club key (ltb-true club (clubs_together basis.cup.groups) met)
  some_case (tree_head group question) met = some_refutation group question
  some_case spent_head met = some_spent
  some_case (finish_head claim club) met = some_finish basis claim club
  some_case (one_part claim club) met =
      let it = some_finish basis claim club in (it.0, inl it.1)
  some_case (both_parts club) met =
      let front = some_finish basis Inside club in
      let back = some_spent in
      (front.0 ++ back.0, (front.0, back.0, inl (front.1, back.1), refl))
  some_case (nodes kind group question zone zones tally) met =
      some_trees kind group question (zone ∷ zones) tally
  some_case (score claim club ended left) met = some_joint basis claim club ended (None ∷ left)
  some_case (lots claim club ended) met = some_joint basis claim club ended []
