-- The lines of a refuted side are those of an answer: the key, the list of groups, and the trees of
-- refutations.
use Rattle.std.proofs.Common.{◌≡◌, ℕ, zero, suc, ◌+◌, ℤ, List, [], ◌∷◌, ◌++◌, length, map, take}
use Rattle.std.proofs.Common.{Some, slice_get, refl, sym, ap, ◌∙◌, subst, arith}
use Rattle.std.specs.Prelude.{All}
use Rattle.std.specs.List.{flat_map, range_with_len}
use Rattle.std.proofs.lemmas.List.{append_assoc, take-map}
use Rattle.league_core.specs.declared.sheet.Sheet.{Sheet}
use Rattle.league_core.specs.declared.question.Claim.{Claim}
use Rattle.league_core.specs.game.Results.{Results}
use Rattle.club_keys.specs.inside.KeyEnds.{key_parts}
use Rattle.depth_search.specs.declared.kind.CaseNode.{CaseNode}
use Rattle.cup_sheet.specs.declared.cup.Cup.{Cup}
use Rattle.cup_sheet.specs.declared.question.GroupKind.{GroupKind}
use Rattle.cup_sheet.specs.declared.question.GroupReason.{GroupReason}
use Rattle.cup_sheet.specs.Cups.{IsCup}
use Rattle.cup_sheet.specs.CupAnswers.{listed_groups}
use Rattle.cup_sheet.specs.KeyBounds.{place_kind, nearer_kind, others_kind}
use Rattle.cup_groups.specs.declared.seat.ClubSeat.{ClubSeat}
use Rattle.cup_groups.specs.inside.ClubSeats.{IsSeatOf}
use Rattle.cup_groups.specs.GroupStarts.{clubs_before, start_of_group}
use Rattle.group_search.specs.inside.GroupTasks.{IsGroupRefutedBy, new_group_tree}
use Rattle.cup_text.proofs.ProperSplitLemmas.{proper_with}
use Rattle.cup_text.specs.declared.cup_line.CupLine.{CupLine}
use Rattle.cup_text.specs.declared.cup_line.CupLine.TheVariants as line
use Rattle.cup_text.specs.CupItems.{AreLinesOf, IsGroupTreeText, IsListedText, IsRefutedAtTurn}
use Rattle.runners_up.specs.declared.finding.SideRefutation.{SideRefutation}
use Rattle.runners_up.specs.declared.survey.EmptyGroup.{EmptyGroup}
use Rattle.runners_up.specs.inside.ClubFindings.{IsSideRefutedBy}
use Rattle.runners_up.specs.inside.GroupsAsked.{GroupNodes, other_question}
use Rattle.runners_up.specs.inside.GroupSurveys.{IsEmptyGroup, group_numbers}
use Rattle.runners_up.proofs.JointDrawnLemmas.{not_one_start}
use Rattle.runners_up.proofs.JointShownLemmas.{starts_differ}
use Rattle.runners_up.proofs.SideLawLemmas.{state_in, state_of_number, club_of}
use Rattle.cup_rows.specs.inside.GroupTreeLines.{group_tree_lines, refuted_node_line}
use Rattle.cup_rows.specs.inside.VerdictLines.{club_trees_from, listed_group_lines, listed_of}
use Rattle.cup_rows.specs.inside.VerdictLines.{refuted_side_lines}
use Rattle.cup_rows.proofs.SeatLemmas.{one_seat}
use Rattle.cup_rows.proofs.TreeLineLemmas.{plain_tree-lines}

module _ (cup : Cup) (seasons : List Results) where
  -- the tree of a question about a group
  tree_text : (number : ℕ) (sheet : Sheet) (season : Results) (kind : GroupKind) (club : ℕ)
      (key : List ℤ) (budget : ℕ) (nodes : List (CaseNode GroupReason))
      → slice_get cup.groups number ≡ Some sheet → slice_get seasons number ≡ Some season
      → IsGroupRefutedBy sheet season (record { kind = kind; club = club; key = key }) budget nodes
      → IsGroupTreeText cup seasons number (record { kind = kind; club = club; key = key })
      (group_tree_lines (start_of_group cup.groups number) kind club nodes)
  tree_text number sheet season kind club key budget nodes there season_there refuted = (
    state_in (clubs_before cup.groups number) sheet season,
    state_of_number cup seasons number sheet season there season_there,
    new_group_tree refuted.cases,
    refuted.refuted,
    proper_with sheet season (record { kind = kind; club = club; key = key }) []
        (new_group_tree refuted.cases) refuted.all_new refuted.units,
    ap (λ lines. line.Tree kind ((start_of_group cup.groups number).club + club) ∷ lines)
        (ap (map (refuted_node_line (start_of_group cup.groups number))) (sym refuted.listed)
        ∙ plain_tree-lines (start_of_group cup.groups number) refuted.cases),
  )

  -- the trees of the clubs of a group from one on
  trees_text : (claim : Claim) (key : List ℤ) (number : ℕ) (sheet : Sheet) (season : Results)
      (from : ℕ) (trees : List GroupNodes) → slice_get cup.groups number ≡ Some sheet
      → slice_get seasons number ≡ Some season
      → ((club : ℕ) (nodes : GroupNodes) → slice_get trees club ≡ Some nodes
      → IsGroupRefutedBy sheet season (other_question claim key (from + club)) sheet.budget
      nodes.items)
      → AreLinesOf
      (λ club. IsGroupTreeText cup seasons number
      (record { kind = others_kind claim; club = club; key = key }))
      (range_with_len from (length trees))
      (club_trees_from (start_of_group cup.groups number) (others_kind claim) from trees)
  trees_text claim key number sheet season from [] there season_there each = refl
  trees_text claim key number sheet season from (nodes ∷ trees) there season_there each =
      let here : from + 0 ≡ from = omega arith in
      let first = subst
      (λ club. IsGroupRefutedBy sheet season (other_question claim key club) sheet.budget
      nodes.items) here (each 0 nodes refl) in (
        group_tree_lines (start_of_group cup.groups number) (others_kind claim) from nodes.items,
        club_trees_from (start_of_group cup.groups number) (others_kind claim) (from + 1) trees,
        tree_text number sheet season (others_kind claim) from key sheet.budget nodes.items there
            season_there first,
        trees_text claim key number sheet season (from + 1) trees there season_there
            (λ club more inside.
            let at : from + suc club ≡ from + 1 + club = omega arith in
            subst
            (λ it. IsGroupRefutedBy sheet season (other_question claim key it) sheet.budget
            more.items) at (each (suc club) more inside)),
        refl,
      )

  module _ (claim : Claim) (key : List ℤ) (mine : ℕ) (own_sheet : Sheet) (own_season : Results)
      (is_cup : IsCup cup) (own_there : slice_get cup.groups mine ≡ Some own_sheet) where
    -- a listed group
    listed_text : (group : EmptyGroup) → IsEmptyGroup cup seasons claim key mine group
        → IsListedText cup seasons claim
        (state_in (clubs_before cup.groups mine) own_sheet own_season) key group.group
        (listed_group_lines cup claim group)
    listed_text group empty = (
      state_in (clubs_before cup.groups group.group) empty.sheet empty.season,
      state_of_number cup seasons group.group empty.sheet empty.season empty.other.there
          empty.other.season_there,
      starts_differ (clubs_before cup.groups group.group) (clubs_before cup.groups mine)
          (λ same. not_one_start cup group.group mine empty.sheet own_sheet is_cup
          empty.other.there own_there empty.other.differ same),
      subst
          (λ count. AreLinesOf
          (λ club. IsGroupTreeText cup seasons group.group
          (record { kind = others_kind claim; club = club; key = key }))
          (range_with_len 0 count) (listed_group_lines cup claim group))
          empty.count
          (trees_text claim key group.group empty.sheet empty.season 0 group.trees.items
          empty.other.there empty.other.season_there
          (λ club nodes inside.
          let at : club ≡ 0 + club = omega arith in
          subst
          (λ it. IsGroupRefutedBy empty.sheet empty.season (other_question claim key it)
          empty.sheet.budget nodes.items) at (empty.refuted club nodes inside))),
    )

    -- the first so many of the listed groups
    all_listed_text : (n : ℕ) (listed : List EmptyGroup)
        → All (IsEmptyGroup cup seasons claim key mine) listed
        → AreLinesOf
        (IsListedText cup seasons claim
        (state_in (clubs_before cup.groups mine) own_sheet own_season) key)
        (take n (group_numbers listed)) (flat_map (listed_group_lines cup claim) (take n listed))
    all_listed_text zero [] empty = refl
    all_listed_text zero (group ∷ listed) empty = refl
    all_listed_text (suc n) [] empty = refl
    all_listed_text (suc n) (group ∷ listed) empty = (
      listed_group_lines cup claim group,
      flat_map (listed_group_lines cup claim) (take n listed),
      listed_text group (empty 0 group (omega arith)),
      all_listed_text n listed (λ k d inside. empty (suc k) d (omega (arith, inside))),
      refl,
    )

  -- ---- the side

  -- heads, trees and trees, as one list
  as_one : (by_place by_key others : List CupLine) (numbers given : List ℕ)
      → numbers ≡ given → (head : CupLine)
      → (head ∷ line.Groups (record { list = numbers }) ∷ []) ++ ((by_place ++ by_key) ++ others)
      ≡ head ∷ (line.Groups (record { list = given }) ∷ (by_place ++ (by_key ++ others)))
  as_one by_place by_key others numbers given same head =
      ap (λ (list : List ℕ). head ∷ (line.Groups (record { list = list })
      ∷ ((by_place ++ by_key) ++ others))) same
      ∙ ap (λ lines. head ∷ (line.Groups (record { list = given }) ∷ lines))
      (append_assoc by_place by_key others)

  pub refuted_text : (claim : Claim) (club : ℕ) (found : SideRefutation) → IsCup cup
      → (is : IsSideRefutedBy cup seasons claim club found)
      → IsRefutedAtTurn cup seasons claim club (refuted_side_lines cup claim is.seat found)
  refuted_text claim club found is_cup is =
      let seat = is.seat in
      let trees = is.trees in
      let own = trees.own in
      let key = key_parts found.key in
      let mine = state_in (clubs_before cup.groups seat.group) trees.sheet trees.season in
      let of_club = club_of cup seasons club seat trees.sheet trees.season is.seated own in
      let count = listed_groups cup claim in
      let start = start_of_group cup.groups seat.group in
      let by_place = group_tree_lines start (place_kind claim) seat.own found.place.items in
      let by_key = group_tree_lines start (nearer_kind claim) seat.own found.nearer.items in
      let others = flat_map (listed_group_lines cup claim) (listed_of cup claim found) in (
        key,
        (mine, seat.own, of_club, is.turning),
        record {
          number = seat.group;
          mine = mine;
          own = seat.own;
          there = state_of_number cup seasons seat.group trees.sheet trees.season own.there
              own.season_there;
          own_club = of_club.own_club;
          of_club = of_club.number;
          listed = take count (group_numbers found.listed.items);
          count = is.refuted.count;
          rising = is.refuted.rising;
          by_place = by_place;
          place_tree = tree_text seat.group trees.sheet trees.season (place_kind claim) seat.own []
              trees.sheet.budget found.place.items own.there own.season_there trees.by_place;
          by_key = by_key;
          key_tree = tree_text seat.group trees.sheet trees.season (nearer_kind claim) seat.own key
              trees.sheet.budget found.nearer.items own.there own.season_there trees.by_key;
          others = others;
          each = all_listed_text claim key seat.group trees.sheet trees.season is_cup own.there
              count found.listed.items trees.empty;
          text = as_one by_place by_key others
              (group_numbers (take count found.listed.items))
              (take count (group_numbers found.listed.items))
              (sym (take-map (λ (group : EmptyGroup). group.group) count found.listed.items))
              (line.KeyLine (record { parts = key }));
        },
      )

  -- for the seat of the club
  pub side_refuted_text : (claim : Claim) (club : ℕ) (seat : ClubSeat) (found : SideRefutation)
      → IsCup cup → IsSeatOf cup club seat → IsSideRefutedBy cup seasons claim club found
      → IsRefutedAtTurn cup seasons claim club (refuted_side_lines cup claim seat found)
  side_refuted_text claim club seat found is_cup at is =
      subst (λ it. IsRefutedAtTurn cup seasons claim club (refuted_side_lines cup claim it found))
      (one_seat cup club is.seat seat is.seated at) (refuted_text claim club found is_cup is)
