-- The lines of what is found of a club have the forms of lines: a key is not too large, and each
-- number is one that a cup has.
use Rattle.std.proofs.Common.{◌≡◌, ◌<◌, ◌≤◌, ℕ, zero, suc, ◌+◌, ℤ, neg_ℤ, true, List, [], ◌∷◌, ◌++◌}
use Rattle.std.proofs.Common.{length, map, take, Option, Some, None, refl, sym, ap, ◌∙◌, subst, inl}
use Rattle.std.proofs.Common.{inr, arith, nat_le, get_or, slice_get, false}
use Rattle.std.specs.Prelude.{All, int_le}
use Rattle.std.specs.List.{flat_map, list_all}
use Rattle.std.proofs.lemmas.Bool.{and_parts, and_from, lt-ltb, le-leb}
use Rattle.std.proofs.lemmas.List.{take-map}
use Rattle.std.proofs.lemmas.List.Folds.{list_all-append}
use Rattle.std.proofs.lemmas.List.Sums.{list_all-from_AllPass}
use Rattle.league_core.specs.declared.sheet.Sheet.{Sheet}
use Rattle.league_core.specs.declared.season.Score.{Score}
use Rattle.league_core.specs.declared.question.Claim.{Claim}
use Rattle.league_core.specs.declared.question.Claim.TheVariants.{Inside, Outside}
use Rattle.league_core.specs.game.Finishes.{may_end, may_all_end}
use Rattle.league_core.specs.game.Results.{Results, is_score, is_score_or_none}
use Rattle.league_core.proofs.FinishLemmas.{may_end_is_score}
use Rattle.league_core.proofs.plain.Numbers.{int_le-from}
use Rattle.cert_text.specs.Ranges.{is_one_of}
use Rattle.cert_text.proofs.LotRangeLemmas.{lots_in_range}
use Rattle.club_keys.specs.declared.club_key.ClubKey.{ClubKey}
use Rattle.club_keys.specs.inside.KeyEnds.{key_parts}
use Rattle.depth_search.specs.declared.kind.CaseNode.{CaseNode}
use Rattle.cup_sheet.specs.declared.cup.Cup.{Cup}
use Rattle.cup_sheet.specs.declared.question.GroupKind.{GroupKind}
use Rattle.cup_sheet.specs.declared.question.GroupKind.TheVariants.{Top, Below, SecondLess}
use Rattle.cup_sheet.specs.declared.question.GroupKind.TheVariants.{SecondAtLeast, SecondMore}
use Rattle.cup_sheet.specs.declared.question.GroupKind.TheVariants.{SecondAtMost}
use Rattle.cup_sheet.specs.declared.question.GroupReason.{GroupReason}
use Rattle.cup_sheet.specs.Cups.{IsCup, IsGroup, AreSeasonsOf, clubs_together}
use Rattle.cup_sheet.specs.CupAnswers.{AreRising, IsCupExample, IsListedGroup, listed_groups}
use Rattle.cup_sheet.specs.CupLimits.{direct_places}
use Rattle.cup_sheet.specs.GroupQuestions.{GroupQuestion}
use Rattle.cup_sheet.specs.JointFinishes.{GroupState, AreFinishesOf}
use Rattle.cup_sheet.specs.KeyBounds.{IsAskedOfClub, IsAskedOnTheWay, IsTurningKey, nearer_kind}
use Rattle.cup_sheet.specs.KeyBounds.{others_kind, place_kind}
use Rattle.cup_groups.specs.declared.seat.ClubSeat.{ClubSeat}
use Rattle.cup_groups.specs.inside.ClubSeats.{IsSeatOf}
use Rattle.cup_groups.specs.inside.KindQuestions.{asked_key, group_question_of}
use Rattle.cup_groups.specs.GroupStarts.{clubs_before, start_of_group}
use Rattle.cup_groups.proofs.StartLemmas.{clubs_before-all, first_club_few}
use Rattle.cup_laws.specs.inside.CupTruths.{AreCupResults}
use Rattle.group_search.specs.inside.GroupTasks.{IsGroupRefutedBy}
use Rattle.turning_keys.specs.inside.TurningLaws.{AreWithinFar}
use Rattle.turning_keys.proofs.HalfwayKeyLemmas.{far_parts_near, halfway_keys_near}
use Rattle.turning_keys.proofs.HalfwayKeyLemmas.{turning_keys_near}
use Rattle.cup_text.specs.declared.cup_line.CupLine.{CupLine}
use Rattle.cup_text.specs.declared.cup_line.CupLine.TheVariants as line
use Rattle.cup_text.specs.CupForms.{is_rising, is_rising_from, most_part}
use Rattle.cup_text.specs.CupItems.{cup_score_if, group_scores_from, joint_scores_from, joint_lines}
use Rattle.cup_text.specs.CupItems.{key_of_question}
use Rattle.cup_text.specs.CupRanges.{is_cup_club, is_cup_line, is_key_of_kind, is_key_part}
use Rattle.cup_text.specs.CupRanges.{is_rising_below}
use Rattle.runners_up.specs.declared.finding.ClubFinding.{ClubFinding}
use Rattle.runners_up.specs.declared.finding.ClubFinding.TheVariants.{Clinched, Lost, Possible}
use Rattle.runners_up.specs.declared.finding.ClubFinding.TheVariants.{Unsettled}
use Rattle.runners_up.specs.declared.finding.OpenSide.{OpenSide}
use Rattle.runners_up.specs.declared.finding.OpenSide.TheVariants.{Shown, Spent}
use Rattle.runners_up.specs.declared.finding.SideRefutation.{SideRefutation}
use Rattle.runners_up.specs.declared.survey.EmptyGroup.{EmptyGroup}
use Rattle.runners_up.specs.declared.survey.OpenGroup.{OpenGroup}
use Rattle.runners_up.specs.inside.ClubFindings.{IsClubFinding, IsOpenSide, IsSideRefutedBy}
use Rattle.runners_up.specs.inside.ClubFindings.{IsSideSpentBy}
use Rattle.runners_up.specs.inside.GroupsAsked.{GroupNodes, other_question}
use Rattle.runners_up.specs.inside.GroupSurveys.{IsEmptyGroup, group_numbers}
use Rattle.runners_up.specs.inside.JointEnds.{group_finishes}
use Rattle.cup_rows.specs.inside.GroupTreeLines.{cup_key, group_tree_lines, refuted_node_line}
use Rattle.cup_rows.specs.inside.GroupTreeLines.{spent_node_line}
use Rattle.cup_rows.specs.inside.JointLines.{scores_together}
use Rattle.cup_rows.specs.inside.VerdictLines.{club_trees_from, listed_group_lines, listed_of}
use Rattle.cup_rows.specs.inside.VerdictLines.{open_group_lines, open_side_lines, own_tree_lines}
use Rattle.cup_rows.specs.inside.VerdictLines.{refutation_heads, refuted_side_lines, verdict_lines}
use Rattle.cup_rows.proofs.FoundWithinLemmas.{club_on_the_way, own_in_group}
use Rattle.cup_rows.proofs.GroupOfCupLemmas.{IsGroupOfCup, group_of_cup, group_of_state}
use Rattle.cup_rows.proofs.GroupOfCupLemmas.{group_with_number}
use Rattle.cup_rows.proofs.JointLineLemmas.{few_cup_scores}
use Rattle.cup_rows.proofs.SeatLemmas.{one_seat}
use Rattle.cup_rows.proofs.TreeLineLemmas.{plain_tree-lines, marked_tree-lines}
use Rattle.cup_rows.proofs.TreeRowLemmas.{tree_lines_fit}

-- the lines have forms
abbrev pub HaveForms : List CupLine → Type 0
HaveForms lines = list_all is_cup_line lines ≡ true

both_have : (first second : List CupLine) → HaveForms first → HaveForms second
    → HaveForms (first ++ second)
both_have first second one other =
    list_all-append is_cup_line first second
    ∙ and_from (list_all is_cup_line first) (list_all is_cup_line second) one other

head_has : (head : CupLine) (lines : List CupLine) → is_cup_line head ≡ true → HaveForms lines
    → HaveForms (head ∷ lines)
head_has head lines one other = and_from (is_cup_line head) (list_all is_cup_line lines) one other

-- ---- keys

parts_fit : (parts : List ℤ) → AreWithinFar parts → list_all is_key_part parts ≡ true
parts_fit [] near = refl
parts_fit (part ∷ parts) near =
    and_from (is_key_part part) (list_all is_key_part parts)
    (and_from (int_le (neg_ℤ most_part) part) (int_le part most_part)
    (int_le-from (neg_ℤ most_part) part near.0.0) (int_le-from part most_part near.0.1))
    (parts_fit parts near.1)

-- a key that is written fits its kind
key_fits : (kind : GroupKind) (key : ClubKey) → AreWithinFar (asked_key kind (key_parts key))
    → is_key_of_kind kind (key_of_question kind (key_parts key)) ≡ true
key_fits Top key near = refl
key_fits Below key near = refl
key_fits SecondLess key near = parts_fit (key_parts key) near
key_fits SecondAtLeast key near = parts_fit (key_parts key) near
key_fits SecondMore key near = parts_fit (key_parts key) near
key_fits SecondAtMost key near = parts_fit (key_parts key) near

-- ---- lists of groups

rising_test : (least : ℕ) (numbers : List ℕ) → AreRising least numbers
    → is_rising_from least numbers ≡ true
rising_test least [] rising = refl
rising_test least (number ∷ numbers) rising =
    and_from (nat_le least number) (is_rising_from (number + 1) numbers)
    (le-leb least number rising.0) (rising_test (number + 1) numbers rising.1)

some_rising : (numbers : List ℕ) → 1 ≤ length numbers → AreRising 0 numbers
    → is_rising numbers ≡ true
some_rising [] some rising = absurd (omega (arith, some))
some_rising (number ∷ numbers) some rising = rising_test 0 (number ∷ numbers) rising

some_listed : (cup : Cup) (claim : Claim) → IsCup cup → 1 ≤ listed_groups cup claim
some_listed cup Outside is_cup = omega (arith, is_cup.most_quota)
some_listed cup Inside is_cup = is_cup.least_quota

-- ---- a joint finish

score_fits : (limit fixture : ℕ) (played ended : Option Score) → limit ≤ 20 → fixture < 720
    → is_score_or_none played ≡ true → may_end limit played ended ≡ true
    → HaveForms (cup_score_if fixture played ended)
score_fits limit fixture (Some score) ended few inside may ends = refl
score_fits limit fixture None None few inside may ends = refl
score_fits limit fixture None (Some score) few inside may ends =
    head_has (line.Score fixture score) []
    (and_from (is_one_of 720 fixture) (is_score score) (lt-ltb fixture 720 inside)
    (may_end_is_score limit None score (omega (arith, few)) may ends)) refl

scores_fit : (limit fixture : ℕ) (season finish : List (Option Score)) → limit ≤ 20
    → fixture + length season ≤ 720 → list_all is_score_or_none season ≡ true
    → may_all_end limit season finish ≡ true → HaveForms (group_scores_from fixture season finish)
scores_fit limit fixture [] finish few fits may ends = refl
scores_fit limit fixture (played ∷ season) [] few fits may ends = refl
scores_fit limit fixture (played ∷ season) (ended ∷ finish) few fits may ends =
    let here = and_parts (is_score_or_none played) (list_all is_score_or_none season) may in
    let one = and_parts (may_end limit played ended) (may_all_end limit season finish) ends in
    both_have (cup_score_if fixture played ended) (group_scores_from (fixture + 1) season finish)
    (score_fits limit fixture played ended few (omega (arith, fits)) here.0 one.0)
    (scores_fit limit (fixture + 1) season finish few (omega (arith, fits)) here.1 one.1)

all_scores_fit : (goal_limit budget : ℕ) (groups : List Sheet) (seasons finishes : List Results)
    (fixture : ℕ) → All (IsGroup goal_limit budget) groups → AreCupResults seasons
    → AreFinishesOf groups seasons finishes → fixture + scores_together seasons ≤ 720
    → HaveForms (joint_scores_from fixture seasons finishes)
all_scores_fit goal_limit budget [] [] [] fixture are results each fits = refl
all_scores_fit goal_limit budget [] [] (finish ∷ finishes) fixture are results each fits =
    absurd each
all_scores_fit goal_limit budget [] (season ∷ seasons) [] fixture are results each fits =
    absurd each
all_scores_fit goal_limit budget [] (season ∷ seasons) (finish ∷ finishes) fixture are results each
    fits = absurd each
all_scores_fit goal_limit budget (group ∷ groups) [] [] fixture are results each fits = absurd each
all_scores_fit goal_limit budget (group ∷ groups) [] (finish ∷ finishes) fixture are results each
    fits = absurd each
all_scores_fit goal_limit budget (group ∷ groups) (season ∷ seasons) [] fixture are results each
    fits = absurd each
all_scores_fit goal_limit budget (group ∷ groups) (season ∷ seasons) (finish ∷ finishes) fixture are
    results each fits =
    let here = are 0 group (omega arith) in
    let own = (and_parts (list_all is_score_or_none season.scores) _
    (results 0 season (omega arith))).0 in
    both_have (group_scores_from fixture season.scores finish.scores)
    (joint_scores_from (fixture + length season.scores) seasons finishes)
    (scores_fit group.goal_limit fixture season.scores finish.scores here.limits.most_goal_limit
    (omega (arith, fits)) own each.0.scores)
    (all_scores_fit goal_limit budget groups seasons finishes (fixture + length season.scores)
    (λ k d below. are (suc k) d (omega (arith, below)))
    (λ k d below. results (suc k) d (omega (arith, below))) each.1 (omega (arith, fits)))

module _ (cup : Cup) (seasons : List Results) (is_cup : IsCup cup)
    (of_seasons : AreSeasonsOf cup.groups seasons) (results : AreCupResults seasons) where
  joint_fits : (claim : Claim) (club : ℕ) (finishes : List Results) (lots : List ℕ)
      → IsCupExample cup seasons claim club finishes lots
      → HaveForms (joint_lines claim seasons finishes lots)
  joint_fits claim club finishes lots is =
      let few : clubs_together cup.groups ≤ 72 =
      subst (λ n. n ≤ 72) (clubs_before-all cup.groups)
      (first_club_few cup (length cup.groups) is_cup) in
      let scores = few_cup_scores cup seasons is_cup of_seasons in
      head_has (line.Finish claim)
      (joint_scores_from 0 seasons finishes ++ line.Lots (record { list = lots }) ∷ []) refl
      (both_have (joint_scores_from 0 seasons finishes) (line.Lots (record { list = lots }) ∷ [])
      (all_scores_fit is_cup.groups.0 is_cup.groups.1 cup.groups seasons finishes 0
      is_cup.groups.2 results is.joint.each (omega (arith, scores)))
      (head_has (line.Lots (record { list = lots })) []
      (lots_in_range (clubs_together cup.groups) 72 lots few is.joint.drawn) refl))

  -- ---- trees of refutations

  number_fits : (number : ℕ) (sheet : Sheet) (season : Results) (club : ℕ)
      → IsGroupOfCup cup seasons number sheet season → club < length sheet.clubs
      → is_cup_club ((start_of_group cup.groups number).club + club) ≡ true
  number_fits number sheet season club of_cup inside =
      lt-ltb (clubs_before cup.groups number + club) 72 (omega (arith, of_cup.clubs, inside))

  tree_fits : (number : ℕ) (sheet : Sheet) (season : Results) (kind : GroupKind) (club : ℕ)
      (key : List ℤ) (budget : ℕ) (nodes : List (CaseNode GroupReason))
      → IsGroupOfCup cup seasons number sheet season → club < length sheet.clubs
      → IsGroupRefutedBy sheet season (record { kind = kind; club = club; key = key }) budget nodes
      → HaveForms (group_tree_lines (start_of_group cup.groups number) kind club nodes)
  tree_fits number sheet season kind club key budget nodes of_cup inside refuted =
      let start = start_of_group cup.groups number in
      head_has (line.Tree kind (start.club + club)) (map (refuted_node_line start) nodes)
      (number_fits number sheet season club of_cup inside)
      (subst HaveForms
      (sym (ap (map (refuted_node_line start)) (sym refuted.listed)
      ∙ plain_tree-lines start refuted.cases))
      (tree_lines_fit start sheet season of_cup.league of_cup.results of_cup.clubs of_cup.fixtures
      false (record { kind = kind; club = club; key = key }) [] refuted.cases refl
      refuted.refuted.reasons refuted.units))

  trees_fit : (claim : Claim) (key : List ℤ) (number : ℕ) (sheet : Sheet) (season : Results)
      (from : ℕ) (trees : List GroupNodes) → IsGroupOfCup cup seasons number sheet season
      → from + length trees ≤ length sheet.clubs
      → ((club : ℕ) (nodes : GroupNodes) → slice_get trees club ≡ Some nodes
      → IsGroupRefutedBy sheet season (other_question claim key (from + club)) sheet.budget
      nodes.items)
      → HaveForms
      (club_trees_from (start_of_group cup.groups number) (others_kind claim) from trees)
  trees_fit claim key number sheet season from [] of_cup room each = refl
  trees_fit claim key number sheet season from (nodes ∷ trees) of_cup room each =
      let start = start_of_group cup.groups number in
      let here : from + 0 ≡ from = omega arith in
      let first = subst
      (λ club. IsGroupRefutedBy sheet season (other_question claim key club) sheet.budget
      nodes.items) here (each 0 nodes refl) in
      both_have (group_tree_lines start (others_kind claim) from nodes.items)
      (club_trees_from start (others_kind claim) (from + 1) trees)
      (tree_fits number sheet season (others_kind claim) from key sheet.budget nodes.items of_cup
      (omega (arith, room)) first)
      (trees_fit claim key number sheet season (from + 1) trees of_cup (omega (arith, room))
      (λ club more inside.
      let at : from + suc club ≡ from + 1 + club = omega arith in
      subst
      (λ it. IsGroupRefutedBy sheet season (other_question claim key it) sheet.budget more.items)
      at (each (suc club) more inside)))

  listed_fits : (claim : Claim) (key : List ℤ) (mine : ℕ) (group : EmptyGroup)
      → IsEmptyGroup cup seasons claim key mine group
      → HaveForms (listed_group_lines cup claim group)
  listed_fits claim key mine group empty =
      let of_cup = group_of_cup cup seasons is_cup of_seasons results group.group empty.sheet
      empty.season empty.other.there empty.other.season_there in
      let count = empty.count in
      trees_fit claim key group.group empty.sheet empty.season 0 group.trees.items of_cup
      (omega (arith, count))
      (λ club nodes inside.
      let at : club ≡ 0 + club = omega arith in
      subst
      (λ it. IsGroupRefutedBy empty.sheet empty.season (other_question claim key it)
      empty.sheet.budget nodes.items) at (empty.refuted club nodes inside))

  all_listed_fit : (claim : Claim) (key : List ℤ) (mine n : ℕ) (listed : List EmptyGroup)
      → All (IsEmptyGroup cup seasons claim key mine) listed
      → HaveForms (flat_map (listed_group_lines cup claim) (take n listed))
  all_listed_fit claim key mine zero [] empty = refl
  all_listed_fit claim key mine zero (group ∷ listed) empty = refl
  all_listed_fit claim key mine (suc n) [] empty = refl
  all_listed_fit claim key mine (suc n) (group ∷ listed) empty =
      both_have (listed_group_lines cup claim group)
      (flat_map (listed_group_lines cup claim) (take n listed))
      (listed_fits claim key mine group (empty 0 group (omega arith)))
      (all_listed_fit claim key mine n listed
      (λ k d inside. empty (suc k) d (omega (arith, inside))))

  -- ---- a refuted side

  listed_below : (claim : Claim) (mine : GroupState) (key : List ℤ) (numbers : List ℕ)
      → All (IsListedGroup cup seasons claim mine key) numbers
      → list_all (is_one_of 12) numbers ≡ true
  listed_below claim mine key numbers all =
      list_all-from_AllPass (is_one_of 12) numbers (λ k d inside.
      let one = all k d inside in
      let of_cup = group_of_state cup seasons is_cup of_seasons results (get_or numbers k d) one.0
      one.1 in
      lt-ltb (get_or numbers k d) 12 (omega (arith, of_cup.inside, is_cup.most_groups)))

  refuted_fits : (claim : Claim) (club : ℕ) (found : SideRefutation)
      (is : IsSideRefutedBy cup seasons claim club found)
      → HaveForms (refuted_side_lines cup claim is.seat found)
  refuted_fits claim club found is =
      let seat = is.seat in
      let trees = is.trees in
      let own = trees.own in
      let start = start_of_group cup.groups seat.group in
      let listed = take (listed_groups cup claim) (group_numbers found.listed.items) in
      let of_cup = group_of_cup cup seasons is_cup of_seasons results seat.group trees.sheet
      trees.season own.there own.season_there in
      let inside = own_in_group cup seasons claim club found is in
      let near = turning_keys_near trees.sheet trees.season claim seat.own (key_parts found.key)
      of_cup.league.limits of_cup.results is.turning in
      let some = some_listed cup claim is_cup in
      let count = is.refuted.count in
      let rising : is_rising_below 12 listed ≡ true =
      and_from (is_rising listed) (list_all (is_one_of 12) listed)
      (some_rising listed (omega (arith, some, count)) is.refuted.rising)
      (listed_below claim is.refuted.mine (key_parts found.key) listed is.refuted.others) in
      both_have (refutation_heads cup claim found)
      (own_tree_lines cup claim seat found
      ++ flat_map (listed_group_lines cup claim) (listed_of cup claim found))
      (head_has (line.KeyLine (cup_key found.key))
      (line.Groups (record { list = group_numbers (listed_of cup claim found) }) ∷ [])
      (parts_fit (key_parts found.key) near)
      (head_has (line.Groups (record { list = group_numbers (listed_of cup claim found) })) []
      (subst (λ numbers. is_rising_below 12 numbers ≡ true)
      (take-map (λ (group : EmptyGroup). group.group) (listed_groups cup claim)
      found.listed.items) rising) refl))
      (both_have (own_tree_lines cup claim seat found)
      (flat_map (listed_group_lines cup claim) (listed_of cup claim found))
      (both_have (group_tree_lines start (place_kind claim) seat.own found.place.items)
      (group_tree_lines start (nearer_kind claim) seat.own found.nearer.items)
      (tree_fits seat.group trees.sheet trees.season (place_kind claim) seat.own []
      trees.sheet.budget found.place.items of_cup inside trees.by_place)
      (tree_fits seat.group trees.sheet trees.season (nearer_kind claim) seat.own
      (key_parts found.key) trees.sheet.budget found.nearer.items of_cup inside trees.by_key))
      (all_listed_fit claim (key_parts found.key) seat.group (listed_groups cup claim)
      found.listed.items trees.empty))

  -- ---- a side that is not settled

  asked_near : (claim : Claim) (sheet : Sheet) (season : Results) (own : ℕ) (turning : List ℤ)
      (question : GroupQuestion) (number : ℕ) → IsGroupOfCup cup seasons number sheet season
      → IsTurningKey direct_places sheet season claim own turning
      → IsAskedOfClub sheet season claim own turning question → AreWithinFar question.key
  asked_near claim sheet season own turning question number of_cup is (inl asked) =
      subst AreWithinFar (sym (ap (λ (it : GroupQuestion). it.key) asked)) tt
  asked_near claim sheet season own turning question number of_cup is (inr (inl asked)) =
      subst AreWithinFar (sym (ap (λ (it : GroupQuestion). it.key) asked)) (far_parts_near claim 7)
  asked_near claim sheet season own turning question number of_cup is (inr (inr (inl asked))) =
      subst AreWithinFar (sym (ap (λ (it : GroupQuestion). it.key) asked.2))
      (halfway_keys_near sheet season claim own turning asked.0 of_cup.league.limits
      of_cup.results is asked.1)
  asked_near claim sheet season own turning question number of_cup is (inr (inr (inr asked))) =
      subst AreWithinFar (sym (ap (λ (it : GroupQuestion). it.key) asked))
      (turning_keys_near sheet season claim own turning of_cup.league.limits of_cup.results is)

  key_near : (claim : Claim) (mine : GroupState) (own : ℕ) (group : GroupState)
      (question : GroupQuestion) (number : ℕ)
      → IsGroupOfCup cup seasons number mine.sheet mine.results
      → IsAskedOnTheWay direct_places claim mine own group question → AreWithinFar question.key
  key_near claim mine own group question number of_cup way =
      elim way.2 as (λ _. AreWithinFar question.key) [
        | inl here ↦ asked_near claim mine.sheet mine.results own way.0 question number of_cup
            way.1 here.1
        | inr there ↦ subst AreWithinFar (sym there.1.2)
            (turning_keys_near mine.sheet mine.results claim own way.0 of_cup.league.limits
            of_cup.results way.1)
      ]

  spent_fits : (claim : Claim) (club : ℕ) (group : OpenGroup)
      → IsSideSpentBy cup seasons claim club group → HaveForms (open_group_lines cup group)
  spent_fits claim club group is =
      let asked = group.spent.question in
      let question = group_question_of asked in
      let start = start_of_group cup.groups group.group in
      let spent = is.spent in
      let of_cup = group_of_state cup seasons is_cup of_seasons results group.group is.state
      is.there in
      let mine = group_with_number cup seasons is_cup of_seasons results spent.mine
      spent.of_club.group_of in
      let near = key_near claim spent.mine spent.own is.state question mine.0 mine.1
      spent.on_the_way in
      let inside = club_on_the_way claim spent.mine spent.own is.state question
      spent.of_club.own_club spent.on_the_way in
      head_has
      (line.Spent asked.kind (start.club + asked.club)
      (key_of_question asked.kind (key_parts asked.key)))
      (map (spent_node_line start) group.spent.nodes.items)
      (and_from (is_cup_club (start.club + asked.club))
      (is_key_of_kind asked.kind (key_of_question asked.kind (key_parts asked.key)))
      (number_fits group.group is.state.sheet is.state.results asked.club of_cup inside)
      (key_fits asked.kind asked.key near))
      (subst HaveForms
      (sym (ap (map (spent_node_line start)) (sym is.nodes) ∙ marked_tree-lines start is.cases))
      (tree_lines_fit start is.state.sheet is.state.results of_cup.league of_cup.results
      of_cup.clubs of_cup.fixtures true question [] is.cases refl
      spent.tree_spent.tree_spent.reasons spent.tree_spent.units))

  open_fits : (claim : Claim) (club : ℕ) (side : OpenSide) → IsOpenSide cup seasons claim club side
      → HaveForms (open_side_lines cup seasons claim side)
  open_fits claim club (Shown joint) is =
      joint_fits claim club (group_finishes joint.ends) joint.lots is
  open_fits claim club (Spent group) is = spent_fits claim club group is

  -- ---- all that is found

  pub found_fits : (club : ℕ) (seat : ClubSeat) (found : ClubFinding) → IsSeatOf cup club seat
      → IsClubFinding cup seasons club found → HaveForms (verdict_lines cup seasons seat found)
  found_fits club seat (Clinched found) at is =
      subst (λ it. HaveForms (refuted_side_lines cup Outside it found))
      (one_seat cup club is.1.seat seat is.1.seated at) (refuted_fits Outside club found is.1)
  found_fits club seat (Lost found) at is =
      subst (λ it. HaveForms (refuted_side_lines cup Inside it found))
      (one_seat cup club is.1.seat seat is.1.seated at) (refuted_fits Inside club found is.1)
  found_fits club seat (Possible inside outside) at is =
      both_have (open_side_lines cup seasons Inside (Shown inside))
      (open_side_lines cup seasons Outside (Shown outside))
      (open_fits Inside club (Shown inside) is.1) (open_fits Outside club (Shown outside) is.2)
  found_fits club seat (Unsettled inside outside) at is =
      both_have (open_side_lines cup seasons Inside inside)
      (open_side_lines cup seasons Outside outside)
      (open_fits Inside club inside is.2) (open_fits Outside club outside is.3)
