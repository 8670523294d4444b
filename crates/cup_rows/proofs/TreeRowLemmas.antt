-- The lines of a group's trees have the forms of lines: their tests are of the cup, and a cut names
-- clubs of the group, which rise.
use Rattle.std.proofs.Common.{◌≡◌, ◌<◌, ◌≤◌, ℕ, ◌+◌, Bool, true, false, not, ◌&&◌, nat_le, nat_lt}
use Rattle.std.proofs.Common.{List, [], ◌∷◌, ◌++◌, length, map, refl, ◌∙◌, arith}
use Rattle.std.specs.Prelude.{IsTrue, int_lt}
use Rattle.std.specs.List.{list_all}
use Rattle.std.proofs.lemmas.Bool.{and_parts, and_from, false≢true, lt-ltb, ltb-true, le-leb}
use Rattle.std.proofs.lemmas.Bool.{leb-true}
use Rattle.std.proofs.lemmas.List.Folds.{list_all-append}
use Rattle.league_core.specs.declared.sheet.Sheet.{Sheet}
use Rattle.league_core.specs.declared.club_set.ClubSet.{ClubSet}
use Rattle.league_core.specs.declared.question.Question.{Question}
use Rattle.league_core.specs.declared.zone.Literal.{Literal}
use Rattle.league_core.specs.declared.zone.Reason.{Reason}
use Rattle.league_core.specs.declared.zone.Reason.TheVariants.{Count, Window, Low, High, Tie}
use Rattle.league_core.specs.declared.zone.Test.{Test}
use Rattle.league_core.specs.declared.zone.Test.TheVariants.{Home, Draw, HomeMost, AwayMost, Rival}
use Rattle.league_core.specs.game.ClubSets.{clubs_in}
use Rattle.league_core.specs.game.Results.{Results, are_results}
use Rattle.league_core.specs.game.Seasons.{IsLeague}
use Rattle.league_core.specs.game.Sums.{has_club}
use Rattle.league_core.specs.search.Options.{has_finish}
use Rattle.league_core.specs.search.PointRanges.{least_points_of, most_points_of, own_most}
use Rattle.league_core.specs.search.PointRanges.{own_least}
use Rattle.league_core.specs.search.Reasons.{has_member, has_reason, refutes, times}
use Rattle.league_core.specs.search.Splits.{is_proper}
use Rattle.league_core.specs.search.Trees.{branch, open_leaf}
use Rattle.league_core.specs.search.Zones.{is_of_rival, is_test_of, is_zone_of, marked_after}
use Rattle.league_core.specs.search.Zones.{marked_before, with_test}
use Rattle.league_core.proofs.ClubLemmas.{each_member, all_members}
use Rattle.league_core.proofs.HalfLemmas.{list_all-with}
use Rattle.reason_laws.proofs.HalfMarkLemmas.{proper_names}
use Rattle.near_box.proofs.PressedLemmas.{before_of_sheet, after_of_sheet}
use Rattle.cert_text.specs.Places.{are_rising_from}
use Rattle.cert_text.specs.Ranges.{is_club_number, is_goal_bound, is_one_of, is_test_below}
use Rattle.cert_text.specs.Ranges.{is_test_in_range}
use Rattle.cert_text.specs.TreeLines.{is_test_for}
use Rattle.cert_text.proofs.BitSumLemmas.{clubs_in_rise}
use Rattle.cert_text.proofs.ProperLemmas.{proper_tests}
use Rattle.depth_search.specs.inside.Cases.{Cases, left_open, refuted, split}
use Rattle.cup_sheet.specs.declared.question.GroupReason.{GroupReason}
use Rattle.cup_sheet.specs.declared.question.GroupReason.TheVariants.{Plain, In, Out, ByKey}
use Rattle.cup_sheet.specs.CupLimits.{direct_places}
use Rattle.cup_sheet.specs.GroupQuestions.{GroupQuestion, after_question, has_group_reason}
use Rattle.cup_sheet.specs.GroupQuestions.{is_of_place, place_question, reach_question}
use Rattle.cup_sheet.specs.GroupTrees.{ZonesMeet, IsFairGroupSplit}
use Rattle.cup_groups.specs.declared.start.GroupStart.{GroupStart}
use Rattle.group_search.specs.inside.GroupTasks.{new_group_tree}
use Rattle.cup_text.specs.declared.cup_line.CupLeaf.{CupLeaf}
use Rattle.cup_text.specs.CupForms.{is_rising_from}
use Rattle.cup_text.specs.CupRanges.{is_cup_leaf, is_cup_line, is_cup_reason, is_rising_below}
use Rattle.cup_text.specs.GroupNodeLines.{test_in_cup, reason_in_cup, leaf_in_cup, group_leaf_line}
use Rattle.cup_text.specs.GroupNodeLines.{group_split_line, lines_of_group_tree}

-- ---- clubs that rise

-- clubs of a group that rise do so in the cup, where they have numbers of the cup
moved_rise : (first count least from : ℕ) (clubs : List ℕ) → first + count ≤ 72
    → from ≤ first + least → are_rising_from least clubs ≡ true
    → list_all (λ club. nat_lt club count) clubs ≡ true
    → (is_rising_from from (map (λ club. first + club) clubs) ≡ true)
    × (list_all (is_one_of 72) (map (λ club. first + club) clubs) ≡ true)
moved_rise first count least from [] room low rise below = (refl, refl)
moved_rise first count least from (club ∷ clubs) room low rise below =
    let both = and_parts (nat_le least club && is_club_number club)
    (are_rising_from (club + 1) clubs) rise in
    let up = leb-true least club (and_parts (nat_le least club) (is_club_number club) both.0).0 in
    let here = and_parts (nat_lt club count) (list_all (λ club. nat_lt club count) clubs) below in
    let inside = ltb-true club count here.0 in
    let rest = moved_rise first count (club + 1) (first + club + 1) clubs room (omega arith) both.1
    here.1 in (
      and_from (nat_le from (first + club))
          (is_rising_from (first + club + 1) (map (λ club. first + club) clubs))
          (le-leb from (first + club) (omega (arith, low, up))) rest.0,
      and_from (is_one_of 72 (first + club))
          (list_all (is_one_of 72) (map (λ club. first + club) clubs))
          (lt-ltb (first + club) 72 (omega (arith, inside, room))) rest.1,
    )

-- some of them
some_moved : (first count : ℕ) (clubs : List ℕ) → first + count ≤ 72 → has_member clubs ≡ true
    → are_rising_from 0 clubs ≡ true → list_all (λ club. nat_lt club count) clubs ≡ true
    → is_rising_below 72 (map (λ club. first + club) clubs) ≡ true
some_moved first count [] room some rise below = absurd (false≢true some)
some_moved first count (club ∷ clubs) room some rise below =
    let moved = moved_rise first count 0 0 (club ∷ clubs) room (omega arith) rise below in
    and_from (is_rising_from 0 (map (λ club. first + club) (club ∷ clubs)))
    (list_all (is_one_of 72) (map (λ club. first + club) (club ∷ clubs))) moved.0 moved.1

-- ---- lines of nodes

leaf_line-form : (marked : Bool) (leaf : CupLeaf)
    → is_cup_line (group_leaf_line marked leaf) ≡ is_cup_leaf leaf
leaf_line-form true leaf = refl
leaf_line-form false leaf = refl

split_line-form : (marked : Bool) (test : Test)
    → is_cup_line (group_split_line marked test) ≡ is_test_below 720 72 test
split_line-form true test = refl
split_line-form false test = refl

module _ (start : GroupStart) (sheet : Sheet) (season : Results) (league : IsLeague sheet season)
    (results : are_results season ≡ true) (clubs_fit : start.club + length sheet.clubs ≤ 72)
    (fixtures_fit : start.fixture + length sheet.fixtures ≤ 720) where
  fixture_fits : (fixture : ℕ) → nat_lt fixture (length sheet.fixtures) ≡ true
      → is_one_of 720 (start.fixture + fixture) ≡ true
  fixture_fits fixture of_sheet =
      let below = ltb-true fixture (length sheet.fixtures) of_sheet in
      lt-ltb (start.fixture + fixture) 720 (omega (arith, fixtures_fit, below))

  -- a test of the group
  test_fits : (test : Test) → is_test_in_range test ≡ true → is_test_of sheet test ≡ true
      → is_test_below 720 72 (test_in_cup start test) ≡ true
  test_fits (Home fixture) known of_sheet = fixture_fits fixture of_sheet
  test_fits (Draw fixture) known of_sheet = fixture_fits fixture of_sheet
  test_fits (HomeMost fixture most) known of_sheet =
      and_from (is_one_of 720 (start.fixture + fixture)) (is_goal_bound most)
      (fixture_fits fixture of_sheet)
      (and_parts (is_one_of 600 fixture) (is_goal_bound most) known).1
  test_fits (AwayMost fixture most) known of_sheet =
      and_from (is_one_of 720 (start.fixture + fixture)) (is_goal_bound most)
      (fixture_fits fixture of_sheet)
      (and_parts (is_one_of 600 fixture) (is_goal_bound most) known).1
  test_fits (Rival club) known of_sheet =
      let below = ltb-true club (length sheet.clubs) of_sheet in
      lt-ltb (start.club + club) 72 (omega (arith, clubs_fit, below))

  -- so is a proper split
  proper_fits : (question : Question) (zone : List Literal) (test : Test)
      → is_proper sheet season question zone test ≡ true
      → is_test_below 720 72 (test_in_cup start test) ≡ true
  proper_fits question zone test proper =
      let all = proper_tests sheet season question (branch test false open_leaf open_leaf) zone
      league results (proper, tt, tt) in
      let first = (and_parts (is_test_for sheet question test && true) true all).0 in
      let one = (and_parts (is_test_for sheet question test) true first).0 in
      let both = (and_parts (is_test_in_range test && is_test_of sheet test)
      (not (is_of_rival question.club test)) one).0 in
      let parts = and_parts (is_test_in_range test) (is_test_of sheet test) both in
      test_fits test parts.0 parts.1

  -- a cut of marked clubs
  cut_fits : (set : ClubSet) (marked : ℕ → Bool) (test : Bool)
      → ((club : ℕ) → marked club ≡ true → club < length sheet.clubs)
      → (has_member (clubs_in set) && list_all marked (clubs_in set) && test) ≡ true
      → is_rising_below 72 (map (λ club. start.club + club) (clubs_in set)) ≡ true
  cut_fits set marked test known holds =
      let clubs = clubs_in set in
      let both = (and_parts (has_member clubs && list_all marked clubs) test holds).0 in
      let parts = and_parts (has_member clubs) (list_all marked clubs) both in
      let inside : (club : ℕ) → has_club clubs club ≡ true → club < length sheet.clubs =
      λ club has. known club (each_member marked clubs parts.1 club has) in
      let few = league.limits.most_clubs in
      let of_league : list_all is_club_number clubs ≡ true =
      all_members is_club_number clubs (λ club has.
      let below = inside club has in
      lt-ltb club 24 (omega (arith, below, few))) in
      let of_sheet : list_all (λ club. nat_lt club (length sheet.clubs)) clubs ≡ true =
      all_members (λ club. nat_lt club (length sheet.clubs)) clubs
      (λ club has. lt-ltb club (length sheet.clubs) (inside club has)) in
      some_moved start.club (length sheet.clubs) clubs clubs_fit parts.0
      (clubs_in_rise set.bits of_league) of_sheet

  -- a reason that holds in a zone of the sheet
  reason_fits : (question : Question) (zone : List Literal) (why : Reason)
      → is_zone_of sheet zone ≡ true → has_reason sheet season question zone why ≡ true
      → is_cup_reason (reason_in_cup start why) ≡ true
  unfolding has_reason
  reason_fits question zone Count of_sheet holds = refl
  reason_fits question zone Window of_sheet holds = refl
  reason_fits question zone (Low set) of_sheet holds =
      cut_fits set (marked_after zone)
      (int_lt (times (clubs_in set) (own_most sheet season question zone))
      (least_points_of sheet season zone (clubs_in set)))
      (λ club marked. after_of_sheet sheet zone club of_sheet marked)
      (and_parts (has_finish sheet season zone) (refutes sheet season question zone (Low set))
      holds).1
  reason_fits question zone (High set) of_sheet holds =
      cut_fits set (marked_before zone)
      (int_lt (most_points_of sheet season zone (clubs_in set))
      (times (clubs_in set) (own_least sheet season question zone)))
      (λ club marked. before_of_sheet sheet zone club of_sheet marked)
      (and_parts (has_finish sheet season zone) (refutes sheet season question zone (High set))
      holds).1
  reason_fits question zone Tie of_sheet holds = refl

  leaf_fits : (question : GroupQuestion) (zone : List Literal) (reason : GroupReason)
      → is_zone_of sheet zone ≡ true
      → has_group_reason direct_places sheet season question zone reason ≡ true
      → is_cup_leaf (leaf_in_cup start reason) ≡ true
  unfolding has_group_reason
  leaf_fits question zone (Plain why) of_sheet holds =
      reason_fits (place_question direct_places question.kind question.club) zone why of_sheet
      (and_parts (is_of_place question.kind)
      (has_reason sheet season (place_question direct_places question.kind question.club) zone why)
      holds).1
  leaf_fits question zone (In why) of_sheet holds =
      reason_fits (reach_question direct_places question.club) zone why of_sheet
      (and_parts (not (is_of_place question.kind))
      (has_reason sheet season (reach_question direct_places question.club) zone why) holds).1
  leaf_fits question zone (Out why) of_sheet holds =
      reason_fits (after_question direct_places question.club) zone why of_sheet
      (and_parts (not (is_of_place question.kind))
      (has_reason sheet season (after_question direct_places question.club) zone why) holds).1
  leaf_fits question zone ByKey of_sheet holds = refl

  half_of_sheet : (question : Question) (zone : List Literal) (test : Test) (holds : Bool)
      → is_zone_of sheet zone ≡ true → is_proper sheet season question zone test ≡ true
      → is_zone_of sheet (with_test zone test holds) ≡ true
  half_of_sheet question zone test holds of_sheet proper =
      list_all-with (λ literal. is_test_of sheet literal.test) zone test holds
      ∙ and_from (is_zone_of sheet zone) (is_test_of sheet test) of_sheet
      (proper_names sheet season question zone test proper).0

  -- the lines of a tree whose reasons hold and whose splits are fair
  pub tree_lines_fit : (marks : Bool) (question : GroupQuestion) (zone : List Literal)
      (cases : Cases GroupReason) → is_zone_of sheet zone ≡ true
      → ZonesMeet
      (λ zone reason fresh.
      IsTrue (has_group_reason direct_places sheet season question zone reason))
      (λ zone test fresh. Unit {0}) zone (new_group_tree cases)
      → ZonesMeet (λ zone reason fresh. Unit {0})
      (λ zone test fresh. IsTrue fresh
      → IsFairGroupSplit direct_places sheet season question zone test) zone (new_group_tree cases)
      → list_all is_cup_line (lines_of_group_tree marks start (new_group_tree cases)) ≡ true
  tree_lines_fit marks question zone left_open of_sheet reasons fair = refl
  tree_lines_fit marks question zone (refuted reason) of_sheet reasons fair =
      let leaf = leaf_in_cup start reason in
      and_from (is_cup_line (group_leaf_line (marks && true) leaf)) true
      (leaf_line-form (marks && true) leaf ∙ leaf_fits question zone reason of_sheet reasons) refl
  tree_lines_fit marks question zone (split test yes_half no_half) of_sheet reasons fair =
      let asked = place_question direct_places question.kind question.club in
      let proper = (fair.0 refl).proper in
      let yes = lines_of_group_tree marks start (new_group_tree yes_half) in
      let no = lines_of_group_tree marks start (new_group_tree no_half) in
      and_from (is_cup_line (group_split_line (marks && true) (test_in_cup start test)))
      (list_all is_cup_line (yes ++ no))
      (split_line-form (marks && true) (test_in_cup start test)
      ∙ proper_fits asked zone test proper)
      (list_all-append is_cup_line yes no
      ∙ and_from (list_all is_cup_line yes) (list_all is_cup_line no)
      (tree_lines_fit marks question (with_test zone test true) yes_half
      (half_of_sheet asked zone test true of_sheet proper) reasons.1 fair.1)
      (tree_lines_fit marks question (with_test zone test false) no_half
      (half_of_sheet asked zone test false of_sheet proper) reasons.2 fair.2))
