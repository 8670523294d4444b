-- The lines that show the word of a club have the forms of lines: each number is one that a cup can
-- have, and no part of a key is too large.
use Rattle.std.proofs.Common.{◌≡◌, ◌<◌, ◌≤◌, ℕ, zero, suc, ◌+◌, ℤ, neg_ℤ, Bool, true, false, not}
use Rattle.std.proofs.Common.{◌&&◌, ◌==◌, List, [], ◌∷◌, ◌++◌, length, length-append, replicate}
use Rattle.std.proofs.Common.{slice_get, Option, Some, None, refl, sym, ap, ◌∙◌, subst, inl, inr}
use Rattle.std.proofs.Common.{arith}
use Rattle.std.specs.Prelude.{All, IsTrue, int_le}
use Rattle.std.specs.List.{list_all, range_with_len}
use Rattle.std.proofs.lemmas.Bool.{and_parts, and_from, eq-eqb, le-leb, lt-ltb, ltb-true}
use Rattle.std.proofs.lemmas.List.{length-replicate}
use Rattle.std.proofs.lemmas.List.Folds.{list_all-append}
use Rattle.std.proofs.lemmas.Option.{same_Some}
use Rattle.league_core.specs.declared.sheet.Sheet.{Sheet}
use Rattle.league_core.specs.declared.season.Score.{Score}
use Rattle.league_core.specs.declared.question.Claim.{Claim}
use Rattle.league_core.specs.declared.question.Claim.TheVariants.{Inside, Outside}
use Rattle.league_core.specs.declared.question.Question.{Question}
use Rattle.league_core.specs.declared.zone.Literal.{Literal}
use Rattle.league_core.specs.declared.zone.Test.{Test}
use Rattle.league_core.specs.declared.zone.Test.TheVariants.{Home, Draw, HomeMost, AwayMost, Rival}
use Rattle.league_core.specs.game.Finishes.{may_end, may_all_end}
use Rattle.league_core.specs.game.Results.{Results, are_results, is_score, is_score_or_none}
use Rattle.league_core.specs.game.Seasons.{IsLeague}
use Rattle.league_core.specs.game.Sheets.{IsWithinLimits}
use Rattle.league_core.specs.search.Splits.{is_proper}
use Rattle.league_core.specs.search.Trees.{branch, open_leaf}
use Rattle.league_core.specs.search.Zones.{is_of_rival, is_test_of, is_zone_of, with_test}
use Rattle.league_core.proofs.FinishLemmas.{may_end_is_score}
use Rattle.league_core.proofs.HalfLemmas.{list_all-with}
use Rattle.league_core.proofs.plain.Numbers.{int_le-from}
use Rattle.cert_text.specs.Ranges.{is_goal_bound, is_one_of, is_test_below, is_test_in_range}
use Rattle.cert_text.specs.TreeLines.{is_test_for}
use Rattle.cert_text.proofs.LotRangeLemmas.{lots_in_range}
use Rattle.cert_text.proofs.ProperLemmas.{proper_tests}
use Rattle.answer_rows.specs.declared.word.Word.{Word}
use Rattle.answer_rows.specs.declared.word.Word.TheVariants.{Clinched, Lost, Possible, Unsettled}
use Rattle.depth_search.specs.inside.Cases.{refuted}
use Rattle.cup_sheet.specs.declared.cup.Cup.{Cup}
use Rattle.cup_sheet.specs.declared.question.GroupKind.{GroupKind}
use Rattle.cup_sheet.specs.declared.question.GroupKind.TheVariants.{Top, Below, SecondLess}
use Rattle.cup_sheet.specs.declared.question.GroupKind.TheVariants.{SecondAtLeast, SecondMore}
use Rattle.cup_sheet.specs.declared.question.GroupKind.TheVariants.{SecondAtMost}
use Rattle.cup_sheet.specs.declared.question.GroupReason.{GroupReason}
use Rattle.cup_sheet.specs.Cups.{AreSeasonsOf, IsCup, IsGroup, clubs_together}
use Rattle.cup_sheet.specs.CupAnswers.{AreRising, IsCupExample, listed_groups}
use Rattle.cup_sheet.specs.CupLimits.{direct_places}
use Rattle.cup_sheet.specs.GroupQuestions.{GroupQuestion, has_group_reason, place_question}
use Rattle.cup_sheet.specs.GroupTrees.{GroupTree, ZonesMeet, open_zone, refuted_zone, split_zone}
use Rattle.cup_sheet.specs.JointFinishes.{AreFinishesOf, GroupState, states_of}
use Rattle.cup_sheet.specs.KeyBounds.{IsAskedOfClub, IsAskedOnTheWay, IsHalfwayKey, IsTurningKey}
use Rattle.cup_sheet.specs.KeyBounds.{far_key, far_part, halving_kind, nearer_kind, others_kind}
use Rattle.cup_sheet.specs.KeyBounds.{place_kind}
use Rattle.cup_groups.specs.declared.start.GroupStart.{GroupStart}
use Rattle.cup_groups.specs.GroupStarts.{clubs_before, start_of_group}
use Rattle.cup_groups.proofs.StartLemmas.{few_in_all}
use Rattle.cup_laws.specs.inside.CupTruths.{AreCupResults}
use Rattle.turning_keys.specs.inside.TurningLaws.{AreWithinFar}
use Rattle.turning_keys.proofs.HalfwayKeyLemmas.{halfway_keys_near, turning_keys_near}
use Rattle.cup_text.specs.declared.cup_line.CupLeaf.{CupLeaf}
use Rattle.cup_text.specs.declared.cup_line.CupLine.{CupLine}
use Rattle.cup_text.specs.declared.cup_line.CupLine.TheVariants as line
use Rattle.cup_text.specs.CupForms.{is_rising, is_rising_from, most_part}
use Rattle.cup_text.specs.CupItems.{AreCupParts, AreLinesOf, IsCupPartText, IsGroupTreeText}
use Rattle.cup_text.specs.CupItems.{IsListedText, IsRefutedAtTurn, IsSpentText, cup_score_if}
use Rattle.cup_text.specs.CupItems.{group_scores_from, joint_lines, joint_scores_from}
use Rattle.cup_text.specs.CupItems.{key_of_question}
use Rattle.cup_text.specs.CupRanges.{is_cup_club, is_cup_key, is_cup_leaf, is_cup_line}
use Rattle.cup_text.specs.CupRanges.{is_key_of_kind, is_key_part}
use Rattle.cup_answers.specs.CupTexts.{ShowsInCup}
use Rattle.cup_text.specs.GroupNodeLines.{group_leaf_line, group_split_line, leaf_in_cup}
use Rattle.cup_text.specs.GroupNodeLines.{lines_of_group_tree, test_in_cup}
use Rattle.cup_text.proofs.ProperSplitLemmas.{proper_with}
use Rattle.cup_rows.specs.inside.JointLines.{scores_together}
use Rattle.cup_rows.proofs.FoundFormLemmas.{HaveForms}
use Rattle.cup_rows.proofs.FoundWithinLemmas.{club_on_the_way}
use Rattle.cup_rows.proofs.GroupOfCupLemmas.{IsGroupOfCup, group_of_state, group_with_number}
use Rattle.cup_rows.proofs.JointLineLemmas.{few_cup_scores}
use Rattle.cup_rows.proofs.TreeRowLemmas.{tree_lines_fit}

both_have : (first second : List CupLine) → HaveForms first → HaveForms second
    → HaveForms (first ++ second)
both_have first second one other =
    list_all-append is_cup_line first second
    ∙ and_from (list_all is_cup_line first) (list_all is_cup_line second) one other

head_has : (head : CupLine) (lines : List CupLine) → is_cup_line head ≡ true → HaveForms lines
    → HaveForms (head ∷ lines)
head_has head lines one other = and_from (is_cup_line head) (list_all is_cup_line lines) one other

-- ---- keys

parts_fit : (parts : List ℤ) → AreWithinFar parts → list_all is_key_part parts ≡ true
parts_fit [] near = refl
parts_fit (part ∷ parts) near =
    and_from (is_key_part part) (list_all is_key_part parts)
    (and_from (int_le (neg_ℤ most_part) part) (int_le part most_part)
    (int_le-from (neg_ℤ most_part) part near.0.0) (int_le-from part most_part near.0.1))
    (parts_fit parts near.1)

-- the parts make a key of a line
abbrev IsKeyOfLine : List ℤ → Type 0
IsKeyOfLine parts = is_cup_key (record { parts = parts }) ≡ true

seven_fit : (parts : List ℤ) → length parts ≡ 7 → AreWithinFar parts → IsKeyOfLine parts
seven_fit parts seven near =
    and_from (length parts == 7) (list_all is_key_part parts) (eq-eqb (length parts) 7 seven)
    (parts_fit parts near)

-- what is written of a key fits the kind of its question
abbrev FitsKind : GroupKind → List ℤ → Type 0
FitsKind kind key = is_key_of_kind kind (key_of_question kind key) ≡ true

key_fits : (kind : GroupKind) (key : List ℤ) → IsKeyOfLine key → FitsKind kind key
key_fits Top key fits = refl
key_fits Below key fits = refl
key_fits SecondLess key fits = fits
key_fits SecondAtLeast key fits = fits
key_fits SecondMore key fits = fits
key_fits SecondAtMost key fits = fits

place_fits : (claim : Claim) → FitsKind (place_kind claim) []
place_fits Inside = refl
place_fits Outside = refl

far_fits : (claim : Claim) → IsKeyOfLine (far_key claim)
far_fits Inside = refl
far_fits Outside = refl

module _ (sheet : Sheet) (season : Results) (limits : IsWithinLimits sheet)
    (results : are_results season ≡ true) (claim : Claim) (club : ℕ) (turning : List ℤ)
    (is : IsTurningKey direct_places sheet season claim club turning) where
  -- a turning key is that of a club at a finish, or the one that is beyond all
  turning_sized : length turning ≡ 7
  turning_sized = elim is as (λ _. length turning ≡ 7) [
    | inl nearest ↦ ap length (sym nearest.0.3)
    | inr none ↦ ap length none.1
  ]

  turning_fits : IsKeyOfLine turning
  turning_fits =
      seven_fit turning turning_sized
      (turning_keys_near sheet season claim club turning limits results is)

  halfway_fits : (key : List ℤ) → IsHalfwayKey sheet season claim club turning key
      → IsKeyOfLine key
  halfway_fits key halfway =
      let far = replicate (length halfway.later) (far_part claim) in
      let sized = turning_sized in
      let one = ap length halfway.asked in
      let other = ap length halfway.parts in
      let count = length-append halfway.before (halfway.middle ∷ far) in
      let whole = length-append halfway.before (halfway.part ∷ halfway.later) in
      let later = length-replicate (length halfway.later) (far_part claim) in
      seven_fit key (omega (arith, sized, one, other, count, whole, later))
      (halfway_keys_near sheet season claim club turning key limits results is halfway)

  -- so the keys of questions on the way fit
  asked_fits : (question : GroupQuestion)
      → IsAskedOfClub sheet season claim club turning question
      → FitsKind question.kind question.key
  asked_fits question (inl asked) =
      subst (λ (it : GroupQuestion). FitsKind it.kind it.key) (sym asked) (place_fits claim)
  asked_fits question (inr (inl asked)) =
      subst (λ (it : GroupQuestion). FitsKind it.kind it.key) (sym asked)
      (key_fits (halving_kind claim) (far_key claim) (far_fits claim))
  asked_fits question (inr (inr (inl asked))) =
      subst (λ (it : GroupQuestion). FitsKind it.kind it.key) (sym asked.2)
      (key_fits (halving_kind claim) asked.0 (halfway_fits asked.0 asked.1))
  asked_fits question (inr (inr (inr asked))) =
      subst (λ (it : GroupQuestion). FitsKind it.kind it.key) (sym asked)
      (key_fits (nearer_kind claim) turning turning_fits)

-- ---- lists of groups

rising_test : (least : ℕ) (numbers : List ℕ) → AreRising least numbers
    → is_rising_from least numbers ≡ true
rising_test least [] rising = refl
rising_test least (number ∷ numbers) rising =
    and_from _ (is_rising_from (number + 1) numbers) (le-leb least number rising.0)
    (rising_test (number + 1) numbers rising.1)

some_rising : (numbers : List ℕ) → 1 ≤ length numbers → AreRising 0 numbers
    → is_rising numbers ≡ true
some_rising [] some rising = absurd (omega (arith, some))
some_rising (number ∷ numbers) some rising = rising_test 0 (number ∷ numbers) rising

some_listed : (cup : Cup) (claim : Claim) → IsCup cup → 1 ≤ listed_groups cup claim
some_listed cup Outside is_cup = omega (arith, is_cup.most_quota)
some_listed cup Inside is_cup = is_cup.least_quota

-- ---- trees

leaf_line-form : (marked : Bool) (leaf : CupLeaf)
    → is_cup_line (group_leaf_line marked leaf) ≡ is_cup_leaf leaf
leaf_line-form true leaf = refl
leaf_line-form false leaf = refl

split_line-form : (marked : Bool) (test : Test)
    → is_cup_line (group_split_line marked test) ≡ is_test_below 720 72 test
split_line-form true test = refl
split_line-form false test = refl

module _ (start : GroupStart) (sheet : Sheet) (season : Results) (league : IsLeague sheet season)
    (results : are_results season ≡ true) (clubs_fit : start.club + length sheet.clubs ≤ 72)
    (fixtures_fit : start.fixture + length sheet.fixtures ≤ 720) (question : GroupQuestion) where
  -- what the question asks about its club's place
  abbrev place : Question
  place = place_question direct_places question.kind question.club

  fixture_fits : (fixture : ℕ) → is_one_of (length sheet.fixtures) fixture ≡ true
      → is_one_of 720 (start.fixture + fixture) ≡ true
  fixture_fits fixture of_sheet =
      let below = ltb-true fixture (length sheet.fixtures) of_sheet in
      lt-ltb (start.fixture + fixture) 720 (omega (arith, fixtures_fit, below))

  -- a test of the group
  test_fits : (test : Test) → is_test_in_range test ≡ true → is_test_of sheet test ≡ true
      → is_test_below 720 72 (test_in_cup start test) ≡ true
  test_fits (Home fixture) known of_sheet = fixture_fits fixture of_sheet
  test_fits (Draw fixture) known of_sheet = fixture_fits fixture of_sheet
  test_fits (HomeMost fixture most) known of_sheet =
      and_from (is_one_of 720 (start.fixture + fixture)) (is_goal_bound most)
      (fixture_fits fixture of_sheet)
      (and_parts (is_one_of 600 fixture) (is_goal_bound most) known).1
  test_fits (AwayMost fixture most) known of_sheet =
      and_from (is_one_of 720 (start.fixture + fixture)) (is_goal_bound most)
      (fixture_fits fixture of_sheet)
      (and_parts (is_one_of 600 fixture) (is_goal_bound most) known).1
  test_fits (Rival club) known of_sheet =
      let below = ltb-true club (length sheet.clubs) of_sheet in
      lt-ltb (start.club + club) 72 (omega (arith, clubs_fit, below))

  -- a proper split is by such a test
  proper_test : (zone : List Literal) (test : Test)
      → is_proper sheet season place zone test ≡ true
      → (is_test_in_range test ≡ true) × (is_test_of sheet test ≡ true)
  proper_test zone test proper =
      let all = proper_tests sheet season place (branch test false open_leaf open_leaf) zone league
      results (proper, tt, tt) in
      let front = (and_parts (is_test_for sheet place test && true) true all).0 in
      let one = (and_parts (is_test_for sheet place test) true front).0 in
      let both = (and_parts (is_test_in_range test && is_test_of sheet test)
      (not (is_of_rival place.club test)) one).0 in
      and_parts (is_test_in_range test) (is_test_of sheet test) both

  half_of_sheet : (zone : List Literal) (test : Test) (holds : Bool) → is_zone_of sheet zone ≡ true
      → is_test_of sheet test ≡ true → is_zone_of sheet (with_test zone test holds) ≡ true
  half_of_sheet zone test holds of_sheet inside =
      list_all-with (λ literal. is_test_of sheet literal.test) zone test holds
      ∙ and_from (is_zone_of sheet zone) (is_test_of sheet test) of_sheet inside

  leaf_has : (zone : List Literal) (reason : GroupReason) → is_zone_of sheet zone ≡ true
      → has_group_reason direct_places sheet season question zone reason ≡ true
      → is_cup_leaf (leaf_in_cup start reason) ≡ true
  leaf_has zone reason of_sheet holds =
      (and_parts (is_cup_leaf (leaf_in_cup start reason)) true
      (tree_lines_fit start sheet season league results clubs_fit fixtures_fit false question zone
      (refuted reason) of_sheet holds tt)).0

  -- the lines of a tree whose reasons hold and whose splits are proper
  tree_has : (marks : Bool) (tree : GroupTree) (zone : List Literal)
      → is_zone_of sheet zone ≡ true
      → ZonesMeet
      (λ it reason fresh.
      IsTrue (has_group_reason direct_places sheet season question it reason))
      (λ it test fresh. Unit {0}) zone tree
      → ZonesMeet (λ it reason fresh. Unit {0})
      (λ it test fresh. IsTrue (is_proper sheet season place it test)) zone tree
      → HaveForms (lines_of_group_tree marks start tree)
  tree_has marks open_zone zone of_sheet reasons proper = refl
  tree_has marks (refuted_zone reason fresh) zone of_sheet reasons proper =
      let leaf = leaf_in_cup start reason in
      head_has (group_leaf_line (marks && fresh) leaf) []
      (leaf_line-form (marks && fresh) leaf ∙ leaf_has zone reason of_sheet reasons) refl
  tree_has marks (split_zone test fresh yes_half no_half) zone of_sheet reasons proper =
      let one = proper_test zone test proper.0 in
      let own = test_in_cup start test in
      let yes = lines_of_group_tree marks start yes_half in
      let no = lines_of_group_tree marks start no_half in
      head_has (group_split_line (marks && fresh) own) (yes ++ no)
      (split_line-form (marks && fresh) own ∙ test_fits test one.0 one.1)
      (both_have yes no
      (tree_has marks yes_half (with_test zone test true)
      (half_of_sheet zone test true of_sheet one.1) reasons.1 proper.1)
      (tree_has marks no_half (with_test zone test false)
      (half_of_sheet zone test false of_sheet one.1) reasons.2 proper.2))

-- ---- scores

score_fits : (limit fixture : ℕ) (played ended : Option Score) → limit ≤ 20 → fixture < 720
    → is_score_or_none played ≡ true → may_end limit played ended ≡ true
    → HaveForms (cup_score_if fixture played ended)
score_fits limit fixture (Some score) ended few inside may ends = refl
score_fits limit fixture None None few inside may ends = refl
score_fits limit fixture None (Some score) few inside may ends =
    head_has (line.Score fixture score) []
    (and_from (is_one_of 720 fixture) (is_score score) (lt-ltb fixture 720 inside)
    (may_end_is_score limit None score (omega (arith, few)) may ends)) refl

scores_fit : (limit fixture : ℕ) (season finish : List (Option Score)) → limit ≤ 20
    → fixture + length season ≤ 720 → list_all is_score_or_none season ≡ true
    → may_all_end limit season finish ≡ true → HaveForms (group_scores_from fixture season finish)
scores_fit limit fixture [] finish few fits may ends = refl
scores_fit limit fixture (played ∷ season) [] few fits may ends = refl
scores_fit limit fixture (played ∷ season) (ended ∷ finish) few fits may ends =
    let here = and_parts (is_score_or_none played) (list_all is_score_or_none season) may in
    let one = and_parts (may_end limit played ended) (may_all_end limit season finish) ends in
    both_have (cup_score_if fixture played ended) (group_scores_from (fixture + 1) season finish)
    (score_fits limit fixture played ended few (omega (arith, fits)) here.0 one.0)
    (scores_fit limit (fixture + 1) season finish few (omega (arith, fits)) here.1 one.1)

all_scores_fit : (goal_limit budget : ℕ) (groups : List Sheet) (seasons finishes : List Results)
    (fixture : ℕ) → All (IsGroup goal_limit budget) groups → AreCupResults seasons
    → AreFinishesOf groups seasons finishes → fixture + scores_together seasons ≤ 720
    → HaveForms (joint_scores_from fixture seasons finishes)
all_scores_fit goal_limit budget groups [] finishes fixture are results each fits = refl
all_scores_fit goal_limit budget groups (season ∷ seasons) [] fixture are results each fits = refl
all_scores_fit goal_limit budget [] (season ∷ seasons) (finish ∷ finishes) fixture are results each
    fits = absurd each
all_scores_fit goal_limit budget (group ∷ groups) (season ∷ seasons) (finish ∷ finishes) fixture are
    results each fits =
    let here = are 0 group (omega arith) in
    let own = (and_parts (list_all is_score_or_none season.scores) _
    (results 0 season (omega arith))).0 in
    both_have (group_scores_from fixture season.scores finish.scores)
    (joint_scores_from (fixture + length season.scores) seasons finishes)
    (scores_fit group.goal_limit fixture season.scores finish.scores here.limits.most_goal_limit
    (omega (arith, fits)) own each.0.scores)
    (all_scores_fit goal_limit budget groups seasons finishes (fixture + length season.scores)
    (λ k d below. are (suc k) d (omega (arith, below)))
    (λ k d below. results (suc k) d (omega (arith, below))) each.1 (omega (arith, fits)))

module _ (cup : Cup) (seasons : List Results) (is_cup : IsCup cup)
    (of_seasons : AreSeasonsOf cup.groups seasons) (results : AreCupResults seasons) where
  -- the group of a number is there
  abbrev IsThere : ℕ → GroupState → Type 0
  IsThere number group = slice_get (states_of cup seasons) number ≡ Some group

  -- ---- a joint finish

  joint_fits : (claim : Claim) (club : ℕ) (finishes : List Results) (lots : List ℕ)
      → IsCupExample cup seasons claim club finishes lots
      → HaveForms (joint_lines claim seasons finishes lots)
  joint_fits claim club finishes lots is =
      let scores = joint_scores_from 0 seasons finishes in
      let drawn = line.Lots (record { list = lots }) in
      let few = few_cup_scores cup seasons is_cup of_seasons in
      head_has (line.Finish claim) (scores ++ drawn ∷ []) refl
      (both_have scores (drawn ∷ [])
      (all_scores_fit is_cup.groups.0 is_cup.groups.1 cup.groups seasons finishes 0
      is_cup.groups.2 results is.joint.each (omega (arith, few)))
      (head_has drawn []
      (lots_in_range (clubs_together cup.groups) 72 lots (few_in_all cup is_cup) is.joint.drawn)
      refl))

  -- ---- refutations

  number_fits : (number : ℕ) (sheet : Sheet) (season : Results) (club : ℕ)
      → IsGroupOfCup cup seasons number sheet season → club < length sheet.clubs
      → is_cup_club ((start_of_group cup.groups number).club + club) ≡ true
  number_fits number sheet season club of_cup inside =
      lt-ltb (clubs_before cup.groups number + club) 72 (omega (arith, of_cup.clubs, inside))

  tree_fits : (number : ℕ) (group : GroupState) (question : GroupQuestion) (lines : List CupLine)
      → IsThere number group → question.club < length group.sheet.clubs
      → IsGroupTreeText cup seasons number question lines → HaveForms lines
  tree_fits number group question lines there inside text =
      let of_cup = group_of_state cup seasons is_cup of_seasons results number text.0 text.1 in
      let same = same_Some text.0 group (sym text.1 ∙ there) in
      let count = ap (λ (it : GroupState). length it.sheet.clubs) same in
      let start = start_of_group cup.groups number in
      subst HaveForms (sym text.5)
      (head_has (line.Tree question.kind (start.club + question.club))
      (lines_of_group_tree false start text.2)
      (number_fits number text.0.sheet text.0.results question.club of_cup
      (omega (arith, inside, count)))
      (tree_has start text.0.sheet text.0.results of_cup.league of_cup.results of_cup.clubs
      of_cup.fixtures question false text.2 [] refl text.3.reasons text.4))

  module _ (claim : Claim) (mine : GroupState) (key : List ℤ) where
    -- those of clubs one after another
    clubs_have : (number : ℕ) (group : GroupState) (from count : ℕ) (lines : List CupLine)
        → IsThere number group → from + count ≤ length group.sheet.clubs
        → AreLinesOf
        (λ club. IsGroupTreeText cup seasons number
        (record { kind = others_kind claim; club = club; key = key })) (range_with_len from count)
        lines
        → HaveForms lines
    clubs_have number group from zero lines there room text = subst HaveForms (sym text) refl
    clubs_have number group from (suc count) lines there room text =
        subst HaveForms (sym text.4)
        (both_have text.0 text.1
        (tree_fits number group (record { kind = others_kind claim; club = from; key = key })
        text.0 there (omega (arith, room)) text.2)
        (clubs_have number group (from + 1) count text.1 there (omega (arith, room)) text.3))

    -- those of the listed groups, whose numbers are those of groups
    listed_have : (numbers : List ℕ) (lines : List CupLine)
        → AreLinesOf (IsListedText cup seasons claim mine key) numbers lines
        → HaveForms lines × (list_all (is_one_of 12) numbers ≡ true)
    listed_have [] lines text = (subst HaveForms (sym text) refl, refl)
    listed_have (number ∷ numbers) lines text =
        let here = text.2 in
        let rest = listed_have numbers text.1 text.3 in
        let of_cup = group_of_state cup seasons is_cup of_seasons results number here.0 here.1 in (
          subst HaveForms (sym text.4)
              (both_have text.0 text.1
              (clubs_have number here.0 0 (length here.0.sheet.clubs) text.0 here.1 (omega arith)
              here.3) rest.0),
          and_from (is_one_of 12 number) (list_all (is_one_of 12) numbers)
              (lt-ltb number 12 (omega (arith, of_cup.inside, is_cup.most_groups))) rest.1,
        )

  refuted_fits : (claim : Claim) (club : ℕ) (lines : List CupLine)
      → IsRefutedAtTurn cup seasons claim club lines → HaveForms lines
  refuted_fits claim club lines shown =
      let key = shown.0 in
      let turn = shown.1 in
      let text = shown.2 in
      let of_mine = (group_with_number cup seasons is_cup of_seasons results turn.0
      turn.2.group_of).1 in
      let others = listed_have claim text.mine key text.listed text.others text.each in
      let some = some_listed cup claim is_cup in
      let count = text.count in
      let groups = line.Groups (record { list = text.listed }) in
      let trees = text.by_place ++ (text.by_key ++ text.others) in
      subst HaveForms (sym text.text)
      (head_has (line.KeyLine (record { parts = key })) (groups ∷ trees)
      (turning_fits turn.0.sheet turn.0.results of_mine.league.limits of_mine.results claim turn.1
      key turn.3)
      (head_has groups trees
      (and_from (is_rising text.listed) (list_all (is_one_of 12) text.listed)
      (some_rising text.listed (omega (arith, some, count)) text.rising) others.1)
      (both_have text.by_place (text.by_key ++ text.others)
      (tree_fits text.number text.mine
      (record { kind = place_kind claim; club = text.own; key = [] }) text.by_place text.there
      text.own_club text.place_tree)
      (both_have text.by_key text.others
      (tree_fits text.number text.mine
      (record { kind = nearer_kind claim; club = text.own; key = key }) text.by_key text.there
      text.own_club text.key_tree) others.0))))

  -- ---- a side that is not settled

  way_fits : (claim : Claim) (mine : GroupState) (own : ℕ) (group : GroupState)
      (question : GroupQuestion) (number : ℕ)
      → IsGroupOfCup cup seasons number mine.sheet mine.results
      → IsAskedOnTheWay direct_places claim mine own group question
      → FitsKind question.kind question.key
  way_fits claim mine own group question number of_cup way =
      elim way.2 as (λ _. FitsKind question.kind question.key) [
        | inl here ↦ asked_fits mine.sheet mine.results of_cup.league.limits of_cup.results claim
            own way.0 way.1 question here.1
        | inr there ↦ subst (λ it. FitsKind question.kind it) (sym there.1.2)
            (key_fits question.kind way.0
            (turning_fits mine.sheet mine.results of_cup.league.limits of_cup.results claim own
            way.0 way.1))
      ]

  spent_fits : (claim : Claim) (club : ℕ) (lines : List CupLine)
      → IsSpentText cup seasons claim club lines → HaveForms lines
  spent_fits claim club lines text =
      let number = text.0 in
      let group = text.1 in
      let question = text.3 in
      let tree = text.4 in
      let spent = text.5 in
      let start = start_of_group cup.groups number in
      let of_cup = group_of_state cup seasons is_cup of_seasons results number group text.2 in
      let mine = group_with_number cup seasons is_cup of_seasons results spent.mine
      spent.of_club.group_of in
      let inside = club_on_the_way claim spent.mine spent.own group question
      spent.of_club.own_club spent.on_the_way in
      let asked = key_of_question question.kind question.key in
      subst HaveForms (sym text.6)
      (head_has (line.Spent question.kind (start.club + question.club) asked)
      (lines_of_group_tree true start tree)
      (and_from (is_cup_club (start.club + question.club)) (is_key_of_kind question.kind asked)
      (number_fits number group.sheet group.results question.club of_cup inside)
      (way_fits claim spent.mine spent.own group question mine.0 mine.1 spent.on_the_way))
      (tree_has start group.sheet group.results of_cup.league of_cup.results of_cup.clubs
      of_cup.fixtures question true tree [] refl spent.tree_spent.tree_spent.reasons
      (proper_with group.sheet group.results question [] tree spent.all_new
      spent.tree_spent.units)))

  -- ---- both sides

  part_fits : (claim : Claim) (club : ℕ) (is_spent : Bool) (lines : List CupLine)
      → IsCupPartText cup seasons claim club is_spent lines → HaveForms lines
  part_fits claim club true lines text = spent_fits claim club lines text
  part_fits claim club false lines text =
      subst HaveForms (sym text.3) (joint_fits claim club text.0 text.1 text.2)

  sides_fit : (club : ℕ) (is_inside_spent is_outside_spent : Bool) (lines : List CupLine)
      → AreCupParts cup seasons club is_inside_spent is_outside_spent lines → HaveForms lines
  sides_fit club is_inside_spent is_outside_spent lines text =
      subst HaveForms (sym text.4)
      (both_have text.0 text.1 (part_fits Inside club is_inside_spent text.0 text.2)
      (part_fits Outside club is_outside_spent text.1 text.3))

-- the lines of a word have forms
pub shown_have_forms : (cup : Cup) (seasons : List Results) (club : ℕ) (word : Word)
    (lines : List CupLine) → IsCup cup → AreSeasonsOf cup.groups seasons → AreCupResults seasons
    → ShowsInCup true cup seasons club word lines → list_all is_cup_line lines ≡ true
shown_have_forms cup seasons club Clinched lines is_cup of_seasons results shows =
    refuted_fits cup seasons is_cup of_seasons results Outside club lines shows.1
shown_have_forms cup seasons club Lost lines is_cup of_seasons results shows =
    refuted_fits cup seasons is_cup of_seasons results Inside club lines shows.1
shown_have_forms cup seasons club Possible lines is_cup of_seasons results shows =
    sides_fit cup seasons is_cup of_seasons results club false false lines shows.1
shown_have_forms cup seasons club Unsettled lines is_cup of_seasons results shows =
    sides_fit cup seasons is_cup of_seasons results club shows.0 shows.1 lines shows.3
