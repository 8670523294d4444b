-- The trees that a search of a group made are of its clubs and fixtures.
use Rattle.std.proofs.Common.{◌≡◌, ◌≤◌, ◌+◌, true, not, ◌&&◌, nat_lt, List, [], length, refl, arith}
use Rattle.std.proofs.Common.{false}
use Rattle.std.specs.Prelude.{All, IsTrue, ◌==◌}
use Rattle.std.proofs.lemmas.Bool.{and_parts, ltb-true}
use Rattle.std.proofs.lemmas.List.Elements.{All-nil, All-cons, All-append}
use Rattle.league_core.specs.declared.sheet.Sheet.{Sheet}
use Rattle.league_core.specs.declared.question.Question.{Question}
use Rattle.league_core.specs.declared.zone.Literal.{Literal}
use Rattle.league_core.specs.declared.zone.Test.{Test}
use Rattle.league_core.specs.declared.zone.Test.TheVariants.{Home, Draw, HomeMost, AwayMost, Rival}
use Rattle.league_core.specs.game.Results.{Results}
use Rattle.league_core.specs.search.Splits.{is_proper, have_both_finish}
use Rattle.league_core.specs.search.Zones.{is_marked, with_test}
use Rattle.depth_search.specs.inside.Cases.{Cases, left_open, refuted, split, case_nodes}
use Rattle.cup_sheet.specs.declared.question.GroupReason.{GroupReason}
use Rattle.cup_sheet.specs.CupLimits.{direct_places}
use Rattle.cup_sheet.specs.GroupQuestions.{GroupQuestion, place_question}
use Rattle.cup_sheet.specs.GroupTrees.{ZonesMeet, IsFairGroupSplit}
use Rattle.group_search.specs.inside.GroupTasks.{new_group_tree}
use Rattle.cup_groups.specs.declared.start.GroupStart.{GroupStart}
use Rattle.cup_rows.specs.inside.GroupTreeLines.{IsCupTestWithin, IsNodeWithin}

-- a proper split is by a club or a fixture of the group
proper_within : (start : GroupStart) (sheet : Sheet) (season : Results) (question : Question)
    (zone : List Literal) (test : Test) → start.club + length sheet.clubs ≤ 72
    → start.fixture + length sheet.fixtures ≤ 720
    → is_proper sheet season question zone test ≡ true → IsCupTestWithin start test
proper_within start sheet season question zone (Home fixture) clubs fixtures proper =
    let here = ltb-true fixture (length sheet.fixtures)
    (and_parts (nat_lt fixture (length sheet.fixtures))
    (have_both_finish sheet season zone (Home fixture)) proper).0 in
    omega (arith, fixtures, here)
proper_within start sheet season question zone (Draw fixture) clubs fixtures proper =
    let here = ltb-true fixture (length sheet.fixtures)
    (and_parts (nat_lt fixture (length sheet.fixtures))
    (have_both_finish sheet season zone (Draw fixture)) proper).0 in
    omega (arith, fixtures, here)
proper_within start sheet season question zone (HomeMost fixture most) clubs fixtures proper =
    let here = ltb-true fixture (length sheet.fixtures)
    (and_parts (nat_lt fixture (length sheet.fixtures))
    (have_both_finish sheet season zone (HomeMost fixture most)) proper).0 in
    omega (arith, fixtures, here)
proper_within start sheet season question zone (AwayMost fixture most) clubs fixtures proper =
    let here = ltb-true fixture (length sheet.fixtures)
    (and_parts (nat_lt fixture (length sheet.fixtures))
    (have_both_finish sheet season zone (AwayMost fixture most)) proper).0 in
    omega (arith, fixtures, here)
proper_within start sheet season question zone (Rival club) clubs fixtures proper =
    let both = (and_parts
    (nat_lt club (length sheet.clubs) && not (club == question.club)) (not (is_marked zone club))
    proper).0 in
    let here = ltb-true club (length sheet.clubs)
    (and_parts (nat_lt club (length sheet.clubs)) (not (club == question.club)) both).0 in
    omega (arith, clubs, here)

-- so is each node of a tree whose splits are fair
pub nodes_within : (start : GroupStart) (sheet : Sheet) (season : Results)
    (question : GroupQuestion) (zone : List Literal) (cases : Cases GroupReason)
    → start.club + length sheet.clubs ≤ 72 → start.fixture + length sheet.fixtures ≤ 720
    → ZonesMeet (λ zone reason fresh. Unit {0})
    (λ zone test fresh. IsTrue fresh
    → IsFairGroupSplit direct_places sheet season question zone test) zone (new_group_tree cases)
    → All (IsNodeWithin start) (case_nodes cases)
nodes_within start sheet season question zone left_open clubs fixtures fair =
    All-cons (IsNodeWithin start) _ [] tt (All-nil (IsNodeWithin start))
nodes_within start sheet season question zone (refuted reason) clubs fixtures fair =
    All-cons (IsNodeWithin start) _ [] tt (All-nil (IsNodeWithin start))
nodes_within start sheet season question zone (split test yes_half no_half) clubs fixtures fair =
    All-cons (IsNodeWithin start) _ _
    (proper_within start sheet season (place_question direct_places question.kind question.club)
    zone test clubs fixtures (fair.0 refl).proper)
    (All-append (IsNodeWithin start) _ _
    (nodes_within start sheet season question (with_test zone test true) yes_half clubs fixtures
    fair.1)
    (nodes_within start sheet season question (with_test zone test false) no_half clubs fixtures
    fair.2))
