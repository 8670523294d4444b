-- The splits of a tree that a search made are proper.
use Rattle.std.proofs.Common.{◌≡◌, true, false, List}
use Rattle.std.specs.Prelude.{◌&&◌, IsTrue}
use Rattle.std.proofs.lemmas.Bool.{and_parts}
use Rattle.league_core.specs.declared.sheet.Sheet.{Sheet}
use Rattle.league_core.specs.declared.zone.Literal.{Literal}
use Rattle.league_core.specs.game.Results.{Results}
use Rattle.league_core.specs.search.Splits.{is_proper}
use Rattle.league_core.specs.search.Zones.{with_test}
use Rattle.cup_sheet.specs.CupLimits.{direct_places}
use Rattle.cup_sheet.specs.GroupQuestions.{GroupQuestion, place_question}
use Rattle.cup_sheet.specs.GroupTrees.{GroupTree, IsFairGroupSplit, ZonesMeet, are_all_new}
use Rattle.cup_sheet.specs.GroupTrees.{open_zone, refuted_zone, split_zone}

-- new splits that are fair are proper
pub proper_with : (sheet : Sheet) (season : Results) (question : GroupQuestion)
    (zone : List Literal) (tree : GroupTree) → are_all_new tree ≡ true
    → ZonesMeet (λ it said fresh. Unit {0})
    (λ it test fresh. IsTrue fresh → IsFairGroupSplit direct_places sheet season question it test)
    zone tree
    → ZonesMeet (λ it said fresh. Unit {0})
    (λ it test fresh. is_proper sheet season
    (place_question direct_places question.kind question.club) it test ≡ true) zone tree
proper_with sheet season question zone open_zone new fair = tt
proper_with sheet season question zone (refuted_zone said fresh) new fair = tt
proper_with sheet season question zone (split_zone test fresh yes_half no_half) new fair =
    let all = and_parts (fresh && are_all_new yes_half) (are_all_new no_half) new in
    let front = and_parts fresh (are_all_new yes_half) all.0 in (
      (fair.0 front.0).proper,
      proper_with sheet season question (with_test zone test true) yes_half front.1 fair.1,
      proper_with sheet season question (with_test zone test false) no_half all.1 fair.2,
    )
