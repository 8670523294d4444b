use Rattle.std.proofs.Common.{subst}
use Rattle.league_core.specs.game.Seasons.{IsSeasonOf}
use Rattle.branch_rules.proofs.FoundLemmas.{has_several}
use Rattle.branch_rules.proofs.search.reason_or_split.Goals as goal

pub choose-requires-clause-several : goal.choose-requires-clause-several
choose-requires-clause-several c =
    let b = c.args.zone_box.now in
    has_several b.sheet b.season c.args.question.now b.zone
    (subst (IsSeasonOf b.sheet) c.season-season.ensures.season c.season-season.ensures.of_sheet)
    c.requires.of_sheet c.requires.has_finish c.requires.in_vain
    (c.in_ok-reason.ensures.absent c.in-None.is)
