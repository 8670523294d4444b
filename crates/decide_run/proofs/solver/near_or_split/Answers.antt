use Rattle.std.proofs.Common.{subst}
use Rattle.league_core.specs.game.Seasons.{IsSeasonOf}
use Rattle.branch_rules.proofs.FoundLemmas.{has_several}
use Rattle.decide_run.proofs.LookLemmas.{split_is_fair}
use Rattle.decide_run.proofs.solver.near_or_split.Goals as goal

pub choose_seeing-choice-requires-clause-several : goal.choose_seeing-choice-requires-clause-several
choose_seeing-choice-requires-clause-several c =
    let b = c.args.zone_box.now in
    has_several b.sheet b.season c.args.question.now b.zone
    (subst (IsSeasonOf b.sheet) c.season-season.ensures.season c.season-season.ensures.of_sheet)
    c.requires.of_sheet c.requires.has_finish c.requires.in_vain c.requires.no_reason

pub seeing-requires-clause-several : goal.seeing-requires-clause-several
seeing-requires-clause-several c =
    let b = c.args.zone_box.now in
    has_several b.sheet b.season c.args.question.now b.zone
    (subst (IsSeasonOf b.sheet) c.season-season.ensures.season c.season-season.ensures.of_sheet)
    c.requires.of_sheet c.requires.has_finish c.requires.in_vain c.requires.no_reason

pub returns-in-None-clause-found : goal.returns-in-None-clause-found
returns-in-None-clause-found c =
    split_is_fair c.args.zone_box.now c.args.question.now c.seeing.result.literal.test
    c.requires.has_finish c.requires.in_vain c.requires.no_reason
    (c.look-seen.ensures.near.absent c.in-None.is) c.seeing.ensures
