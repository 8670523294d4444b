use Rattle.std.proofs.Common.{subst}
use Rattle.league_core.specs.declared.question.Question.{Question}
use Rattle.league_core.specs.game.Seasons.{IsSeasonOf}
use Rattle.branch_rules.specs.inside.Choices.{IsDueSplit}
use Rattle.cup_groups.specs.inside.KindQuestions.{group_question_of}
use Rattle.group_search.proofs.GroupLookLemmas.{group_has_several, group_split_is_fair}
use Rattle.group_search.proofs.task.split_of.Goals as goal

pub choose-requires-clause-several : goal.choose-requires-clause-several
choose-requires-clause-several c =
    let b = c.args.zone_box.now in
    group_has_several b.sheet b.season (group_question_of c.args.question.now) b.zone
    (subst (IsSeasonOf b.sheet) c.season-season.ensures.season c.season-season.ensures.of_sheet)
    c.requires.in_range c.requires.has_finish c.requires.no_reason c.requires.in_vain

pub returns : goal.returns
returns c =
    let b = c.args.zone_box.now in
    group_split_is_fair b (group_question_of c.args.question.now) c.choose.result.test
    c.requires.has_finish c.requires.in_vain c.requires.no_reason
    (subst (λ (asked : Question). IsDueSplit b asked c.choose.result.test) c.place.ensures.value
    c.choose.ensures)
