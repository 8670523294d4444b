use Rattle.std.proofs.Common.{◌≡◌, true, false, subst}
use Rattle.league_core.specs.declared.question.Question.{Question}
use Rattle.league_core.specs.search.Reasons.{has_reason}
use Rattle.cup_sheet.specs.CupLimits.{direct_places}
use Rattle.cup_groups.specs.inside.KindQuestions.{group_question_of}
use Rattle.group_search.proofs.GroupReasonLemmas.{plain_holds, no_place_reason}
use Rattle.group_search.proofs.reason.place_reason.Goals as goal

pub returns-in-Some-clause-found : goal.returns-in-Some-clause-found
returns-in-Some-clause-found c =
    let b = c.args.zone_box.now in
    let first = rw c.in-Some.is at c.in_ok-reason.ensures.found in
    plain_holds direct_places b.sheet b.season (group_question_of c.args.question.now) b.zone
    c.in-Some.reason c.requires.of_place
    (subst (λ (asked : Question). has_reason b.sheet b.season asked b.zone c.in-Some.reason ≡ true)
    c.place.ensures.value first.holds)

pub returns-in-None-clause-absent : goal.returns-in-None-clause-absent
returns-in-None-clause-absent c = λ none.
    let b = c.args.zone_box.now in
    no_place_reason direct_places b.sheet b.season (group_question_of c.args.question.now) b.zone
    c.requires.of_place
    (λ reason. subst (λ (asked : Question). has_reason b.sheet b.season asked b.zone reason ≡ false)
    c.place.ensures.value (c.in_ok-reason.ensures.absent c.in-None.is reason))
