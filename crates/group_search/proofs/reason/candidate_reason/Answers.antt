use Rattle.std.proofs.Common.{◌≡◌, ℤ, List, true, false, sym, ap₂, ◌∙◌, subst}
use Rattle.league_core.specs.declared.question.Question.{Question}
use Rattle.league_core.specs.search.Reasons.{has_reason}
use Rattle.cup_sheet.specs.CupLimits.{direct_places}
use Rattle.cup_sheet.specs.GroupQuestions.{is_key_refuted}
use Rattle.cup_groups.specs.inside.KindQuestions.{group_question_of}
use Rattle.group_search.proofs.GroupReasonLemmas.{key_holds, in_holds, out_holds}
use Rattle.group_search.proofs.GroupReasonLemmas.{no_candidate_reason}
use Rattle.group_search.proofs.reason.candidate_reason.Goals as goal

pub returns-then-is_refuted_by-clause-found : goal.returns-then-is_refuted_by-clause-found
returns-then-is_refuted_by-clause-found c =
    let b = c.args.zone_box.now in
    let asked = group_question_of c.args.question.now in
    key_holds direct_places b.sheet b.season asked b.zone c.requires.has_finish
    (ap₂ (λ (low high : List ℤ). is_key_refuted asked.kind asked.key low high)
    (sym c.key_ends.ensures.low) (sym c.key_ends.ensures.high)
    ∙ sym c.is_refuted_by.ensures ∙ c.if-is_refuted_by.true)

pub returns-in-Some-clause-found : goal.returns-in-Some-clause-found
returns-in-Some-clause-found c =
    let b = c.args.zone_box.now in
    let first = rw c.in-Some.is at c.in_ok-reason.ensures.found in
    in_holds direct_places b.sheet b.season (group_question_of c.args.question.now) b.zone
    c.in-Some.reason c.requires.of_candidate
    (subst (λ (asked : Question). has_reason b.sheet b.season asked b.zone c.in-Some.reason ≡ true)
    c.reach.ensures.value first.holds)

pub returns-in-Some-2-clause-found : goal.returns-in-Some-2-clause-found
returns-in-Some-2-clause-found c =
    let b = c.args.zone_box.now in
    let first = rw c.in-Some-2.is at c.in_ok-reason-2.ensures.found in
    out_holds direct_places b.sheet b.season (group_question_of c.args.question.now) b.zone
    c.in-Some-2.reason c.requires.of_candidate
    (subst (λ (asked : Question).
    has_reason b.sheet b.season asked b.zone c.in-Some-2.reason ≡ true)
    c.after.ensures.value first.holds)

pub returns-in-None-clause-absent : goal.returns-in-None-clause-absent
returns-in-None-clause-absent c = λ none.
    let b = c.args.zone_box.now in
    let asked = group_question_of c.args.question.now in
    no_candidate_reason direct_places b.sheet b.season asked b.zone c.requires.of_candidate
    (ap₂ (λ (low high : List ℤ). is_key_refuted asked.kind asked.key low high)
    (sym c.key_ends.ensures.low) (sym c.key_ends.ensures.high)
    ∙ sym c.is_refuted_by.ensures ∙ c.if-is_refuted_by.false)
    (λ reason. subst (λ (q : Question). has_reason b.sheet b.season q b.zone reason ≡ false)
    c.reach.ensures.value
    (c.in_ok-reason.ensures.absent c.in_default.is reason))
    (λ reason. subst (λ (q : Question). has_reason b.sheet b.season q b.zone reason ≡ false)
    c.after.ensures.value (c.in_ok-reason-2.ensures.absent c.in-None.is reason))
