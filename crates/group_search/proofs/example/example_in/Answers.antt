use Rattle.std.proofs.Common.{◌≡◌, true, false, sym, ◌∙◌, subst}
use Rattle.league_core.specs.declared.question.Question.{Question}
use Rattle.league_core.specs.game.Sheets.{IsWithinLimits}
use Rattle.branch_rules.specs.inside.Found.{is_proposed_example}
use Rattle.cup_groups.specs.inside.KindQuestions.{group_question_of}
use Rattle.group_search.proofs.GroupExampleLemmas.{vain_by_place}
use Rattle.group_search.proofs.example.example_in.Goals as goal

pub returns-then-not-is_example-clause-absent : goal.returns-then-not-is_example-clause-absent
returns-then-not-is_example-clause-absent c = λ none.
    let b = c.args.zone_box.now in
    vain_by_place b.sheet b.season (group_question_of c.args.question.now) b.zone
    (subst IsWithinLimits c.sheet-limits.ensures.sheet c.sheet-limits.ensures.limits)
    c.requires.results
    (subst (λ (asked : Question). is_proposed_example b.sheet b.season asked b.zone ≡ false)
    c.place.ensures.value (sym c.is_example.ensures ∙ c.if-not-is_example.true))

pub example_of_place-requires-clause-example : goal.example_of_place-requires-clause-example
example_of_place-requires-clause-example c =
    let b = c.args.zone_box.now in
    subst (λ (asked : Question). is_proposed_example b.sheet b.season asked b.zone ≡ true)
    c.place.ensures.value (sym c.is_example.ensures ∙ c.if-not-is_example.false)
