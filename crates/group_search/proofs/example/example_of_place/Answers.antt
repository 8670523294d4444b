use Rattle.std.proofs.Common.{◌<◌, ℕ, length, sym, ap, ◌∙◌, subst}
use Rattle.league_core.specs.declared.sheet.Sheet.{Sheet}
use Rattle.league_core.specs.declared.question.Question.{Question}
use Rattle.league_core.specs.game.Seasons.{IsSeasonOf}
use Rattle.league_core.specs.inside.LotsFor.{lots_for_claim}
use Rattle.branch_rules.proofs.FoundLemmas.{proposed_example}
use Rattle.cup_sheet.specs.CupLimits.{direct_places}
use Rattle.cup_sheet.specs.GroupQuestions.{place_question}
use Rattle.cup_groups.specs.inside.KindQuestions.{group_question_of}
use Rattle.group_search.proofs.GroupExampleLemmas.{place_is_group_example, place_question-club}
use Rattle.group_search.proofs.example.example_of_place.Goals as goal

pub lots_for-requires : goal.lots_for-requires
lots_for-requires c =
    let clubs = c.len-clubs.ensures ∙ ap (λ (s : Sheet). length s.clubs) c.sheet.ensures.sheet in
    subst (λ (n : ℕ). c.place-place.result.club < n) (sym clubs)
    (subst (λ (club : ℕ). club < length c.args.zone_box.now.sheet.clubs)
    (sym c.place-place.ensures.club) c.requires.in_range)

pub returns : goal.returns
returns c =
    let b = c.args.zone_box.now in
    let asked = group_question_of c.args.question.now in
    let place = place_question direct_places asked.kind asked.club in
    let clubs = c.len-clubs.ensures ∙ ap (λ (s : Sheet). length s.clubs) c.sheet.ensures.sheet in
    let example = proposed_example b.sheet b.season place b.zone c.in_ok-finish.finish
    c.in_ok-lots.lots
    (subst (IsSeasonOf b.sheet) c.season-season.ensures.season c.season-season.ensures.of_sheet)
    (subst (λ (club : ℕ). club < length b.sheet.clubs)
    (sym (place_question-club direct_places asked.kind asked.club)) c.requires.in_range)
    c.requires.has_finish
    (rw c.place-place.ensures.value at c.in_ok-finish.ensures)
    (c.in_ok-lots.ensures
    ∙ ap (λ (n : ℕ). lots_for_claim n c.place-place.result.club c.place-place.result.claim) clubs
    ∙ ap (λ (q : Question). lots_for_claim (length b.sheet.clubs) q.club q.claim)
    c.place-place.ensures.value)
    c.requires.example in
    place_is_group_example direct_places b.sheet b.season c.in_ok-finish.finish c.in_ok-lots.lots
    asked c.requires.of_place example.example
