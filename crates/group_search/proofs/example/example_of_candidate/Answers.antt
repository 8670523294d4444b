use Rattle.std.proofs.Common.{◌≡◌, ℤ, List, sym, ap, ap₂, ◌∙◌, subst}
use Rattle.league_core.specs.declared.sheet.Sheet.{Sheet}
use Rattle.league_core.specs.game.Results.{Results}
use Rattle.league_core.specs.game.Finishes.{IsFinishOf}
use Rattle.league_core.specs.game.Seasons.{IsSeasonOf}
use Rattle.league_core.specs.game.Sheets.{IsWithinLimits}
use Rattle.league_core.specs.search.Keys.{key_of}
use Rattle.league_core.proofs.ProposalLemmas.{proposed_is_finish}
use Rattle.club_keys.specs.inside.KeyEnds.{key_parts}
use Rattle.cup_sheet.specs.CupLimits.{direct_places}
use Rattle.cup_sheet.specs.GroupQuestions.{is_key_on_side}
use Rattle.cup_groups.specs.inside.KindQuestions.{group_question_of}
use Rattle.group_search.proofs.GroupExampleLemmas.{candidate_example, proposed_league}
use Rattle.group_search.proofs.GroupExampleLemmas.{vain_by_lots}
use Rattle.group_search.proofs.example.example_of_candidate.Goals as goal

pub key_of-requires-clause-league : goal.key_of-requires-clause-league
key_of-requires-clause-league c =
    let b = c.args.zone_box.now in
    rw (c.sheet-sheet.ensures.sheet, c.as_season.ensures.season, c.in_ok-finish.ensures)
    (proposed_league b.sheet b.season c.place.result b.zone
    (subst IsWithinLimits c.sheet-sheet.ensures.sheet c.sheet-sheet.ensures.limits)
    (subst (IsSeasonOf b.sheet) c.season-played.ensures.season c.season-played.ensures.of_sheet)
    c.requires.has_finish)

pub candidate_lots-requires-clause-league : goal.candidate_lots-requires-clause-league
candidate_lots-requires-clause-league c =
    let b = c.args.zone_box.now in
    rw (c.sheet-sheet.ensures.sheet, c.as_season-2.ensures.season, c.in_ok-finish.ensures)
    (proposed_league b.sheet b.season c.place.result b.zone
    (subst IsWithinLimits c.sheet-sheet.ensures.sheet c.sheet-sheet.ensures.limits)
    (subst (IsSeasonOf b.sheet) c.season-played.ensures.season c.season-played.ensures.of_sheet)
    c.requires.has_finish)

pub returns-in-Some-clause-found : goal.returns-in-Some-clause-found
returns-in-Some-clause-found c =
    let b = c.args.zone_box.now in
    let asked = group_question_of c.args.question.now in
    let found = rw c.in-Some.is at c.in_ok-lots.ensures.found in
    let candidate = rw (c.sheet-sheet.ensures.sheet, c.as_season-2.ensures.season) at found in
    let keys : key_parts c.key_of.result ≡ key_of b.sheet c.in_ok-finish.finish asked.club =
    c.key_of.ensures
    ∙ ap₂ (λ (s : Sheet) (f : Results). key_of s f asked.club) c.sheet-sheet.ensures.sheet
    c.as_season.ensures.season in
    candidate_example direct_places b.sheet b.season c.in_ok-finish.finish c.in-Some.lots asked
    c.requires.of_candidate
    (subst (λ (f : Results). IsFinishOf b.sheet b.season f) (sym c.in_ok-finish.ensures)
    (proposed_is_finish b.sheet b.season c.place.result b.zone
    (subst (IsSeasonOf b.sheet) c.season-played.ensures.season c.season-played.ensures.of_sheet)
    c.requires.has_finish))
    candidate.drawn candidate.place
    (ap (λ (key : List ℤ). is_key_on_side asked.kind asked.key key) (sym keys)
    ∙ sym c.is_on_side.ensures ∙ c.if-not-is_on_side.false)

pub returns-in-None-clause-absent : goal.returns-in-None-clause-absent
returns-in-None-clause-absent c = λ none.
    let b = c.args.zone_box.now in
    let asked = group_question_of c.args.question.now in
    let absent = c.in_ok-lots.ensures.absent c.in-None.is in
    let elsewhere = rw (
      c.sheet-sheet.ensures.sheet,
      c.as_season-2.ensures.season,
      c.in_ok-finish.ensures,
      c.place.ensures.value,
    ) at absent in
    vain_by_lots b.sheet b.season asked b.zone c.requires.of_candidate elsewhere
