use Rattle.std.proofs.Common.{◌<◌, ℕ, length, sym, ap, ◌∙◌, subst}
use Rattle.league_core.specs.declared.sheet.Sheet.{Sheet}
use Rattle.league_core.specs.game.Seasons.{IsSeasonOf}
use Rattle.league_core.specs.inside.LotsFor.{lots_for_claim}
use Rattle.branch_rules.proofs.FoundLemmas.{proposed_example}
use Rattle.branch_rules.proofs.search.proposed.Goals as goal

pub lots_for-requires : goal.lots_for-requires
lots_for-requires c =
    let clubs = c.len-clubs.ensures ∙ ap (λ (s : Sheet). length s.clubs) c.sheet.ensures.sheet in
    subst (λ (n : ℕ). c.args.question.now.club < n) (sym clubs) c.requires.of_sheet.club

pub returns : goal.returns
returns c =
    let b = c.args.zone_box.now in
    let question = c.args.question.now in
    let clubs = c.len-clubs.ensures ∙ ap (λ (s : Sheet). length s.clubs) c.sheet.ensures.sheet in
    proposed_example b.sheet b.season question b.zone c.in_ok-finish.finish c.in_ok-lots.lots
    (subst (IsSeasonOf b.sheet) c.season-season.ensures.season c.season-season.ensures.of_sheet)
    c.requires.of_sheet.club c.requires.has_finish c.in_ok-finish.ensures
    (c.in_ok-lots.ensures
    ∙ ap (λ (n : ℕ). lots_for_claim n question.club question.claim) clubs)
    c.requires.example
