-- A rival that the zone marks is one of the sheet's.
use Rattle.std.proofs.Common.{not, sym, ◌∙◌}
use Rattle.std.proofs.lemmas.Bool.{and_parts}
use Rattle.league_core.specs.game.ClubSets.{clubs_in}
use Rattle.league_core.specs.game.Sums.{has_club}
use Rattle.near_box.proofs.PressedLemmas.{after_of_sheet}
use Rattle.near_box.proofs.close.close_behind.Goals as goal

pub with_at_least-near-requires-clause-of_sheet : goal.with_at_least-near-requires-clause-of_sheet
with_at_least-near-requires-clause-of_sheet c club has =
    let box = c.args.zone_box.now in
    after_of_sheet box.sheet box.zone club c.requires.of_zone (sym (c.after.ensures club) ∙ has)

pub with_at_least-requires-clause-of_sheet : goal.with_at_least-requires-clause-of_sheet
with_at_least-requires-clause-of_sheet c club has =
    let box = c.args.zone_box.now in
    after_of_sheet box.sheet box.zone club c.requires.of_zone
    (sym (c.after-in-Inside.ensures club) ∙ has)

pub returns-in-Inside : goal.returns-in-Inside
returns-in-Inside c club has =
    let box = c.args.zone_box.now in
    let near = (and_parts (has_club (clubs_in c.with_at_least-near.result) club)
    (not (has_club (clubs_in c.with_at_least.result) club))
    (sym (c.without.ensures club) ∙ has)).0 in
    let marked = (and_parts (has_club (clubs_in c.after.result) club) _
    (sym (c.with_at_least-near.ensures club) ∙ near)).0 in
    after_of_sheet box.sheet box.zone club c.requires.of_zone (sym (c.after.ensures club) ∙ marked)
