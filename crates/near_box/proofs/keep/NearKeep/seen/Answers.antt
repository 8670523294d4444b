use Rattle.std.proofs.Common.{int_le, [], ◌∷◌, length, sym, ap, ◌∙◌, arith, rules}
use Rattle.std.proofs.Common.{FitsSigned, w32}
use Rattle.std.proofs.lemmas.Bool.{and_parts}
use Rattle.std.proofs.lemmas.Int.{to_z-of_z}
use Rattle.league_core.specs.declared.sheet.Sheet.{Sheet}
use Rattle.league_core.specs.search.PointRanges.{own_most, own_least, least_points_of}
use Rattle.league_core.specs.search.PointRanges.{most_points_of}
use Rattle.league_core.specs.search.Zones.{marked_before, marked_after}
use Rattle.near_box.proofs.PressedLemmas.{before_of_sheet, after_of_sheet}
use Rattle.near_box.proofs.SightLemmas.{barred_in_box, near_is_either, first_is_near}
use Rattle.near_box.proofs.keep.NearKeep.seen.Goals as goal

pub seen-after-requires-clause-pressed : goal.seen-after-requires-clause-pressed
seen-after-requires-clause-pressed c club has =
    let box = c.args.zone_box.now in
    let marked = (and_parts (marked_after box.zone club)
    (int_le (own_most box.sheet box.season c.args.question.now box.zone)
    (least_points_of box.sheet box.season box.zone (club ∷ [])))
    (sym (c.requires.pressed.0 club) ∙ has)).0 in
    let inside = after_of_sheet box.sheet box.zone club c.requires.of_zone marked in
    omega (arith, inside, ap (λ (s : Sheet). length s.clubs) c.left-left.ensures.sheet)

pub seen-before-requires-clause-pressed : goal.seen-before-requires-clause-pressed
seen-before-requires-clause-pressed c club has =
    let box = c.args.zone_box.now in
    let marked = (and_parts (marked_before box.zone club)
    (int_le (most_points_of box.sheet box.season box.zone (club ∷ []))
    (own_least box.sheet box.season c.args.question.now box.zone))
    (sym (c.requires.pressed.1 club) ∙ has)).0 in
    let inside = before_of_sheet box.sheet box.zone club c.requires.of_zone marked in
    omega (arith, inside, ap (λ (s : Sheet). length s.clubs) c.left-left.ensures.sheet)

pub returns-clause-near : goal.returns-clause-near
returns-clause-near c =
    let box = c.args.zone_box.now in
    let question = c.args.question.now in
    let after = c.seen-after.result.near in
    let before = c.seen-before.result.near in
    let most_fits : FitsSigned w32 c.own_most.result = search rules in
    let least_fits : FitsSigned w32 c.own_least.result = search rules in
    first_is_near box question after before c.both_seen.result.near
    (near_is_either box question c.args.pressed after before c.requires.has_finish
    c.requires.pressed
    (barred_in_box box question c.left-left.result _
    (own_most box.sheet box.season question box.zone)
    c.args.pressed.behind after c.left-left.ensures c.requires.has_finish
    (to_z-of_z w32 c.own_most.result most_fits ∙ c.own_most.ensures.value)
    c.seen-after.ensures)
    (barred_in_box box question c.left-left.result _
    (own_least box.sheet box.season question box.zone)
    c.args.pressed.ahead before c.left-left.ensures c.requires.has_finish
    (to_z-of_z w32 c.own_least.result least_fits ∙ c.own_least.ensures.value)
    c.seen-before.ensures)) c.both_seen.ensures
