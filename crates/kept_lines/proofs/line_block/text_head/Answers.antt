use Rattle.std.proofs.Common.{suc, ap, ◌∙◌, arith}
use Rattle.kept_lines.specs.declared.line_head.LineHead.{LineHead}
use Rattle.kept_lines.specs.declared.line_head.LinePlace.{LinePlace}
use Rattle.kept_lines.specs.inside.LineBlocks.{first_place, place_after}
use Rattle.kept_lines.proofs.LinePlaceLemmas.{in_order, mark_leads}
use Rattle.kept_lines.proofs.LineHeadLemmas.{same_bounds}
use Rattle.kept_lines.proofs.line_block.text_head.Goals as goal

pub place_after-requires : goal.place_after-requires
place_after-requires c =
    let bytes = c.args.bytes.now in
    let leads = mark_leads bytes c.args.marks.now c.args.at 0 c.requires.marks
    c.requires.in_range in
    let order = in_order bytes first_place c.args.at (suc c.args.at) (omega arith) in
    omega (arith, leads, order, c.requires.within)

pub head_at-requires : goal.head_at-requires
head_at-requires c =
    let bytes = c.args.bytes.now in
    let leads = ap (λ (place : LinePlace). place.start) c.place_after.ensures
    ∙ mark_leads bytes c.args.marks.now c.args.at 0 c.requires.marks c.requires.in_range in
    let bounds = same_bounds bytes c.place_after.result (place_after c.args.at first_place bytes)
    leads in
    omega (arith, bounds.1, c.requires.within)

pub returns-clause-text : goal.returns-clause-text
returns-clause-text c =
    let bytes = c.args.bytes.now in
    let leads = ap (λ (place : LinePlace). place.start) c.place_after.ensures
    ∙ mark_leads bytes c.args.marks.now c.args.at 0 c.requires.marks c.requires.in_range in
    ap (λ (head : LineHead). head.text) c.head_at.ensures
    ∙ (same_bounds bytes c.place_after.result (place_after c.args.at first_place bytes) leads).0

pub returns-clause-end : goal.returns-clause-end
returns-clause-end c =
    let bytes = c.args.bytes.now in
    let leads = ap (λ (place : LinePlace). place.start) c.place_after.ensures
    ∙ mark_leads bytes c.args.marks.now c.args.at 0 c.requires.marks c.requires.in_range in
    ap (λ (head : LineHead). head.end) c.head_at.ensures
    ∙ (same_bounds bytes c.place_after.result (place_after c.args.at first_place bytes) leads).1
