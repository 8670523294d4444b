use Rattle.std.proofs.Common.{◌≡◌, ◌≤◌, ◌<◌, List, length, ap, ◌∙◌, arith, subst, sym}
use Rattle.kept_lines.specs.LineLists.{NumberedLine, line_number_at}
use Rattle.kept_lines.specs.declared.line_head.LineHead.{LineHead}
use Rattle.kept_lines.specs.inside.LineHeads.{head_at}
use Rattle.kept_lines.specs.inside.LineBlocks.{first_place, head_of_line, place_after}
use Rattle.kept_lines.proofs.LinePlaceLemmas.{in_order, text_before}
use Rattle.kept_lines.proofs.LineBlockLemmas.{lines-length, number-found}
use Rattle.kept_lines.proofs.line_block.LineBlock.number.Goals as goal

pub place_after-requires : goal.place_after-requires
place_after-requires c =
    let kept = c.self.inside in
    let order = in_order kept.bytes.items first_place c.args.at kept.count
    (omega (arith, ap length c.self.view_is, lines-length kept.bytes.items kept.count)) in
    subst (λ bytes. (place_after c.args.at first_place bytes).start ≤ length bytes)
    (sym c.as_slice-bytes.ensures.value) (omega (arith, order, c.self.invariant.0.ends))

pub head_at-requires : goal.head_at-requires
head_at-requires c =
    let kept = c.self.inside in
    let there : c.args.at < kept.count =
    omega (arith, ap length c.self.view_is, lines-length kept.bytes.items kept.count) in
    let part = text_before kept.bytes.items c.args.at kept.count (omega (arith, there))
    (omega (arith, c.self.invariant.0.ends)) in
    let bytes = c.as_slice-bytes.result.now in
    let end = ap (λ place. (head_at bytes place).end) c.place_after.ensures
    ∙ ap (λ xs. (head_of_line xs c.args.at).end) c.as_slice-bytes.ensures.value in
    omega (arith, end, part.1, ap length c.as_slice-bytes.ensures.value)

pub returns : goal.returns
returns c =
    let kept = c.self.inside in
    let there : c.args.at < kept.count =
    omega (arith, ap length c.self.view_is, lines-length kept.bytes.items kept.count) in
    let bytes = c.as_slice-bytes.result.now in
    let P : List NumberedLine → Type 0 = λ lines. c.from.result ≡ line_number_at lines c.args.at in
    subst P c.self.view_is
    (c.from.ensures
    ∙ ap (λ (head : LineHead). head.number)
    (c.head_at.ensures ∙ ap (head_at bytes) c.place_after.ensures)
    ∙ ap (λ xs. (head_of_line xs c.args.at).number) c.as_slice-bytes.ensures.value
    ∙ sym (number-found kept.bytes.items kept.count c.args.at there))
