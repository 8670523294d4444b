use Rattle.std.proofs.Common.{◌≡◌, ◌<◌, ◌≤◌, List, length, ap, ◌∙◌, arith, subst, sym}
use Rattle.std.specs.Prelude.{slice_range}
use Rattle.kept_lines.specs.LineLists.{NumberedLine, text_at}
use Rattle.kept_lines.specs.inside.LineBlocks.{head_of_line}
use Rattle.kept_lines.proofs.LinePlaceLemmas.{text_before}
use Rattle.kept_lines.proofs.LineBlockLemmas.{lines-length, text-found}
use Rattle.kept_lines.proofs.line_block.LineBlock.text.Goals as goal

pub text_head-head-requires-clause-in_range : goal.text_head-head-requires-clause-in_range
text_head-head-requires-clause-in_range c =
    let kept = c.self.inside in
    omega (
      arith,
      ap length c.self.view_is,
      lines-length kept.bytes.items kept.count,
      ap length c.as_slice-2.ensures.value,
      c.self.invariant.0.all,
    )

pub text_head-head-requires-clause-within : goal.text_head-head-requires-clause-within
text_head-head-requires-clause-within c =
    let kept = c.self.inside in
    let there : c.args.at < kept.count =
    omega (arith, ap length c.self.view_is, lines-length kept.bytes.items kept.count) in
    let part = text_before kept.bytes.items c.args.at kept.count (omega (arith, there))
    (omega (arith, c.self.invariant.0.ends)) in
    subst (λ bytes. (head_of_line bytes c.args.at).end ≤ length bytes)
    (sym c.as_slice.ensures.value) part.1

pub part_between-requires-clause-in_order : goal.part_between-requires-clause-in_order
part_between-requires-clause-in_order c =
    let kept = c.self.inside in
    let there : c.args.at < kept.count =
    omega (arith, ap length c.self.view_is, lines-length kept.bytes.items kept.count) in
    let text = c.text_head-head.ensures.text
    ∙ ap (λ bytes. (head_of_line bytes c.args.at).text) c.as_slice.ensures.value in
    let end = c.text_head-head.ensures.end
    ∙ ap (λ bytes. (head_of_line bytes c.args.at).end) c.as_slice.ensures.value in
    let part = text_before kept.bytes.items c.args.at kept.count (omega (arith, there))
    (omega (arith, c.self.invariant.0.ends)) in
    omega (arith, text, end, part.0)

pub part_between-requires-clause-within : goal.part_between-requires-clause-within
part_between-requires-clause-within c =
    let kept = c.self.inside in
    let there : c.args.at < kept.count =
    omega (arith, ap length c.self.view_is, lines-length kept.bytes.items kept.count) in
    let text = c.text_head-head.ensures.text
    ∙ ap (λ bytes. (head_of_line bytes c.args.at).text) c.as_slice.ensures.value in
    let end = c.text_head-head.ensures.end
    ∙ ap (λ bytes. (head_of_line bytes c.args.at).end) c.as_slice.ensures.value in
    let part = text_before kept.bytes.items c.args.at kept.count (omega (arith, there))
    (omega (arith, c.self.invariant.0.ends)) in
    omega (arith, end, part.1, ap length c.as_slice-3.ensures.value)

pub returns : goal.returns
returns c =
    let kept = c.self.inside in
    let there : c.args.at < kept.count =
    omega (arith, ap length c.self.view_is, lines-length kept.bytes.items kept.count) in
    let text = c.text_head-head.ensures.text
    ∙ ap (λ bytes. (head_of_line bytes c.args.at).text) c.as_slice.ensures.value in
    let end = c.text_head-head.ensures.end
    ∙ ap (λ bytes. (head_of_line bytes c.args.at).end) c.as_slice.ensures.value in
    let said = c.text_head-head.result in
    let line = head_of_line kept.bytes.items c.args.at in
    let P : List NumberedLine → Type 0 = λ lines.
    c.part_between.result.now ≡ text_at lines c.args.at in
    subst P c.self.view_is
    (c.part_between.ensures
    ∙ ap (λ bytes. slice_range bytes said.text said.end) c.as_slice-3.ensures.value
    ∙ ap (λ at. slice_range kept.bytes.items at said.end) text
    ∙ ap (slice_range kept.bytes.items line.text) end
    ∙ sym (text-found kept.bytes.items kept.count c.args.at there))
