use Rattle.std.proofs.Common.{◌++◌, [], ◌∷◌, List, ap, ◌∙◌, arith, subst, ℕ}
use Rattle.kept_lines.specs.LineLists.{NumberedLine}
use Rattle.kept_lines.specs.inside.LineBlocks.{AreLinesKept}
use Rattle.kept_lines.proofs.LineBlockLemmas.{kept_next}
use Rattle.kept_lines.proofs.line_block.LineBlock.add.Goals as goal

pub invariant_of-self-2 : goal.invariant_of-self-2
invariant_of-self-2 c =
    let block = c.self.inside in
    let kept = subst (λ bytes. AreLinesKept bytes c.mark_end.new.marks.items block.count)
    c.as_slice.ensures.value c.in_ok-mark_end.ensures.kept in
    let next = kept_next block.bytes.items c.write_line.new.bytes.items c.args.text.now
    c.mark_end.new.marks.items block.count block.last c.in-Ok.number kept c.self.invariant.1
    c.in_ok-mark_end.ensures.ok c.in_ok-write_line.ensures.ok in
    (next.0, next.1)

pub returns-clause-ok : goal.returns-clause-ok
returns-clause-ok c =
    let block = c.self.inside in
    let kept = subst (λ bytes. AreLinesKept bytes c.mark_end.new.marks.items block.count)
    c.as_slice.ensures.value c.in_ok-mark_end.ensures.kept in
    let line : ℕ → NumberedLine = λ number. record { number = number; text = c.args.text.now } in
    (kept_next block.bytes.items c.write_line.new.bytes.items c.args.text.now
    c.mark_end.new.marks.items block.count block.last c.in-Ok.number kept c.self.invariant.1
    c.in_ok-mark_end.ensures.ok c.in_ok-write_line.ensures.ok).2
    ∙ ap (λ (lines : List NumberedLine). lines ++ line c.in-Ok.number ∷ []) c.self.view_is
    ∙ ap (λ number. c.args.self.now ++ line number ∷ []) (omega (arith, c.in-Ok.ensures))
