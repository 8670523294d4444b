use Rattle.std.proofs.Common.{◌≡◌, ◌+◌, suc, ap, ◌∙◌, arith}
use Rattle.kept_lines.specs.inside.LineHeads.{head_at}
use Rattle.kept_lines.specs.inside.LineBlocks.{place_after, place_behind}
use Rattle.kept_lines.proofs.LinePlaceLemmas.{in_order}
use Rattle.kept_lines.proofs.line_block.place_after.Goals as goal

pub head_at-head-requires : goal.head_at-head-requires
head_at-head-requires c =
    let bytes = c.args.bytes.now in
    let order = in_order bytes c.args.from (suc c.loop.counter) c.args.count
    (omega (arith, c.loop-test.true)) in
    omega (arith, order, c.requires, ap (λ place. (head_at bytes place).end) c.loop.invariant)

pub loop-preserved : goal.loop-preserved
loop-preserved c =
    let bytes = c.args.bytes.now in
    let next : suc c.loop.counter ≡ c.loop.counter + 1 = omega arith in
    ap place_behind (c.head_at-head.ensures ∙ ap (head_at bytes) c.loop.invariant)
    ∙ ap (λ n. place_after n c.args.from bytes) next
