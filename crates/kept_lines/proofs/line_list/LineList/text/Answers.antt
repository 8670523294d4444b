use Rattle.std.proofs.Common.{◌<◌, ◌/◌, ◌%◌, length, ap, ◌∙◌, arith, get_or}
use Rattle.kept_lines.specs.LineLists.{text_at}
use Rattle.kept_lines.specs.inside.LineBlocks.{lines_of_blocks}
use Rattle.kept_lines.proofs.LineListLemmas.{block_there, text_there}
use Rattle.kept_lines.proofs.line_list.LineList.text.Goals as goal

pub text-requires : goal.text-requires
text-requires c =
    let list = c.self.inside in
    let within : c.args.at < length (lines_of_blocks list.full.items list.latest) =
    omega (arith, c.requires, ap length c.self.view_is) in
    let block = c.block_with-block.ensures
    ∙ ap (λ full. get_or full (c.args.at / 4096) list.latest) c.as_slice.ensures.value in
    let there = block_there list.full.items list.latest list.count c.args.at c.self.invariant
    within in
    omega (arith, there.1, ap length block)

pub returns : goal.returns
returns c =
    let list = c.self.inside in
    let within : c.args.at < length (lines_of_blocks list.full.items list.latest) =
    omega (arith, c.requires, ap length c.self.view_is) in
    let block = c.block_with-block.ensures
    ∙ ap (λ full. get_or full (c.args.at / 4096) list.latest) c.as_slice.ensures.value in
    c.text.ensures
    ∙ ap (λ lines. text_at lines (c.args.at % 4096)) block
    ∙ text_there list.full.items list.latest list.count c.args.at c.self.invariant within
    ∙ ap (λ lines. text_at lines c.args.at) c.self.view_is
