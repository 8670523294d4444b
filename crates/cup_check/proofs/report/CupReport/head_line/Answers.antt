-- Behind its head the tree is due.
use Rattle.std.proofs.Common.{◌∙◌, ap, refl}
use Rattle.line_tokens.specs.declared.tree_line.TreeKind.TheVariants.{Refutation}
use Rattle.cup_groups.specs.inside.KindQuestions.{group_question_of}
use Rattle.cup_grammar.specs.CupDues.{tree_head, whole_group_tree}
use Rattle.cup_check.specs.inside.CupSideCalls.{after_tree_head_if}
use Rattle.cup_check.proofs.CupCallLemmas.{goes_behind}
use Rattle.cup_check.proofs.report.CupReport.head_line.Goals as goal

pub returns-then-is_tree_head : goal.returns-then-is_tree_head
returns-then-is_tree_head c = λ from is.
    let asked = group_question_of c.args.question in
    goes_behind c.args.self.now from c.args.at c.args.token.now is
    (tree_head c.args.group.now asked) (whole_group_tree Refutation c.args.group.now asked) refl
    (c.is_tree_head.ensures c.args.self.now.basis
    ∙ ap (after_tree_head_if c.args.group.now asked) c.if-is_tree_head.true)
    c.tree.result c.tree.ensures
