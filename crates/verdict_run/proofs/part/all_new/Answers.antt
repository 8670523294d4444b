use Rattle.std.proofs.Common.{ap, ◌∙◌}
use Rattle.std.specs.List.{list_all}
use Rattle.answer_rows.specs.NewTrees.{is_not_old}
use Rattle.verdict_run.proofs.PartLemmas.{is_all_new-list}
use Rattle.verdict_run.proofs.part.all_new.Goals as goal

pub returns : goal.returns
returns c =
    c.are_all_new.ensures
    ∙ ap (list_all is_not_old) (c.as_slice.ensures.value ∙ c.in_ok-nodes.ensures)
    ∙ is_all_new-list c.args.tree.now
