use Rattle.what_if.proofs.TaskLemmas.{look_at_root}
use Rattle.what_if.proofs.task.solve_given.Goals as goal

pub work-requires-clause-root : goal.work-requires-clause-root
work-requires-clause-root c =
    look_at_root _ c.requires.league c.requires.sheet c.requires.season c.requires.of_sheet
    c.requires.base c.requires.has_finish
