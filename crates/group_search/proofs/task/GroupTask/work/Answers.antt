use Rattle.std.proofs.lemmas.Result.{IfOk-weaker}
use Rattle.depth_search.specs.inside.Searches.{IsEndOf}
use Rattle.group_search.specs.inside.GroupTasks.{IsGroupSolved, RefutesInGroup, ShowsInGroup}
use Rattle.group_search.specs.inside.GroupTasks.{SplitsInGroup, asked_in_group}
use Rattle.group_search.proofs.GroupCaseLemmas.{group_end_solved}
use Rattle.group_search.proofs.task.GroupTask.work.Goals as goal

pub returns : goal.returns
returns c =
    let asked = asked_in_group c.args.self.now in
    IfOk-weaker c.work_through.result
    (IsEndOf (ShowsInGroup asked) (RefutesInGroup asked) (SplitsInGroup asked) c.args.budget)
    (IsGroupSolved asked.sheet asked.season asked.question c.args.budget)
    (group_end_solved asked c.args.budget) c.work_through.ensures.end
