use Rattle.std.proofs.lemmas.Result.{IfOk-weaker}
use Rattle.depth_search.specs.inside.Searches.{IsEndOf}
use Rattle.what_if.specs.inside.Tasks.{IsSolvedGiven, RefutesBelow, ShowsBelow, SplitsBelow}
use Rattle.what_if.specs.inside.Tasks.{asked_of}
use Rattle.what_if.proofs.TaskLemmas.{end_solved}
use Rattle.what_if.proofs.task.Task.work.Goals as goal

pub returns-clause-solved : goal.returns-clause-solved
returns-clause-solved c =
    let asked = asked_of c.args.self.now in
    IfOk-weaker c.work_through.result
    (IsEndOf (ShowsBelow asked) (RefutesBelow asked) (SplitsBelow asked) c.args.budget)
    (IsSolvedGiven asked.league.sheet asked.league.season asked.question asked.base c.args.budget)
    (end_solved asked c.args.budget c.requires.root.league c.requires.results
    c.requires.root.of_sheet.club) c.work_through.ensures.end
