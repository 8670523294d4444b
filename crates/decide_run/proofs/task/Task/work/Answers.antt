use Rattle.std.proofs.lemmas.Result.{IfOk-weaker}
use Rattle.depth_search.specs.inside.Searches.{IsEndOf}
use Rattle.decide_run.specs.inside.WideTasks.{IsWideSolved, Refutes, ShowsWide, Splits}
use Rattle.decide_run.specs.inside.WideTasks.{asked_wide_of}
use Rattle.decide_run.proofs.SolvedLemmas.{end_solved}
use Rattle.decide_run.proofs.task.Task.work.Goals as goal

pub returns-clause-solved : goal.returns-clause-solved
returns-clause-solved c =
    let asked = asked_wide_of c.args.self.now in
    IfOk-weaker c.work_through.result
    (IsEndOf (ShowsWide asked) (Refutes asked) (Splits asked) c.args.budget)
    (IsWideSolved asked.league.sheet asked.league.season asked.question c.args.budget)
    (end_solved asked c.args.budget c.requires.root.league c.requires.results)
    c.work_through.ensures.end
