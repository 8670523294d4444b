use Rattle.std.proofs.lemmas.Result.{IfOk-weaker}
use Rattle.depth_search.specs.inside.Searches.{FitHalves}
use Rattle.decide_run.specs.inside.WideLooks.{IsLookIn}
use Rattle.decide_run.specs.inside.WideTasks.{MayLookWide, asked_wide_of}
use Rattle.decide_run.proofs.LookLemmas.{look_halves}
use Rattle.decide_run.proofs.task.TaskKind.look.Goals as goal

pub returns-in-Some-clause-found : goal.returns-in-Some-clause-found
returns-in-Some-clause-found c =
    rw (c.requires.sheet, c.requires.season) (rw c.in-Some.is at c.in_ok-example.ensures)

pub returns-clause-halves : goal.returns-clause-halves
returns-clause-halves c =
    let asked = asked_wide_of c.args.self.now in
    IfOk-weaker c.look.result
    (IsLookIn asked.league.sheet asked.league.season asked.question c.args.zone.now)
    (FitHalves (MayLookWide asked) c.args.zone.now)
    (λ found is. look_halves asked c.args.zone.now found c.requires is) c.look.ensures.found
