use Rattle.std.proofs.lemmas.Result.{IfOk-weaker}
use Rattle.depth_search.specs.inside.Searches.{FitHalves}
use Rattle.group_search.specs.inside.GroupLooks.{IsGroupLookIn}
use Rattle.group_search.specs.inside.GroupTasks.{MayLookInGroup, asked_in_group}
use Rattle.group_search.proofs.GroupLookLemmas.{group_look_halves}
use Rattle.group_search.proofs.task.GroupTaskKind.look.Goals as goal

pub returns-clause-halves : goal.returns-clause-halves
returns-clause-halves c =
    let asked = asked_in_group c.args.self.now in
    IfOk-weaker c.find_in_group.result
    (IsGroupLookIn asked.sheet asked.season asked.question c.args.zone.now)
    (FitHalves (MayLookInGroup asked) c.args.zone.now)
    (λ found is. group_look_halves asked c.args.zone.now found c.requires is)
    (rw c.in_ok-move_to.ensures.ok at c.find_in_group.ensures)
