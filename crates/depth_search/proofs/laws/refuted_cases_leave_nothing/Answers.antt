use Rattle.depth_search.proofs.LawLemmas.{leaves_nothing}
use Rattle.depth_search.proofs.laws.refuted_cases_leave_nothing.Goals as goal

pub returns : goal.returns
returns g c =
    let asked = g.K.Kind.subject c.args._kind.now in
    leaves_nothing (g.K.Kind.refutes asked) (g.K.Kind.splits asked)
