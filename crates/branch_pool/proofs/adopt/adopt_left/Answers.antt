use Rattle.std.proofs.Common.{[], Option, subst}
use Rattle.std.specs.Prelude.{IfSome}
use Rattle.league_core.specs.search.Trees.{Tree}
use Rattle.tree_reuse.proofs.RetargetLemmas.{asked_tests}
use Rattle.branch_pool.specs.inside.Adoptions.{MayBeAdopted}
use Rattle.branch_pool.proofs.adopt.adopt_left.Goals as goal

pub retarget_by-requires-clause-tests : goal.retarget_by-requires-clause-tests
retarget_by-requires-clause-tests c =
    let sheet = c.args.zone_box.now.sheet in
    let may = subst (λ (one : Option Tree).
    IfSome one (λ it. MayBeAdopted sheet it c.args.seat.now)) c.in-Some.is c.requires.adoptable in
    asked_tests sheet c.args.seat.now.question [] c.in-Some.tree may.asked
