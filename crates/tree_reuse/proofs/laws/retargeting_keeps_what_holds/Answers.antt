use Rattle.std.proofs.Common.{[]}
use Rattle.league_core.proofs.LendingLemmas.{lent_zones_absent}
use Rattle.tree_reuse.specs.Retargets.{retargeted}
use Rattle.tree_reuse.proofs.RetargetLemmas.{lent_count-retargeted, times_lent-retargeted}
use Rattle.tree_reuse.proofs.RetargetLemmas.{new_count-retargeted, node_count-retargeted, kept_good}
use Rattle.tree_reuse.proofs.RetargetLemmas.{proper_tests, asked_good, proper_asked}
use Rattle.tree_reuse.proofs.laws.retargeting_keeps_what_holds.Goals as goal

pub returns-clause-lent : goal.returns-clause-lent
returns-clause-lent c = λ sheet season question tree number. (
  lent_count-retargeted sheet season question tree,
  times_lent-retargeted sheet season question tree number,
  lent_zones_absent number (retargeted sheet season question tree) []
      (times_lent-retargeted sheet season question tree number),
)

pub returns-clause-fresh : goal.returns-clause-fresh
returns-clause-fresh c = new_count-retargeted

pub returns-clause-nodes : goal.returns-clause-nodes
returns-clause-nodes c = node_count-retargeted

pub returns-clause-good : goal.returns-clause-good
returns-clause-good c = kept_good

pub returns-clause-tests : goal.returns-clause-tests
returns-clause-tests c = λ sheet season question tree. proper_tests sheet season question [] tree

pub returns-clause-asked : goal.returns-clause-asked
returns-clause-asked c = asked_good

pub returns-clause-proper : goal.returns-clause-proper
returns-clause-proper c = λ sheet season question tree. proper_asked sheet season question [] tree
