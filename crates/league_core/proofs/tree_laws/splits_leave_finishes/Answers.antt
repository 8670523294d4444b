use Rattle.league_core.proofs.HalfLemmas.{root_has_finish, rival_has_finish, half_has_finish}
use Rattle.league_core.proofs.HalfLemmas.{nodes_have_finish}
use Rattle.league_core.proofs.ScoreHalfLemmas.{score_has_finish}
use Rattle.league_core.proofs.tree_laws.splits_leave_finishes.Goals as goal

pub returns-clause-root : goal.returns-clause-root
returns-clause-root c = root_has_finish

pub returns-clause-score : goal.returns-clause-score
returns-clause-score c = score_has_finish

pub returns-clause-rival : goal.returns-clause-rival
returns-clause-rival c = rival_has_finish

pub returns-clause-proper : goal.returns-clause-proper
returns-clause-proper c = half_has_finish

pub returns-clause-tree : goal.returns-clause-tree
returns-clause-tree c = nodes_have_finish
