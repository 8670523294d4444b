use Rattle.league_core.proofs.TreeListLemmas.{reading_exact, unread_exact, preorder_injective}
use Rattle.league_core.proofs.tree_laws.trees_are_their_lists.Goals as goal

pub returns-clause-read : goal.returns-clause-read
returns-clause-read c = reading_exact

pub returns-clause-unread : goal.returns-clause-unread
returns-clause-unread c = unread_exact

pub returns-clause-one_tree : goal.returns-clause-one_tree
returns-clause-one_tree c = preorder_injective
