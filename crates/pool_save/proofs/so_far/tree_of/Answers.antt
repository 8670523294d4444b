use Rattle.std.proofs.Common.{◌≡◌, Some}
use Rattle.std.proofs.lemmas.Result.{IfOk-weaker}
use Rattle.league_core.specs.search.Trees.{preorder}
use Rattle.league_core.specs.search.TreeLists.{tree_of}
use Rattle.league_core.proofs.TreeListLemmas.{reading_exact}
use Rattle.pool_save.proofs.so_far.tree_of.Goals as goal

pub returns : goal.returns
returns c =
    IfOk-weaker c.of_preorder.result (λ tree. preorder tree ≡ c.args.nodes.now)
    (λ tree. tree_of c.args.nodes.now ≡ Some tree)
    (λ tree. (reading_exact c.args.nodes.now tree).1) c.of_preorder.ensures
