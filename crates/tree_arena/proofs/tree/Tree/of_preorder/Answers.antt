use Rattle.std.proofs.Common.{List, length, reverse, refl, sym, subst, ap, ◌∙◌, arith}
use Rattle.league_core.specs.declared.zone.Literal.{Literal}
use Rattle.league_core.specs.search.Trees.{preorder}
use Rattle.tree_arena.specs.inside.Arena.{tree_below}
use Rattle.tree_arena.specs.inside.LastPaths.{LeadsToNode}
use Rattle.tree_arena.proofs.BuildLemmas.{built_roomy}
use Rattle.tree_arena.proofs.tree.Tree.of_preorder.Goals as goal

pub invariant_of-result : goal.invariant_of-result
invariant_of-result c =
    let built = c.in_ok-build.ensures in
    record {
      roomy = built_roomy (length c.args.list.now) c.in_ok-build.build.nodes c.reserve.new.self
          c.in_ok-build.build.live c.reserve-2.new.self c.in_ok-build.build.lent built.opens
          built.arena built.in_order built.few c.requires.few c.in_ok-reserve.ensures.items
          c.in_ok-reserve-2.ensures.items
          (let size = c.len-many.ensures in let ok = c.in_ok-reserve.ensures.ok in omega arith)
          (let size = c.len-many.ensures in let ok = c.in_ok-reserve-2.ensures.ok in omega arith);
      leads = subst (λ (literals : List Literal).
          LeadsToNode c.reserve.new.self.items (reverse literals) 0) (sym c.new-zone_box.ensures)
          refl;
    }

pub returns : goal.returns
returns c =
    ap (λ ns. preorder (tree_below ns 0)) c.in_ok-reserve.ensures.items
    ∙ c.in_ok-build.ensures.tree
