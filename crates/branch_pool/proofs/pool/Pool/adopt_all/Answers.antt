use Rattle.std.proofs.Common.{subst, sym}
use Rattle.branch_pool.specs.inside.Adoptions.{MayAdoptAll}
use Rattle.branch_pool.specs.inside.Views.{state_of}
use Rattle.branch_pool.proofs.AdoptAllLemmas.{all_adopted_sound, may_be_adopted}
use Rattle.branch_pool.proofs.FromLemmas.{work_from_start}
use Rattle.branch_pool.proofs.GoodLemmas.{sound_season}
use Rattle.branch_pool.proofs.pool.Pool.adopt_all.Goals as goal

pub adopt_trees-requires-clause-league : goal.adopt_trees-requires-clause-league
adopt_trees-requires-clause-league c = record {
  limits = c.self.invariant.0.limits;
  of_sheet = sound_season (state_of c.self.inside) c.self.invariant.0;
}

pub adopt_trees-requires-clause-adoptable : goal.adopt_trees-requires-clause-adoptable
adopt_trees-requires-clause-adoptable c =
    may_be_adopted (state_of c.self.inside) c.args.trees.items c.self.invariant.0
    (subst (λ pool. MayAdoptAll pool c.args.trees.items) (sym c.self.view_is) c.requires)

pub invariant_of-result : goal.invariant_of-result
invariant_of-result c = (
  rw c.in_ok-adopt_trees.ensures
      (all_adopted_sound (state_of c.self.inside) c.args.trees.items c.self.invariant.0
      (subst (λ pool. MayAdoptAll pool c.args.trees.items) (sym c.self.view_is) c.requires)),
  work_from_start _ _,
)
