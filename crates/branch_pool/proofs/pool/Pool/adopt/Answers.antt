use Rattle.std.proofs.Common.{sym, subst}
use Rattle.branch_pool.specs.inside.Views.{state_of}
use Rattle.branch_pool.proofs.AdoptLemmas.{MayAdopt, adopt_after, adopt_tests, adopted_sound}
use Rattle.branch_pool.proofs.FromLemmas.{work_from_start}
use Rattle.branch_pool.proofs.GoodLemmas.{sound_season}
use Rattle.branch_pool.proofs.pool.Pool.adopt.Goals as goal

pub retarget-requires-clause-league : goal.retarget-requires-clause-league
retarget-requires-clause-league c = record {
  limits = c.self.invariant.0.limits;
  of_sheet = sound_season (state_of c.self.inside) c.self.invariant.0;
}

pub retarget-requires-clause-tests : goal.retarget-requires-clause-tests
retarget-requires-clause-tests c =
    adopt_tests (state_of c.self.inside) c.args.place c.index.result.now c.args.tree
    (subst (λ pool. MayAdopt pool c.args.place c.args.tree) (sym c.self.view_is)
    (record {
      in_range = c.requires.in_range;
      home = c.requires.home;
      asked = c.requires.asked;
    }))
    c.index.ensures

pub invariant_of-self : goal.invariant_of-self
invariant_of-self c =
    let may = subst (λ pool. MayAdopt pool c.args.place c.args.tree) (sym c.self.view_is)
    (record {
      in_range = c.requires.in_range;
      home = c.requires.home;
      asked = c.requires.asked;
    }) in (
      rw c.adopt.ensures
          (adopted_sound (state_of c.self.inside) c.args.place c.args.tree _ c.self.invariant.0
          (adopt_after (state_of c.self.inside) c.args.place c.index_mut-seat.result.now
          c.index.result.now c.args.tree c.in_ok-kept.kept c.self.invariant.0 may
          c.index_mut-seat.ensures.value c.index.ensures c.in_ok-kept.ensures)),
      work_from_start _ _,
    )

pub returns-clause-ok : goal.returns-clause-ok
returns-clause-ok c =
    let may = subst (λ pool. MayAdopt pool c.args.place c.args.tree) (sym c.self.view_is)
    (record {
      in_range = c.requires.in_range;
      home = c.requires.home;
      asked = c.requires.asked;
    }) in
    rw (← c.self.view_is, c.adopt.ensures)
    (adopt_after (state_of c.self.inside) c.args.place c.index_mut-seat.result.now
    c.index.result.now c.args.tree c.in_ok-kept.kept c.self.invariant.0 may
    c.index_mut-seat.ensures.value c.index.ensures c.in_ok-kept.ensures)
