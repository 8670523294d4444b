use Rattle.std.proofs.Common.{◌≢◌, ℕ, inl, inr, sym, subst, arith, length}
use Rattle.std.proofs.lemmas.Bool.{cases_eq}
use Rattle.league_core.specs.game.Ranking.{place_of}
use Rattle.group_search.specs.inside.SecondLots.{second_lots}
use Rattle.group_search.proofs.SecondLotsLemmas.{second_by_some}
use Rattle.group_search.proofs.second.lots_by_turns.Goals as goal

pub loop-first-preserved : goal.loop-first-preserved
loop-first-preserved c = λ first below different.
    elim (cases_eq first c.loop-first.first) [
      | inl same ↦
          subst (λ (x : ℕ). x ≢ c.args.club → place_of c.args.sheet.now c.args.finish.now
          (second_lots (length c.args.sheet.now.clubs) x c.args.club) c.args.club ≢ 2)
          (sym same) (c.in_ok-lots.ensures.absent c.in_default.is) different
      | inr other ↦ c.loop-first.invariant first (omega (arith, below, other)) different
    ]

pub returns-clause-absent : goal.returns-clause-absent
returns-clause-absent c = λ none lots place.
    let found = second_by_some c.args.sheet.now c.args.finish.now lots c.args.club place in
    c.loop-first.invariant found.0
    (omega (arith, found.1, c.loop-first-test.false, c.len-first-end.ensures)) found.2 found.3
