-- One club of the group more.
use Rattle.std.proofs.Common.{ℕ, ◌*◌, [], ◌∷◌, length, subst, sym, ap, ◌∙◌, arith}
use Rattle.std.proofs.lemmas.Int.{ints}
use Rattle.std.proofs.lemmas.List.{length-append}
use Rattle.league_core.proofs.ClubCountLemmas.{few_members}
use Rattle.league_core.proofs.PointRangeLemmas.{total_of-append}
use Rattle.league_core.proofs.WalkLemmas.{comes_to, all_seen}
use Rattle.score_box.specs.declared.totals.Totals.{Totals}
use Rattle.score_box.specs.inside.Totals.{AreTotalsNear, total_in, totals_at, pair_place}
use Rattle.score_box.proofs.TotalLemmas.{near_together}
use Rattle.score_box.proofs.tables.Tables.of_group.Goals as goal

pub of_pair-requires : goal.of_pair-requires
of_pair-requires c =
    let met = comes_to c.args.group c.loop-rival.yielded c.in-Some.rival
    (c.into_iter-rival-iterator.ensures.into_iter_gives ∙ c.clubs-rival-items.ensures.all)
    c.loop-rival.yielded_by c.in-Some.ensures.steps in
    omega (arith, c.requires.club, c.requires.pairs, c.requires.group c.in-Some.rival met.among)

pub with-totals-requires-clause-near : goal.with-totals-requires-clause-near
with-totals-requires-clause-near c column =
    let met = comes_to c.args.group c.loop-rival.yielded c.in-Some.rival
    (c.into_iter-rival-iterator.ensures.into_iter_gives ∙ c.clubs-rival-items.ensures.all)
    c.loop-rival.yielded_by c.in-Some.ensures.steps in
    let near = c.loop-rival.invariant.near column in
    (omega (arith, ints, near.0, met.few), omega (arith, ints, near.1, met.few))

pub with-totals-requires-clause-other_near : goal.with-totals-requires-clause-other_near
with-totals-requires-clause-other_near c column =
    let met = comes_to c.args.group c.loop-rival.yielded c.in-Some.rival
    (c.into_iter-rival-iterator.ensures.into_iter_gives ∙ c.clubs-rival-items.ensures.all)
    c.loop-rival.yielded_by c.in-Some.ensures.steps in
    let near = subst (AreTotalsNear 153000) (sym c.of_pair.ensures)
    (c.requires.near c.in-Some.rival (c.requires.group c.in-Some.rival met.among)) column in
    (omega (arith, ints, near.0), omega (arith, ints, near.1))

pub loop-rival-preserved : goal.loop-rival-preserved
loop-rival-preserved c =
    let met = comes_to c.args.group c.loop-rival.yielded c.in-Some.rival
    (c.into_iter-rival-iterator.ensures.into_iter_gives ∙ c.clubs-rival-items.ensures.all)
    c.loop-rival.yielded_by c.in-Some.ensures.steps in
    let seen = c.loop-rival.yielded in
    let rival = c.in-Some.rival in
    let Sum_near : ℕ → Type 0 = λ n. AreTotalsNear n c.with-totals.result in
    record {
      sums = λ column.
          let row = ap (λ (t : Totals). total_in t column) c.of_pair.ensures in
          let more = total_of-append (λ rival. total_in
          (totals_at c.args.self.now.pairs.items (pair_place c.args.club rival)) column)
          seen (rival ∷ []) in
          omega (
            arith,
            ints,
            more,
            row,
            c.with-totals.ensures column,
            c.loop-rival.invariant.sums column,
          );
      near = subst Sum_near (let more = length-append seen (rival ∷ []) in omega (arith, more))
          (near_together c.loop-rival.totals c.of_pair.result c.with-totals.result
          (153000 * length seen) 153000 c.with-totals.ensures c.loop-rival.invariant.near
          (subst (AreTotalsNear 153000) (sym c.of_pair.ensures)
          (c.requires.near rival (c.requires.group rival met.among))));
    }

pub returns-clause-near : goal.returns-clause-near
returns-clause-near c column =
    let near = c.loop-rival.invariant.near column in
    let all = all_seen c.args.group c.loop-rival.yielded
    (c.into_iter-rival-iterator.ensures.into_iter_gives ∙ c.clubs-rival-items.ensures.all)
    c.loop-rival.yielded_by c.in-None.ensures.steps.0 in
    let few = few_members c.args.group in
    let many = ap length all in
    (omega (arith, ints, near.0, few, many), omega (arith, ints, near.1, few, many))
