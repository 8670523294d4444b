use Rattle.std.proofs.Common.{◌<◌, ℕ, List, Option, None, refl, subst}
use Rattle.std.proofs.Common.{◌∙◌, arith}
use Rattle.league_core.proofs.WalkLemmas.{comes_to, all_seen}
use Rattle.league_core.proofs.SeenLemmas.{not_filled, filled_next, IsFilled}
use Rattle.near_bound.specs.declared.margin.Margin.{Margin}
use Rattle.near_bound.specs.inside.PairLeads.{IsLessOf, played_in}
use Rattle.near_bound.specs.inside.PlayedParts.{pair_margin}
use Rattle.near_bound.proofs.StartLemmas.{none_listed}
use Rattle.near_bound.proofs.tie.Tie.played_against.Goals as goal

pub loop-third-init : goal.loop-third-init
loop-third-init c = not_filled None _ 32 _ none_listed refl

pub played_lead-requires-clause-first_rival : goal.played_lead-requires-clause-first_rival
played_lead-requires-clause-first_rival c =
    let met = comes_to c.args.able c.loop-third.yielded c.in-Some.third
    (c.into_iter-third-iterator.ensures.into_iter_gives ∙ c.clubs-third-items.ensures.all)
    c.loop-third.yielded_by c.in-Some.ensures.steps in
    omega (
      arith,
      c.requires.clubs.of_sheet c.in-Some.third met.among,
      c.requires.tie.left.league.limits.most_clubs,
    )

pub played_lead-requires-clause-second_rival : goal.played_lead-requires-clause-second_rival
played_lead-requires-clause-second_rival c =
    let met = comes_to c.args.able c.loop-third.yielded c.in-Some.third
    (c.into_iter-third-iterator.ensures.into_iter_gives ∙ c.clubs-third-items.ensures.all)
    c.loop-third.yielded_by c.in-Some.ensures.steps in
    omega (
      arith,
      c.requires.clubs.of_sheet c.in-Some.third met.among,
      c.requires.tie.left.league.limits.most_clubs,
    )

pub bounds-against-third : goal.bounds-against-third
bounds-against-third c =
    let met = comes_to c.args.able c.loop-third.yielded c.in-Some.third
    (c.into_iter-third-iterator.ensures.into_iter_gives ∙ c.clubs-third-items.ensures.all)
    c.loop-third.yielded_by c.in-Some.ensures.steps in
    omega (
      arith,
      c.requires.clubs.of_sheet c.in-Some.third met.among,
      c.requires.tie.left.league.limits.most_clubs,
    )

pub loop-third-preserved : goal.loop-third-preserved
loop-third-preserved c =
    let met = comes_to c.args.able c.loop-third.yielded c.in-Some.third
    (c.into_iter-third-iterator.ensures.into_iter_gives ∙ c.clubs-third-items.ensures.all)
    c.loop-third.yielded_by c.in-Some.ensures.steps in
    let low : c.in-Some.third < 32 = omega (
      arith,
      c.requires.clubs.of_sheet c.in-Some.third met.among,
      c.requires.tie.left.league.limits.most_clubs,
    ) in
    filled_next None _ 32 c.loop-third.yielded c.loop-third.against c.in-Some.third _ low
    c.played_lead.ensures c.loop-third.invariant

pub returns : goal.returns
returns c =
    let tie = c.args.self.now in
    let Is : ℕ → Option Margin → Type 0 = λ rival.
    IsLessOf (pair_margin (played_in tie) c.args.front rival)
    (pair_margin (played_in tie) c.args.back rival) in
    let filled = subst (λ (seen : List ℕ). IsFilled None Is 32 seen c.loop-third.against)
    (all_seen c.args.able c.loop-third.yielded
    (c.into_iter-third-iterator.ensures.into_iter_gives ∙ c.clubs-third-items.ensures.all)
    c.loop-third.yielded_by c.in-None.ensures.steps.0) c.loop-third.invariant in record {
      rows = filled.rows;
      others = filled.others;
      long = filled.long;
    }
