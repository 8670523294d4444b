-- The reach of a club over some finishes, and over one finish more.
use Rattle.std.proofs.Common.{◌≡◌, ◌⊎◌, inl, inr, ℕ, ◌≤◌, Bool, true, false, cond, nat_lt, refl, ap}
use Rattle.std.proofs.Common.{arith}
use Rattle.std.proofs.lemmas.Bool.{ltb-true, ltb-false}
use Rattle.league_core.specs.declared.sheet.Sheet.{Sheet}
use Rattle.league_core.specs.game.Results.{Results}
use Rattle.league_core.specs.inside.LotsFor.{best_place_of, worst_place_of}
use Rattle.reference_programs.specs.declared.reach.Reach.{Reach}
use Rattle.final_rank.specs.inside.Spans.{span_of}
use Rattle.reference_programs.specs.inside.Reaches.{IsReachOver, reach_at, with_better, with_worse}
use Rattle.reference_programs.specs.inside.Reaches.{with_finish}

-- the reach over one finish alone
pub reach_of_one : (Passes : Results → Type 0) (sheet : Sheet) (club : ℕ) (finish : Results)
    → Passes finish → ((other : Results) → Passes other → other ≡ finish)
    → IsReachOver Passes sheet club (reach_at (span_of sheet finish club) finish)
reach_of_one Passes sheet club finish passes only = record {
  best_passes = passes;
  best = refl;
  none_better = λ other is.
      let same = ap (λ f. best_place_of sheet f club) (only other is) in omega arith;
  worst_passes = passes;
  worst = refl;
  none_worse = λ other is.
      let same = ap (λ f. worst_place_of sheet f club) (only other is) in omega arith;
}

-- the better side of a reach over some finishes
record HasBest (Passes : Results → Type 0) (sheet : Sheet) (club : ℕ) (reach : Reach) : Type 0 where
  pub passes : Passes reach.best_finish
  pub place : best_place_of sheet reach.best_finish club ≡ reach.best
  pub least : (finish : Results) → Passes finish → reach.best ≤ best_place_of sheet finish club

-- and the worse side
record HasWorst (Passes : Results → Type 0) (sheet : Sheet) (club : ℕ) (reach : Reach) : Type 0
  where
    pub passes : Passes reach.worst_finish
    pub place : worst_place_of sheet reach.worst_finish club ≡ reach.worst
    pub greatest : (finish : Results) → Passes finish
        → worst_place_of sheet finish club ≤ reach.worst

-- some finishes and one more
pub record IsOneMore (Passes After : Results → Type 0) (finish : Results) : Type 0 where
  pub old : (other : Results) → Passes other → After other
  pub new : After finish
  pub split : (other : Results) → After other → Passes other ⊎ (other ≡ finish)

better_side : (Passes After : Results → Type 0) (sheet : Sheet) (club : ℕ) (finish : Results)
    (reach : Reach) → IsOneMore Passes After finish → HasBest Passes sheet club reach
    → HasBest After sheet club (with_better reach (best_place_of sheet finish club) finish)
better_side Passes After sheet club finish reach more has =
    by_test (nat_lt (best_place_of sheet finish club) reach.best) refl
  where
    by_test : (better : Bool) → nat_lt (best_place_of sheet finish club) reach.best ≡ better
        → HasBest After sheet club (cond better
        (record reach { best = best_place_of sheet finish club; best_finish = finish }) reach)
    by_test true is = record {
      passes = more.new;
      place = refl;
      least = λ other passes. elim (more.split other passes) [
        | inl before ↦
            let low = ltb-true (best_place_of sheet finish club) reach.best is in
            let least = has.least other before in
            omega arith
        | inr same ↦
            let place = ap (λ f. best_place_of sheet f club) same in
            omega arith
      ];
    }
    by_test false is = record {
      passes = more.old reach.best_finish has.passes;
      place = has.place;
      least = λ other passes. elim (more.split other passes) [
        | inl before ↦ has.least other before
        | inr same ↦
            let high = ltb-false (best_place_of sheet finish club) reach.best is in
            let place = ap (λ f. best_place_of sheet f club) same in
            omega arith
      ];
    }

worse_side : (Passes After : Results → Type 0) (sheet : Sheet) (club : ℕ) (finish : Results)
    (reach : Reach) → IsOneMore Passes After finish → HasWorst Passes sheet club reach
    → HasWorst After sheet club (with_worse reach (worst_place_of sheet finish club) finish)
worse_side Passes After sheet club finish reach more has =
    by_test (nat_lt reach.worst (worst_place_of sheet finish club)) refl
  where
    by_test : (worse : Bool) → nat_lt reach.worst (worst_place_of sheet finish club) ≡ worse
        → HasWorst After sheet club (cond worse
        (record reach { worst = worst_place_of sheet finish club; worst_finish = finish }) reach)
    by_test true is = record {
      passes = more.new;
      place = refl;
      greatest = λ other passes. elim (more.split other passes) [
        | inl before ↦
            let high = ltb-true reach.worst (worst_place_of sheet finish club) is in
            let greatest = has.greatest other before in
            omega arith
        | inr same ↦
            let place = ap (λ f. worst_place_of sheet f club) same in
            omega arith
      ];
    }
    by_test false is = record {
      passes = more.old reach.worst_finish has.passes;
      place = has.place;
      greatest = λ other passes. elim (more.split other passes) [
        | inl before ↦ has.greatest other before
        | inr same ↦
            let low = ltb-false reach.worst (worst_place_of sheet finish club) is in
            let place = ap (λ f. worst_place_of sheet f club) same in
            omega arith
      ];
    }

-- a change of the one side leaves the other
worst_stays : (Passes : Results → Type 0) (sheet : Sheet) (club place : ℕ) (finish : Results)
    (reach : Reach) (better : Bool) → HasWorst Passes sheet club reach
    → HasWorst Passes sheet club (cond better
    (record reach { best = place; best_finish = finish }) reach)
worst_stays Passes sheet club place finish reach true has =
    record { passes = has.passes; place = has.place; greatest = has.greatest }
worst_stays Passes sheet club place finish reach false has = has

best_stays : (Passes : Results → Type 0) (sheet : Sheet) (club place : ℕ) (finish : Results)
    (reach : Reach) (worse : Bool) → HasBest Passes sheet club reach
    → HasBest Passes sheet club (cond worse
    (record reach { worst = place; worst_finish = finish }) reach)
best_stays Passes sheet club place finish reach true has =
    record { passes = has.passes; place = has.place; least = has.least }
best_stays Passes sheet club place finish reach false has = has

-- a reach with one finish more is the reach over one more
pub reach_more : (Passes After : Results → Type 0) (sheet : Sheet) (club : ℕ) (finish : Results)
    (reach : Reach) → IsOneMore Passes After finish → IsReachOver Passes sheet club reach
    → IsReachOver After sheet club (with_finish reach (span_of sheet finish club) finish)
reach_more Passes After sheet club finish reach more is =
    let best = best_place_of sheet finish club in
    let worst = worst_place_of sheet finish club in
    let half = with_better reach best finish in
    let has_best : HasBest Passes sheet club reach =
    record { passes = is.best_passes; place = is.best; least = is.none_better } in
    let has_worst : HasWorst Passes sheet club reach =
    record { passes = is.worst_passes; place = is.worst; greatest = is.none_worse } in
    let better = best_stays After sheet club worst finish half (nat_lt half.worst worst)
    (better_side Passes After sheet club finish reach more has_best) in
    let worse = worse_side Passes After sheet club finish half more
    (worst_stays Passes sheet club best finish reach (nat_lt best reach.best) has_worst) in
    record {
      best_passes = better.passes;
      best = better.place;
      none_better = better.least;
      worst_passes = worse.passes;
      worst = worse.place;
      none_worse = worse.greatest;
    }
