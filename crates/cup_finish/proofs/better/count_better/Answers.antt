use Rattle.std.proofs.Common.{◌≡◌, ◌≤◌, ◌+◌, ℕ, Bool, length, sym, ap, ◌∙◌, subst, arith, drop}
use Rattle.std.proofs.Common.{cond, count_by}
use Rattle.league_core.proofs.plain.TruthValues.{bool_byte-is, one_if-most}
use Rattle.cup_sheet.specs.CupLimits.{direct_places}
use Rattle.cup_sheet.specs.Cups.{clubs_together}
use Rattle.cup_sheet.specs.JointFinishes.{GroupState, states_of}
use Rattle.cup_sheet.specs.Qualifying.{has_better, other_groups}
use Rattle.cup_feed.proofs.FeedLemmas.{cup_clubs}
use Rattle.cup_finish.specs.inside.Contenders.{IsContender}
use Rattle.cup_finish.proofs.GroupWalkLemmas.{next_of_cup, results_each}
use Rattle.cup_finish.proofs.QualifyingLemmas.{counted_other, counted_own, others_from}
use Rattle.cup_finish.proofs.better.count_better.Goals as goal
use Rattle.cup_finish.proofs.better.count_better.Goals.{then-first-contender+in_ok-is_better}
use Rattle.cup_finish.proofs.better.count_better.Goals.{else-first-contender}

pub bounds-finishes-group : goal.bounds-finishes-group
bounds-finishes-group c =
    omega (
      arith,
      c.loop-group-test.true,
      ap length c.as_slice-groups.ensures,
      results_each c.args.cup.now.groups c.args.finishes.now c.requires.finishes,
    )

pub has_better-requires-clause-league : goal.has_better-requires-clause-league
has_better-requires-clause-league c =
    (next_of_cup c.args.cup.now c.loop-group.first c.loop-group.group
    c.as_slice-groups.result.now c.args.finishes.now c.index-groups-group.result
    c.index-finishes-group.result c.requires.cup c.requires.finishes c.as_slice-groups.ensures
    (omega (arith, c.loop-group-test.true)) c.index-groups-group.is
    c.index-finishes-group.is).league

pub has_better-requires-clause-few : goal.has_better-requires-clause-few
has_better-requires-clause-few c =
    let next = next_of_cup c.args.cup.now c.loop-group.first c.loop-group.group
    c.as_slice-groups.result.now c.args.finishes.now c.index-groups-group.result
    c.index-finishes-group.result c.requires.cup c.requires.finishes c.as_slice-groups.ensures
    (omega (arith, c.loop-group-test.true)) c.index-groups-group.is c.index-finishes-group.is in
    omega (
      arith,
      next.clubs,
      c.loop-group.invariant.1,
      cup_clubs c.args.cup.now c.requires.cup,
    )

pub overflow_add-first : goal.overflow_add-first
overflow_add-first c =
    let next = next_of_cup c.args.cup.now c.loop-group.first c.loop-group.group
    c.as_slice-groups.result.now c.args.finishes.now c.index-groups-group.result
    c.index-finishes-group.result c.requires.cup c.requires.finishes c.as_slice-groups.ensures
    (omega (arith, c.loop-group-test.true)) c.index-groups-group.is c.index-finishes-group.is in
    omega (
      arith,
      next.clubs,
      c.loop-group.invariant.1,
      c.len.ensures,
      cup_clubs c.args.cup.now c.requires.cup,
    )

pub loop-group-preserved : goal.loop-group-preserved
loop-group-preserved c =
    let groups = c.args.cup.now.groups in
    let finishes = c.args.finishes.now in
    let sheet = c.index-groups-group.result in
    let season = c.index-finishes-group.result in
    let k = c.loop-group.group in
    let first = c.loop-group.first in
    let better = c.loop-group.better in
    let count = c.len.result in
    let test : GroupState → ℕ → GroupState → Bool =
    λ mine own. has_better direct_places c.args.lots.now mine own in
    let next = next_of_cup c.args.cup.now c.loop-group.first c.loop-group.group
    c.as_slice-groups.result.now c.args.finishes.now c.index-groups-group.result
    c.index-finishes-group.result c.requires.cup c.requires.finishes c.as_slice-groups.ensures
    (omega (arith, c.loop-group-test.true)) c.index-groups-group.is c.index-finishes-group.is in
    let clubs : first + count + clubs_together (drop (k + 1) groups) ≡ clubs_together groups =
    omega (arith, next.clubs, c.loop-group.invariant.1, c.len.ensures) in
    let P : ℕ → Type 0 = λ more. ((mine : GroupState) (own : ℕ)
    → IsContender mine own c.args.contender.now
    → more + others_from (test mine own) mine (first + count) (k + 1) groups finishes
    ≡ count_by (test mine own) (other_groups mine (states_of c.args.cup.now finishes)))
    × (first + count + clubs_together (drop (k + 1) groups) ≡ clubs_together groups)
    × (more ≤ k + 1) in
    elim c.if-first-contender.branch as (λ _. P c.if-first-contender.better) [
      | then-first-contender+in_ok-is_better w ↦
          let one : w.from-better.result ≡ cond {A = ℕ} w.in_ok-is_better.is_better 1 0 =
          w.from-better.ensures ∙ bool_byte-is w.in_ok-is_better.is_better in
          subst P (sym w.better-is) (
            λ mine own contender. counted_other (test mine own) mine better w.from-better.result
                (count_by (test mine own) (other_groups mine (states_of c.args.cup.now finishes)))
                first count k groups finishes sheet season w.in_ok-is_better.is_better next
                c.len.ensures (λ e. w.if-first-contender.true (e ∙ sym contender.first))
                (w.in_ok-is_better.ensures mine own contender) one
                (c.loop-group.invariant.0 mine own contender),
            clubs,
            omega (
              arith,
              c.loop-group.invariant.2,
              one,
              one_if-most w.in_ok-is_better.is_better,
            ),
          )
      | else-first-contender w ↦ subst P (sym w.better-is) (
        λ mine own contender. counted_own (test mine own) mine better
            (count_by (test mine own) (other_groups mine (states_of c.args.cup.now finishes)))
            first count k groups finishes sheet season next c.len.ensures
            (w.if-first-contender.false ∙ contender.first)
            (c.loop-group.invariant.0 mine own contender),
        clubs,
        omega (arith, c.loop-group.invariant.2),
      )
    ]
