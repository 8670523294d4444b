use Rattle.std.proofs.Common.{◌≡◌, ◌≤◌, ◌<◌, ◌+◌, ◌-◌, ◌&&◌, ◌||◌, ◌==◌, ℕ, Bool, true, false}
use Rattle.std.proofs.Common.{length, sym, ap, ◌∙◌}
use Rattle.std.proofs.Common.{subst, arith, count_by, nat_le, nat_lt, IfOk}
use Rattle.std.proofs.lemmas.Bool.Decides.{nat_tests}
use Rattle.cup_sheet.specs.CupLimits.{direct_places}
use Rattle.cup_sheet.specs.JointFinishes.{is_in_block, states_of}
use Rattle.cup_sheet.specs.Qualifying.{has_better, other_groups, qualifies_at, qualifies_in}
use Rattle.cup_finish.specs.inside.Contenders.{group_state}
use Rattle.cup_finish.proofs.GroupWalkLemmas.{next_of_cup, results_each}
use Rattle.cup_finish.proofs.QualifyingLemmas.{answered_here, answered_later}
use Rattle.cup_finish.proofs.qualifying.qualifies_at.Goals as goal

pub bounds-finishes-group : goal.bounds-finishes-group
bounds-finishes-group c =
    omega (
      arith,
      c.loop-group-test.true,
      ap length c.as_slice-groups.ensures,
      results_each c.args.cup.now.groups c.args.finishes.now c.requires.finishes,
    )

pub place_in_group-requires-clause-league : goal.place_in_group-requires-clause-league
place_in_group-requires-clause-league c =
    (next_of_cup c.args.cup.now c.loop-group.first c.loop-group.group
    c.as_slice-groups.result.now c.args.finishes.now c.index-groups-group.result
    c.index-finishes-group.result c.requires.cup c.requires.finishes c.as_slice-groups.ensures
    (omega (arith, c.loop-group-test.true)) c.index-groups-group.is
    c.index-finishes-group.is).league

pub contender_of-contender-requires-clause-league :
    goal.contender_of-contender-requires-clause-league
contender_of-contender-requires-clause-league c =
    (next_of_cup c.args.cup.now c.loop-group.first c.loop-group.group
    c.as_slice-groups.result.now c.args.finishes.now c.index-groups-group.result
    c.index-finishes-group.result c.requires.cup c.requires.finishes c.as_slice-groups.ensures
    (omega (arith, c.loop-group-test.true)) c.index-groups-group.is
    c.index-finishes-group.is).league

pub returns-then-is_within : goal.returns-then-is_within
returns-then-is_within c =
    let cup = c.args.cup.now in
    let finishes = c.args.finishes.now in
    let lots = c.args.lots.now in
    let club = c.args.club in
    let sheet = c.index-groups-group.result in
    let season = c.index-finishes-group.result in
    let k = c.loop-group.group in
    let first = c.loop-group.first in
    let next = next_of_cup c.args.cup.now c.loop-group.first c.loop-group.group
    c.as_slice-groups.result.now c.args.finishes.now c.index-groups-group.result
    c.index-finishes-group.result c.requires.cup c.requires.finishes c.as_slice-groups.ensures
    (omega (arith, c.loop-group-test.true)) c.index-groups-group.is c.index-finishes-group.is in
    let mine = group_state first sheet season in
    let own : ℕ = club - first in
    let inside : is_in_block mine.block club ≡ true =
    ap (λ n. is_in_block (record { first = first; count = n }) club) (sym c.len-count.ensures)
    ∙ sym c.is_within.ensures ∙ c.if-is_within.true in
    let within : club < first + length sheet.clubs = grind (arith, nat_tests, inside) in
    let answer : (nat_le c.in_ok-place.place direct_places
    || (c.in_ok-place.place == direct_places + 1
    && nat_lt (count_by (has_better direct_places lots mine own)
    (other_groups mine (states_of cup finishes))) cup.quota))
    ≡ qualifies_at cup finishes lots club =
    ap (λ n. nat_le n direct_places || (n == direct_places + 1
    && nat_lt (count_by (has_better direct_places lots mine own)
    (other_groups mine (states_of cup finishes))) cup.quota)) c.in_ok-place.ensures
    ∙ answered_here (qualifies_in direct_places cup.quota lots (states_of cup finishes)) club first
    k cup.groups finishes sheet season (qualifies_at cup finishes lots club) next within inside
    c.loop-group.invariant.0 in
    subst (λ (b : Bool). IfOk c.is_through.result (λ it. it ≡ b)) answer
    (c.is_through.ensures mine own c.contender_of-contender.ensures)

pub loop-group-preserved : goal.loop-group-preserved
loop-group-preserved c =
    let cup = c.args.cup.now in
    let finishes = c.args.finishes.now in
    let club = c.args.club in
    let sheet = c.index-groups-group.result in
    let season = c.index-finishes-group.result in
    let k = c.loop-group.group in
    let first = c.loop-group.first in
    let count = c.len-count.result in
    let next = next_of_cup c.args.cup.now c.loop-group.first c.loop-group.group
    c.as_slice-groups.result.now c.args.finishes.now c.index-groups-group.result
    c.index-finishes-group.result c.requires.cup c.requires.finishes c.as_slice-groups.ensures
    (omega (arith, c.loop-group-test.true)) c.index-groups-group.is c.index-finishes-group.is in
    let outside : is_in_block (record { first = first; count = count }) club ≡ false =
    sym c.is_within.ensures ∙ c.if-is_within.false in
    let apart : is_in_block (group_state first sheet season).block club ≡ false =
    ap (λ n. is_in_block (record { first = first; count = n }) club) (sym c.len-count.ensures)
    ∙ outside in
    let from : first ≤ club = c.loop-group.invariant.2 in (
      answered_later
          (qualifies_in direct_places cup.quota c.args.lots.now (states_of cup finishes)) club
          first count k cup.groups finishes sheet season
          (qualifies_at cup finishes c.args.lots.now club) next c.len-count.ensures apart
          c.loop-group.invariant.0,
      omega (arith, next.clubs, c.loop-group.invariant.1, c.len-count.ensures),
      grind (arith, nat_tests, outside, from),
    )
