use Rattle.std.proofs.Common.{◌≡◌, ◌<◌, List, length, sym, ap, ◌∙◌, arith, slice_index_or}
use Rattle.league_core.specs.declared.sheet.Sheet.{Sheet}
use Rattle.league_core.proofs.plain.Slots.{found_at}
use Rattle.cup_groups.specs.GroupStarts.{clubs_before}
use Rattle.cup_groups.proofs.StartLemmas.{clubs_before-start, clubs_before-next}
use Rattle.cup_groups.proofs.StartLemmas.{clubs_before-all}
use Rattle.cup_groups.proofs.seat.seat_of.Goals as goal

pub loop-group-init : goal.loop-group-init
loop-group-init c = (sym (clubs_before-start c.args.cup.now.groups), omega arith)

pub loop-group-preserved : goal.loop-group-preserved
loop-group-preserved c =
    let groups = c.args.cup.now.groups in
    let number = c.loop-group.group in
    let group = c.index-groups-group.result in
    let inside : number < length groups =
    omega (arith, c.loop-group-test.true, ap length c.as_slice-groups.ensures) in
    let is : group ≡ slice_index_or groups number group = c.index-groups-group.is
    ∙ ap (λ (all : List Sheet). slice_index_or all number group) c.as_slice-groups.ensures in
    let count : c.clubs_in-count.result ≡ length (slice_index_or groups number group).clubs =
    c.clubs_in-count.ensures ∙ ap (λ (it : Sheet). length it.clubs) is in
    let next = clubs_before-next groups number group inside in (
      omega (arith, c.loop-group.invariant.0, count, next),
      omega (arith, c.if-club-first.false, c.loop-group.invariant.1),
    )

pub returns-then-club-first-clause-found : goal.returns-then-club-first-clause-found
returns-then-club-first-clause-found c =
    let groups = c.args.cup.now.groups in
    let number = c.loop-group.group in
    let group = c.index-groups-group.result in
    let inside : number < length groups =
    omega (arith, c.loop-group-test.true, ap length c.as_slice-groups.ensures) in
    let is : group ≡ slice_index_or groups number group = c.index-groups-group.is
    ∙ ap (λ (all : List Sheet). slice_index_or all number group) c.as_slice-groups.ensures in
    record {
      seat_in = record {
        sheet = group;
        there = found_at groups number group inside is;
        first = c.loop-group.invariant.0;
        count = c.clubs_in-count.ensures;
        inside = c.if-club-first.true;
      };
      number = omega (arith, c.loop-group.invariant.1);
    }

pub returns-clause-absent : goal.returns-clause-absent
returns-clause-absent c =
    let groups = c.args.cup.now.groups in
    let last : c.loop-group.group ≡ length groups =
    omega (
      arith,
      c.loop-group-test.false,
      c.loop-group.auto.group-end,
      ap length c.as_slice-groups.ensures,
    ) in
    λ none. omega (
      arith,
      c.loop-group.invariant.0,
      c.loop-group.invariant.1,
      ap (clubs_before groups) last,
      clubs_before-all groups,
    )
