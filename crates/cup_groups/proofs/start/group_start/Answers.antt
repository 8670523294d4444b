use Rattle.std.proofs.Common.{◌≡◌, ◌<◌, List, length, ap, ◌∙◌, arith, slice_index_or}
use Rattle.league_core.specs.declared.sheet.Sheet.{Sheet}
use Rattle.cup_groups.specs.declared.start.GroupStart.{GroupStart}
use Rattle.cup_groups.specs.GroupStarts.{start_after}
use Rattle.cup_groups.proofs.StartLemmas.{start_of_first, start_of_next, start_room}
use Rattle.cup_groups.proofs.start.group_start.Goals as goal

pub loop-group-init : goal.loop-group-init
loop-group-init c = start_of_first c.args.cup.now.groups

pub after-start-requires-clause-clubs : goal.after-start-requires-clause-clubs
after-start-requires-clause-clubs c =
    let groups = c.args.cup.now.groups in
    let number = c.loop-group.group in
    let group = c.index-groups-group.result in
    let inside : number < length groups =
    omega (arith, c.loop-group-test.true, c.requires.number) in
    let is : group ≡ slice_index_or groups number group = c.index-groups-group.is
    ∙ ap (λ (all : List Sheet). slice_index_or all number group) c.as_slice-groups.ensures in
    (start_room c.args.cup.now number c.loop-group.start group c.requires.cup inside
    c.loop-group.invariant is).0

pub after-start-requires-clause-fixtures : goal.after-start-requires-clause-fixtures
after-start-requires-clause-fixtures c =
    let groups = c.args.cup.now.groups in
    let number = c.loop-group.group in
    let group = c.index-groups-group.result in
    let inside : number < length groups =
    omega (arith, c.loop-group-test.true, c.requires.number) in
    let is : group ≡ slice_index_or groups number group = c.index-groups-group.is
    ∙ ap (λ (all : List Sheet). slice_index_or all number group) c.as_slice-groups.ensures in
    (start_room c.args.cup.now number c.loop-group.start group c.requires.cup inside
    c.loop-group.invariant is).1

pub loop-group-preserved : goal.loop-group-preserved
loop-group-preserved c =
    let groups = c.args.cup.now.groups in
    let number = c.loop-group.group in
    let group = c.index-groups-group.result in
    let inside : number < length groups =
    omega (arith, c.loop-group-test.true, c.requires.number) in
    let is : group ≡ slice_index_or groups number group = c.index-groups-group.is
    ∙ ap (λ (all : List Sheet). slice_index_or all number group) c.as_slice-groups.ensures in
    c.after-start.ensures ∙ ap (λ (s : GroupStart). start_after s group) c.loop-group.invariant
    ∙ start_of_next groups number group inside is
