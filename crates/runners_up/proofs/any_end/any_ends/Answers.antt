use Rattle.std.proofs.Common.{◌≡◌, ◌<◌, ◌≤◌, ◌+◌, ◌∙◌, List, length, take, sym, ap, arith}
use Rattle.std.proofs.Common.{slice_index_or, subst}
use Rattle.league_core.specs.declared.sheet.Sheet.{Sheet}
use Rattle.league_core.specs.game.Results.{Results}
use Rattle.tree_arena.specs.declared.example.Example.{Example}
use Rattle.runners_up.specs.inside.JointEnds.{AreGroupEnds}
use Rattle.runners_up.proofs.AnyEndLemmas.{group_ends-next, take_whole, seasons_count, each_league}
use Rattle.runners_up.proofs.any_end.any_ends.Goals as goal

pub bounds-seasons-group : goal.bounds-seasons-group
bounds-seasons-group c =
    omega (
      arith,
      c.loop-group-test.true,
      ap length c.as_slice-groups.ensures,
      seasons_count c.args.cup.now.groups c.args.seasons.now c.requires.seasons,
    )

pub any_end-requires : goal.any_end-requires
any_end-requires c =
    let groups = c.args.cup.now.groups in
    let k = c.loop-group.group in
    let sheet = c.index-groups-group.result in
    let inside : k < length groups =
    omega (arith, c.loop-group-test.true, ap length c.as_slice-groups.ensures) in
    let is : sheet ≡ slice_index_or groups k sheet = c.index-groups-group.is
    ∙ ap (λ (all : List Sheet). slice_index_or all k sheet) c.as_slice-groups.ensures in
    each_league c.requires.cup.groups.0 c.requires.cup.groups.1 groups c.args.seasons.now k sheet
    c.index-seasons-group.result c.requires.cup.groups.2 c.requires.seasons inside is
    c.index-seasons-group.is

pub loop-group-preserved : goal.loop-group-preserved
loop-group-preserved c =
    let groups = c.args.cup.now.groups in
    let k = c.loop-group.group in
    let sheet = c.index-groups-group.result in
    let inside : k < length groups =
    omega (arith, c.loop-group-test.true, ap length c.as_slice-groups.ensures) in
    let is : sheet ≡ slice_index_or groups k sheet = c.index-groups-group.is
    ∙ ap (λ (all : List Sheet). slice_index_or all k sheet) c.as_slice-groups.ensures in
    let many = seasons_count groups c.args.seasons.now c.requires.seasons in
    subst (λ (ends : List Example). AreGroupEnds (take (k + 1) groups)
    (take (k + 1) c.args.seasons.now) ends) (sym c.in_ok-push.ensures.items)
    (group_ends-next groups c.args.seasons.now c.loop-group.ends.items k sheet
    c.index-seasons-group.result c.in_ok-any_end.field-0 inside (omega (arith, inside, many)) is
    c.index-seasons-group.is c.loop-group.invariant c.in_ok-any_end.ensures)

pub returns : goal.returns
returns c =
    let groups = c.args.cup.now.groups in
    let seasons = c.args.seasons.now in
    let k = c.loop-group.group in
    let all : length groups ≤ k =
    omega (arith, c.loop-group-test.false, ap length c.as_slice-groups.ensures) in
    let many = seasons_count groups seasons c.requires.seasons in
    subst (λ (it : List Results). AreGroupEnds groups it c.loop-group.ends.items)
    (take_whole seasons k (omega (arith, all, many)))
    (subst (λ (it : List Sheet). AreGroupEnds it (take k seasons) c.loop-group.ends.items)
    (take_whole groups k all) c.loop-group.invariant)
