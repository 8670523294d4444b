use Rattle.std.proofs.Common.{◌≡◌, ◌∙◌, List, length, ap, arith, slice_index_or}
use Rattle.std.proofs.lemmas.Option.{slice_get_within}
use Rattle.league_core.specs.declared.sheet.Sheet.{Sheet}
use Rattle.runners_up.proofs.AnyEndLemmas.{seasons_count, each_league}
use Rattle.runners_up.proofs.SideByPlaceLemmas.{own_group, own_inside}
use Rattle.cup_sides.proofs.CupSideLemmas.{key_of_own}
use Rattle.cup_sides.proofs.by_key.key_of_seat.Goals as goal

pub bounds-seasons-group : goal.bounds-seasons-group
bounds-seasons-group c =
    omega (
      arith,
      slice_get_within c.args.cup.now.groups c.args.seat.now.group c.requires.seat.sheet
          c.requires.seat.there,
      seasons_count c.args.cup.now.groups c.args.seasons.now c.requires.seasons,
    )

pub bounds-as_slice-group : goal.bounds-as_slice-group
bounds-as_slice-group c =
    omega (
      arith,
      slice_get_within c.args.cup.now.groups c.args.seat.now.group c.requires.seat.sheet
          c.requires.seat.there,
      ap length c.as_slice.ensures,
    )

pub turning_key-requires-clause-league : goal.turning_key-requires-clause-league
turning_key-requires-clause-league c =
    let groups = c.args.cup.now.groups in
    let sheet = c.index-as_slice-group.result in
    let is : sheet ≡ slice_index_or groups c.args.seat.now.group sheet =
    c.index-as_slice-group.is ∙ ap (λ (all : List Sheet). slice_index_or all
    c.args.seat.now.group sheet) c.as_slice.ensures in
    each_league c.requires.cup.groups.0 c.requires.cup.groups.1 groups c.args.seasons.now
    c.args.seat.now.group sheet c.index-seasons-group.result c.requires.cup.groups.2
    c.requires.seasons
    (slice_get_within groups c.args.seat.now.group c.requires.seat.sheet c.requires.seat.there) is
    c.index-seasons-group.is

pub turning_key-requires-clause-in_range : goal.turning_key-requires-clause-in_range
turning_key-requires-clause-in_range c =
    let sheet = c.index-as_slice-group.result in
    let season = c.index-seasons-group.result in
    let is : sheet ≡ slice_index_or c.args.cup.now.groups c.args.seat.now.group sheet =
    c.index-as_slice-group.is ∙ ap (λ (all : List Sheet). slice_index_or all
    c.args.seat.now.group sheet) c.as_slice.ensures in
    own_inside c.args.cup.now c.args.seasons.now c.args.seat.now sheet season c.requires.seat
    (own_group c.args.cup.now c.args.seasons.now c.args.seat.now sheet season c.requires.seat
    (seasons_count c.args.cup.now.groups c.args.seasons.now c.requires.seasons) is
    c.index-seasons-group.is)

pub returns : goal.returns
returns c =
    let sheet = c.index-as_slice-group.result in
    let season = c.index-seasons-group.result in
    let is : sheet ≡ slice_index_or c.args.cup.now.groups c.args.seat.now.group sheet =
    c.index-as_slice-group.is ∙ ap (λ (all : List Sheet). slice_index_or all
    c.args.seat.now.group sheet) c.as_slice.ensures in
    key_of_own c.args.cup.now c.args.seasons.now c.args.seat.now c.args.claim sheet season
    (own_group c.args.cup.now c.args.seasons.now c.args.seat.now sheet season c.requires.seat
    (seasons_count c.args.cup.now.groups c.args.seasons.now c.requires.seasons) is
    c.index-seasons-group.is) c.turning_key.result c.turning_key.ensures
