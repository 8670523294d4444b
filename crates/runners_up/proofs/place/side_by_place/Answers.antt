use Rattle.std.proofs.Common.{◌≡◌, ◌∙◌, List, length, ap, arith, slice_index_or, subst}
use Rattle.std.proofs.lemmas.Option.{slice_get_within}
use Rattle.league_core.specs.declared.sheet.Sheet.{Sheet}
use Rattle.tree_arena.specs.declared.example.Example.{Example}
use Rattle.depth_search.specs.declared.kind.SearchEnd.{SearchEnd}
use Rattle.cup_sheet.specs.declared.question.GroupReason.{GroupReason}
use Rattle.cup_sheet.specs.GroupQuestions.{GroupQuestion}
use Rattle.group_search.specs.inside.GroupLooks.{IsGroupExampleOf}
use Rattle.group_search.specs.inside.GroupTasks.{IsGroupSolved, IsGroupRefutedBy, IsGroupSpentOn}
use Rattle.cup_groups.specs.inside.KindQuestions.{group_question_of}
use Rattle.runners_up.proofs.AnyEndLemmas.{seasons_count, each_league}
use Rattle.runners_up.proofs.SideByPlaceLemmas.{own_group, own_inside}
use Rattle.runners_up.proofs.place.side_by_place.Goals as goal

pub bounds-seasons-group : goal.bounds-seasons-group
bounds-seasons-group c =
    omega (
      arith,
      slice_get_within c.args.cup.now.groups c.args.seat.now.group c.requires.seat.sheet
          c.requires.seat.there,
      seasons_count c.args.cup.now.groups c.args.seasons.now c.requires.seasons,
    )

pub bounds-as_slice-group : goal.bounds-as_slice-group
bounds-as_slice-group c =
    omega (
      arith,
      slice_get_within c.args.cup.now.groups c.args.seat.now.group c.requires.seat.sheet
          c.requires.seat.there,
      ap length c.as_slice.ensures,
    )

pub solve_group-requires-clause-league : goal.solve_group-requires-clause-league
solve_group-requires-clause-league c =
    let groups = c.args.cup.now.groups in
    let sheet = c.index-as_slice-group.result in
    let is : sheet ≡ slice_index_or groups c.args.seat.now.group sheet =
    c.index-as_slice-group.is ∙ ap (λ (all : List Sheet). slice_index_or all
    c.args.seat.now.group sheet) c.as_slice.ensures in
    each_league c.requires.cup.groups.0 c.requires.cup.groups.1 groups c.args.seasons.now
    c.args.seat.now.group sheet c.index-seasons-group.result c.requires.cup.groups.2
    c.requires.seasons
    (slice_get_within groups c.args.seat.now.group c.requires.seat.sheet c.requires.seat.there) is
    c.index-seasons-group.is

pub solve_group-requires-clause-in_range : goal.solve_group-requires-clause-in_range
solve_group-requires-clause-in_range c =
    let sheet = c.index-as_slice-group.result in
    let season = c.index-seasons-group.result in
    let is : sheet ≡ slice_index_or c.args.cup.now.groups c.args.seat.now.group sheet =
    c.index-as_slice-group.is ∙ ap (λ (all : List Sheet). slice_index_or all
    c.args.seat.now.group sheet) c.as_slice.ensures in
    let own = own_group c.args.cup.now c.args.seasons.now c.args.seat.now sheet season
    c.requires.seat (seasons_count c.args.cup.now.groups c.args.seasons.now c.requires.seasons) is
    c.index-seasons-group.is in
    let inside = own_inside c.args.cup.now c.args.seasons.now c.args.seat.now sheet season
    c.requires.seat own in
    omega (arith, inside, c.place_question-question.ensures.club)

pub joint_by_place-requires-clause-own : goal.joint_by_place-requires-clause-own
joint_by_place-requires-clause-own c =
    let sheet = c.index-as_slice-group.result in
    let season = c.index-seasons-group.result in
    let is : sheet ≡ slice_index_or c.args.cup.now.groups c.args.seat.now.group sheet =
    c.index-as_slice-group.is ∙ ap (λ (all : List Sheet). slice_index_or all
    c.args.seat.now.group sheet) c.as_slice.ensures in
    let own = own_group c.args.cup.now c.args.seasons.now c.args.seat.now sheet season
    c.requires.seat (seasons_count c.args.cup.now.groups c.args.seasons.now c.requires.seasons) is
    c.index-seasons-group.is in
    let asked = c.place_question-question.result in
    let P : SearchEnd Example GroupReason → Type 0 =
    IsGroupSolved sheet season (group_question_of asked) sheet.budget in (
      sheet,
      season,
      own,
      subst (λ (it : GroupQuestion). IsGroupExampleOf sheet season it c.in-Won.end)
          c.place_question-question.ensures.value (subst P c.in-Won.is c.in_ok-end.ensures),
    )

pub returns-in-Refuted : goal.returns-in-Refuted
returns-in-Refuted c =
    let sheet = c.index-as_slice-group.result in
    let season = c.index-seasons-group.result in
    let is : sheet ≡ slice_index_or c.args.cup.now.groups c.args.seat.now.group sheet =
    c.index-as_slice-group.is ∙ ap (λ (all : List Sheet). slice_index_or all
    c.args.seat.now.group sheet) c.as_slice.ensures in
    let own = own_group c.args.cup.now c.args.seasons.now c.args.seat.now sheet season
    c.requires.seat (seasons_count c.args.cup.now.groups c.args.seasons.now c.requires.seasons) is
    c.index-seasons-group.is in
    let asked = c.place_question-question.result in
    let P : SearchEnd Example GroupReason → Type 0 =
    IsGroupSolved sheet season (group_question_of asked) sheet.budget in (
      sheet,
      season,
      own,
      subst (λ (it : GroupQuestion). IsGroupRefutedBy sheet season it sheet.budget
          c.in-Refuted.nodes.items) c.place_question-question.ensures.value
          (subst P c.in-Refuted.is c.in_ok-end.ensures),
    )

pub returns-in-Spent : goal.returns-in-Spent
returns-in-Spent c =
    let sheet = c.index-as_slice-group.result in
    let season = c.index-seasons-group.result in
    let is : sheet ≡ slice_index_or c.args.cup.now.groups c.args.seat.now.group sheet =
    c.index-as_slice-group.is ∙ ap (λ (all : List Sheet). slice_index_or all
    c.args.seat.now.group sheet) c.as_slice.ensures in
    let own = own_group c.args.cup.now c.args.seasons.now c.args.seat.now sheet season
    c.requires.seat (seasons_count c.args.cup.now.groups c.args.seasons.now c.requires.seasons) is
    c.index-seasons-group.is in
    let asked = c.place_question-question.result in
    let P : SearchEnd Example GroupReason → Type 0 =
    IsGroupSolved sheet season (group_question_of asked) sheet.budget in (
      sheet,
      season,
      own,
      c.place_question-question.ensures.value,
      subst (λ (it : GroupQuestion). IsGroupSpentOn sheet season it sheet.budget
          c.in-Spent.nodes.items) c.place_question-question.ensures.value
          (subst P c.in-Spent.is c.in_ok-end.ensures),
    )
