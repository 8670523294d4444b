use Rattle.std.proofs.Common.{◌≡◌, ◌+◌, ◌-◌, ◌∙◌, List, length, ap, arith, sym, slice_index_or}
use Rattle.league_core.specs.declared.sheet.Sheet.{Sheet}
use Rattle.cup_sheet.specs.Cups.{clubs_together}
use Rattle.cup_groups.proofs.StartLemmas.{count_of_last, few_in_all}
use Rattle.cup_groups.proofs.start.club_count.Goals as goal

-- the clubs of the last group, with those before it
counted : (c : goal.After-struct_known-1)
    → c.group_start.result.club + c.len.result ≡ clubs_together c.args.cup.now.groups
counted c =
    let cup = c.args.cup.now in
    let last = length c.as_slice-groups.result.now - 1 in
    let same : length c.as_slice-groups.result.now ≡ length cup.groups =
    ap length c.as_slice-groups.ensures in
    let next : last + 1 ≡ length cup.groups = omega (arith, same, c.requires.least_groups) in
    let there = c.index-groups-last.is
    ∙ ap (λ (all : List Sheet). slice_index_or all last c.index-groups-last.result)
    c.as_slice-groups.ensures in
    let many = count_of_last cup last c.group_start.result c.index-groups-last.result next
    c.group_start.ensures there in
    let count : c.len.result ≡ length c.index-groups-last.result.clubs =
    c.len.ensures ∙ ap (λ (it : Sheet). length it.clubs) (sym c.index-groups-last.is) in
    omega (arith, many, count)

pub overflow_add-result : goal.overflow_add-result
overflow_add-result c = omega (arith, counted c, few_in_all c.args.cup.now c.requires)

pub returns : goal.returns
returns c = counted c
