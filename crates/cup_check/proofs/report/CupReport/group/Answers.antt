-- The group of a number, out of the lists that the report has.
use Rattle.std.proofs.Common.{◌≡◌, ◌∙◌, List, Some, ap, arith, length, slice_index_or, subst}
use Rattle.std.proofs.Common.{sym}
use Rattle.std.specs.Prelude.{slice_get}
use Rattle.league_core.specs.declared.sheet.Sheet.{Sheet}
use Rattle.cup_grammar.specs.PlacedGroups.{CupBasis, PlacedGroup, placed_groups}
use Rattle.cup_check.specs.inside.CupGoes.{CupReportView}
use Rattle.cup_check.proofs.PlaceLemmas.{length-seasons, placed_at, placed_is}
use Rattle.cup_check.proofs.report.CupReport.group.Goals as goal

pub bounds-self-inside-number : goal.bounds-self-inside-number
bounds-self-inside-number c =
    let inside = ap (λ (it : CupReportView). length it.basis.cup.groups) c.self.view_is in
    omega (
      arith,
      c.requires,
      inside,
      length-seasons c.self.inside.cup.now.groups c.self.inside.seasons.now
          c.self.invariant.of_groups,
    )

pub invariant_of-result : goal.invariant_of-result
invariant_of-result c =
    let groups = c.self.inside.cup.now.groups in
    let sheet = c.index-as_slice-number.result in
    let season =
    slice_index_or c.self.inside.seasons.now c.args.number c.index-self-number.result in
    let many = ap (λ (it : CupReportView). length it.basis.cup.groups) c.self.view_is in
    placed_is c.self.inside.cup.now c.self.inside.seasons.now c.args.number
    (record { start = c.group_start.result; sheet = sheet; season = season })
    c.self.invariant.is_cup c.self.invariant.of_groups (omega (arith, c.requires, many))
    c.group_start.ensures
    (c.index-as_slice-number.is
    ∙ ap (λ (all : List Sheet). slice_index_or all c.args.number sheet) c.as_slice.ensures)
    (ap (slice_index_or c.self.inside.seasons.now c.args.number) c.index-self-number.is)

pub returns : goal.returns
returns c =
    let groups = c.self.inside.cup.now.groups in
    let number = c.args.number in
    let sheet = c.index-as_slice-number.result in
    let season =
    slice_index_or c.self.inside.seasons.now c.args.number c.index-self-number.result in
    let many = ap (λ (it : CupReportView). length it.basis.cup.groups) c.self.view_is in
    let basis : CupBasis = record {
      cup = c.self.inside.cup.now;
      seasons = c.self.inside.seasons.now;
      epoch = c.self.inside.epoch;
    } in
    let there : sheet ≡ slice_index_or groups number sheet = c.index-as_slice-number.is
    ∙ ap (λ (all : List Sheet). slice_index_or all number sheet) c.as_slice.ensures in
    let start = c.group_start.ensures in
    let mine : PlacedGroup = record {
      start = c.group_start.result;
      sheet = sheet;
      season = season;
    } in
    let P : CupReportView → Type 0 =
    λ it. slice_get (placed_groups it.basis) number ≡ Some mine in
    subst P c.self.view_is
    (placed_at basis number sheet c.index-self-number.result (omega (arith, c.requires, many))
    c.self.invariant.of_groups
    ∙ (λ i. Some (record {
      start = sym start i;
      sheet = sym there i;
      season = season;
    })))
