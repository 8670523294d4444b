-- The literal is of the sheet, so it is of one of the cells or marks a club; and the cells, the
-- ends and the marks take it.
use Rattle.std.proofs.Common.{◌≡◌, true, List, [], ◌∷◌, ◌++◌, length, get_or, drop, subst, refl}
use Rattle.std.proofs.Common.{sym, ap, ◌∙◌, arith}
use Rattle.league_core.specs.declared.sheet.Fixture.{Fixture}
use Rattle.league_core.specs.declared.zone.Literal.{Literal}
use Rattle.league_core.specs.search.Zones.{is_test_of}
use Rattle.league_core.specs.search.Options.{options_in}
use Rattle.score_box.specs.declared.cell.Cell.{Cell}
use Rattle.score_box.specs.inside.ZoneBoxViews.{ZoneBoxView}
use Rattle.score_box.specs.inside.Ends.{HasEndsOfCells, IsMatch}
use Rattle.std.specs.List.{All}
use Rattle.score_box.specs.declared.trail.Undo.{Undo}
use Rattle.score_box.specs.inside.PlayedViews.{IsBoxOf, IsUndoOf, TakesOneMore}
use Rattle.score_box.proofs.BoxLemmas.{cells_of_season, test_below}
use Rattle.score_box.proofs.EndLemmas.{matches_of}
use Rattle.score_box.proofs.TrailLemmas.{cell_before}
use Rattle.score_box.proofs.PathLemmas.{box_with}
use Rattle.score_box.proofs.zone_box.ZoneBox.cut.Goals as goal
use Rattle.league_core.proofs.plain.Parts.{take-front}

pub take_one-requires : goal.take_one-requires
take_one-requires c =
    let box = c.self.inside in
    let is : is_test_of box.sheet.now c.args.literal.test ≡ true =
    ap (λ (s : ZoneBoxView). is_test_of s.sheet c.args.literal.test) c.self.view_is ∙ c.requires in
    let fixtures : c.as_slice-fixtures.result.now ≡ box.sheet.now.fixtures =
    c.as_slice-fixtures.ensures in
    let many : length box.sheet.now.fixtures ≡ length c.deref_mut.result.now =
    sym c.self.invariant.league.of_sheet.scores
    ∙ sym (cells_of_season box.sheet.now box.season.now box.zone.items box.cells.items
    c.self.invariant.options)
    ∙ sym (ap length c.deref_mut.ensures.value) in
    let Matches : List Fixture → Type 0 = λ fs. All IsMatch fs in
    let Over_fixtures : List Fixture → Type 0 = λ fs. HasEndsOfCells fs c.deref_mut.result.now
    box.ends in
    let Over_cells : List Cell → Type 0 = λ cs. HasEndsOfCells box.sheet.now.fixtures cs box.ends in
    record {
      in_range = test_below box.sheet.now (length c.deref_mut.result.now) c.args.literal.test many
          (omega (arith, c.self.invariant.league.limits.most_clubs)) is;
      many = ap length fixtures ∙ many;
      few = omega (arith, ap length fixtures, c.self.invariant.league.limits.most_fixtures);
      matches = subst Matches (sym fixtures) (matches_of box.sheet.now
          c.self.invariant.league.limits);
      ends = subst Over_fixtures (sym fixtures) (subst Over_cells (sym c.deref_mut.ensures.value) (
        options_in box.sheet.now box.season.now box.zone.items,
        c.self.invariant.options,
        c.self.invariant.ends_are,
      ));
    }

pub cell_on-requires : goal.cell_on-requires
cell_on-requires c =
    let box = c.self.inside in
    let is : is_test_of box.sheet.now c.args.literal.test ≡ true =
    ap (λ (s : ZoneBoxView). is_test_of s.sheet c.args.literal.test) c.self.view_is ∙ c.requires in
    let many : length box.sheet.now.fixtures ≡ length c.deref.result.now =
    sym c.self.invariant.league.of_sheet.scores
    ∙ sym (cells_of_season box.sheet.now box.season.now box.zone.items box.cells.items
    c.self.invariant.options)
    ∙ sym (ap length c.deref.ensures.value) in
    test_below box.sheet.now (length c.deref.result.now) c.args.literal.test many
    (omega (arith, c.self.invariant.league.limits.most_clubs)) is

pub with-self-inside-requires : goal.with-self-inside-requires
with-self-inside-requires c =
    let box = c.self.inside in
    let is : is_test_of box.sheet.now c.args.literal.test ≡ true =
    ap (λ (s : ZoneBoxView). is_test_of s.sheet c.args.literal.test) c.self.view_is
    ∙ c.requires in (
      length box.sheet.now.fixtures,
      test_below box.sheet.now (length box.sheet.now.fixtures) c.args.literal.test refl
          (omega (arith, c.self.invariant.league.limits.most_clubs)) is,
    )

pub invariant_of-self-2 : goal.invariant_of-self-2
invariant_of-self-2 c =
    let box = c.self.inside in
    let literal = c.args.literal in
    let is : is_test_of box.sheet.now literal.test ≡ true =
    ap (λ (s : ZoneBoxView). is_test_of s.sheet literal.test) c.self.view_is ∙ c.requires in
    let numbers = box.open_matches.numbers.items in
    let sides = box.open_matches.sides.items in
    let new = c.take_one.new.cells in
    let ends = c.take_one.new.ends in
    let before = c.with-self-inside.result.before in
    let after = c.with-self-inside.result.after in
    let many : length new ≡ box.cells.len = omega (
      arith,
      c.take_one.auto.cells,
      ap length c.deref_mut.ensures.value,
      box.cells.ok.0,
    ) in
    let all = take-front box.cells.len new (drop (length new) box.cells.items) many in
    let Over_fixtures : List Fixture → Type 0 = λ fs. TakesOneMore fs c.deref_mut.result.now new
    box.ends ends literal in
    let Over_cells : List Cell → Type 0 = λ cs. TakesOneMore box.sheet.now.fixtures cs new
    box.ends ends literal in
    let takes = subst Over_cells c.deref_mut.ensures.value
    (subst Over_fixtures c.as_slice-fixtures.ensures c.take_one.ensures) in
    let more = takes box.sheet.now.goal_limit box.zone.items box.season.now.scores
    c.self.invariant.options c.self.invariant.ends_are in
    let undo : Undo = record { cell = c.cell_on.result; marks = box.marks } in
    let below = test_below box.sheet.now (length box.cells.items) literal.test
    (sym c.self.invariant.league.of_sheet.scores
    ∙ sym (cells_of_season box.sheet.now box.season.now box.zone.items box.cells.items
    c.self.invariant.options))
    (omega (arith, c.self.invariant.league.limits.most_clubs)) is in
    let stood : IsUndoOf box.sheet.now.goal_limit box.season.now.scores box.zone.items literal undo
    = record {
      cell = λ number on. cell_before box.sheet.now.goal_limit box.zone.items
          box.season.now.scores box.cells.items literal c.cell_on.result
          c.self.invariant.options below
          (λ n d is_on_it. c.cell_on.ensures n d is_on_it
          ∙ ap (λ (cs : List Cell). get_or cs n d) c.deref.ensures.value) number on;
      before = c.self.invariant.marks_before;
      after = c.self.invariant.marks_after;
    } in
    let With_cells : List Cell → Type 0 = λ cells. IsBoxOf (record {
      sheet = box.sheet.now;
      season = box.season.now;
      zone = c.push_both.new.zone.items;
    }) c.push_both.new.trail.items numbers sides cells before after ends
    box.tables.clubs.items box.tables.pairs.items in
    let With_zone : List Literal → Type 0 = λ zone. IsBoxOf (record {
      sheet = box.sheet.now;
      season = box.season.now;
      zone = zone;
    }) c.push_both.new.trail.items numbers sides new before after ends
    box.tables.clubs.items box.tables.pairs.items in
    let With_trail : List Undo → Type 0 = λ trail. IsBoxOf (record {
      sheet = box.sheet.now;
      season = box.season.now;
      zone = box.zone.items ++ literal ∷ [];
    }) trail numbers sides new before after ends
    box.tables.clubs.items box.tables.pairs.items in
    subst With_cells (sym all)
    (subst With_zone (sym c.in_ok-push_both.ensures.zone)
    (subst With_trail (sym c.in_ok-push_both.ensures.trail)
    (box_with box.sheet.now box.season.now box.zone.items literal box.trail.items undo
    numbers sides box.cells.items new box.marks.before box.marks.after before after box.ends
    ends box.tables.clubs.items box.tables.pairs.items c.self.invariant is stood more.0 more.1
    c.with-self-inside.ensures.before c.with-self-inside.ensures.after)))
