-- What stood before the last literal stands there again.
use Rattle.std.proofs.Common.{◌≡◌, List, [], ◌∷◌, ◌++◌, length, drop, Option, Some, subst, sym, ap}
use Rattle.std.proofs.Common.{◌∙◌, arith}
use Rattle.std.specs.List.{All}
use Rattle.std.specs.Prelude.{option_to_list}
use Rattle.league_core.specs.declared.sheet.Fixture.{Fixture}
use Rattle.league_core.specs.declared.zone.Literal.{Literal}
use Rattle.league_core.specs.search.Zones.{is_zone_of}
use Rattle.score_box.specs.declared.cell.Cell.{Cell}
use Rattle.score_box.specs.declared.trail.Undo.{Undo}
use Rattle.score_box.specs.inside.Ends.{IsMatch}
use Rattle.score_box.specs.inside.PlayedViews.{IsBoxOf, IsTrailOf, TakesOneLess}
use Rattle.score_box.proofs.BoxLemmas.{cells_of_season, test_below}
use Rattle.score_box.proofs.EndLemmas.{matches_of}
use Rattle.score_box.proofs.TrailLemmas.{trail_less}
use Rattle.score_box.proofs.PathLemmas.{box_without, zone_without}
use Rattle.score_box.proofs.zone_box.ZoneBox.uncut.Goals as goal
use Rattle.league_core.proofs.plain.Parts.{take-front}

-- an item that was popped stood at the end
popped : {X : Type 0} (old new : List X) (taken : Option X) (item : X)
    → old ≡ new ++ option_to_list taken → taken ≡ Some item → old ≡ new ++ item ∷ []
popped old new taken item items some = items ∙ ap (λ t. new ++ option_to_list t) some

pub give_back-requires-clause-in_range : goal.give_back-requires-clause-in_range
give_back-requires-clause-in_range c =
    let box = c.self.inside in
    let literal = c.unwrap-literal.result in
    let zone_is = popped box.zone.items c.pop.new.self.items c.pop.result literal
    c.pop.ensures.items c.unwrap-literal.ensures in
    let is = (zone_without box.sheet.now c.pop.new.self.items literal
    (sym (ap (is_zone_of box.sheet.now) zone_is) ∙ c.self.invariant.of_zone)).1 in
    let many : length box.sheet.now.fixtures ≡ length c.deref_mut.result.now =
    sym c.self.invariant.league.of_sheet.scores
    ∙ sym (cells_of_season box.sheet.now box.season.now box.zone.items box.cells.items
    c.self.invariant.options)
    ∙ sym (ap length c.deref_mut.ensures.value) in
    test_below box.sheet.now (length c.deref_mut.result.now) literal.test many
    (omega (arith, c.self.invariant.league.limits.most_clubs)) is

pub give_back-requires-clause-many : goal.give_back-requires-clause-many
give_back-requires-clause-many c =
    let box = c.self.inside in
    ap length c.as_slice-fixtures.ensures
    ∙ sym c.self.invariant.league.of_sheet.scores
    ∙ sym (cells_of_season box.sheet.now box.season.now box.zone.items box.cells.items
    c.self.invariant.options)
    ∙ sym (ap length c.deref_mut.ensures.value)

pub give_back-requires-clause-matches : goal.give_back-requires-clause-matches
give_back-requires-clause-matches c =
    let Matches : List Fixture → Type 0 = λ fs. All IsMatch fs in
    subst Matches (sym c.as_slice-fixtures.ensures)
    (matches_of c.self.inside.sheet.now c.self.invariant.league.limits)

pub give_back-requires-clause-exact : goal.give_back-requires-clause-exact
give_back-requires-clause-exact c number on =
    let box = c.self.inside in
    let sheet = box.sheet.now in
    let season = box.season.now in
    let zone = c.pop.new.self.items in
    let trail = c.pop-2.new.self.items in
    let literal = c.unwrap-literal.result in
    let undo = c.unwrap-undo.result in
    let zone_is = popped box.zone.items zone c.pop.result literal c.pop.ensures.items
    c.unwrap-literal.ensures in
    let trail_is = popped box.trail.items trail c.pop-2.result undo c.pop-2.ensures.items
    c.unwrap-undo.ensures in
    let Of_zone : List Literal → Type 0 = λ z. IsTrailOf sheet.goal_limit season.scores z
    box.trail.items in
    let Of_trail : List Undo → Type 0 = λ t. IsTrailOf sheet.goal_limit season.scores
    (zone ++ literal ∷ []) t in
    let is = subst Of_trail trail_is (subst Of_zone zone_is c.self.invariant.trail_is) in
    ((trail_less sheet.goal_limit season.scores zone trail literal undo is).1.cell number on).1

pub invariant_of-self : goal.invariant_of-self
invariant_of-self c =
    let box = c.self.inside in
    let sheet = box.sheet.now in
    let season = box.season.now in
    let numbers = box.open_matches.numbers.items in
    let sides = box.open_matches.sides.items in
    let zone = c.pop.new.self.items in
    let trail = c.pop-2.new.self.items in
    let literal = c.unwrap-literal.result in
    let undo = c.unwrap-undo.result in
    let new = c.give_back.new.cells in
    let ends = c.give_back.new.ends in
    let zone_is = popped box.zone.items zone c.pop.result literal c.pop.ensures.items
    c.unwrap-literal.ensures in
    let trail_is = popped box.trail.items trail c.pop-2.result undo c.pop-2.ensures.items
    c.unwrap-undo.ensures in
    let Box_of_zone : List Literal → Type 0 = λ z. IsBoxOf
    (record { sheet = sheet; season = season; zone = z }) box.trail.items numbers sides
    box.cells.items box.marks.before box.marks.after box.ends box.tables.clubs.items
    box.tables.pairs.items in
    let Box_of_trail : List Undo → Type 0 = λ t. IsBoxOf
    (record { sheet = sheet; season = season; zone = zone ++ literal ∷ [] }) t numbers sides
    box.cells.items box.marks.before box.marks.after box.ends box.tables.clubs.items
    box.tables.pairs.items in
    let is = subst Box_of_trail trail_is (subst Box_of_zone zone_is c.self.invariant) in
    let stood = (trail_less sheet.goal_limit season.scores zone trail literal undo is.trail_is).1 in
    let Over_fixtures : List Fixture → Type 0 = λ fs. TakesOneLess fs c.deref_mut.result.now new
    box.ends ends literal undo.cell in
    let Over_cells : List Cell → Type 0 = λ cs. TakesOneLess sheet.fixtures cs new box.ends ends
    literal undo.cell in
    let takes = subst Over_cells c.deref_mut.ensures.value
    (subst Over_fixtures c.as_slice-fixtures.ensures c.give_back.ensures) in
    let less = takes sheet.goal_limit zone season.scores stood.cell is.options is.ends_are in
    let many : length new ≡ box.cells.len = omega (
      arith,
      c.give_back.auto.cells,
      ap length c.deref_mut.ensures.value,
      box.cells.ok.0,
    ) in
    let all = take-front box.cells.len new (drop (length new) box.cells.items) many in
    let With_cells : List Cell → Type 0 = λ cells. IsBoxOf
    (record { sheet = sheet; season = season; zone = zone }) trail numbers sides cells
    undo.marks.before undo.marks.after ends box.tables.clubs.items box.tables.pairs.items in
    subst With_cells (sym all)
    (box_without sheet season zone literal trail undo numbers sides box.cells.items new
    box.marks.before box.marks.after box.ends ends box.tables.clubs.items box.tables.pairs.items is
    less.0 less.1)
