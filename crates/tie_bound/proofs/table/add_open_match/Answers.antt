-- A match that is not played is one of the sheet, and has one outcome.
use Rattle.std.proofs.Common.{◌≢◌, ◌<◌, List, ℕ, [], length, get_or, subst, sym, ap, arith}
use Rattle.league_core.specs.declared.sheet.Fixture.{Fixture}
use Rattle.league_core.specs.game.Sums.{worth_to}
use Rattle.league_core.specs.search.Options.{has_one_outcome}
use Rattle.league_core.specs.search.PointRanges.{range_of}
use Rattle.league_core.proofs.FixtureLemmas.{fixture_of_sheet}
use Rattle.league_core.proofs.plain.Lists.{list_all-at}
use Rattle.tie_criteria.specs.inside.Measures.{worth_of}
use Rattle.score_box.proofs.OutcomeLemmas.{one_outcome_of}
use Rattle.score_box.proofs.SplitLemmas.{no_match, open_fixture}
use Rattle.tie_bound.specs.inside.Sums.{sums_at, RangesGrowBy}
use Rattle.tie_bound.specs.inside.Boxes.{options_in_box}
use Rattle.tie_bound.proofs.BoxLemmas.{length-options}
use Rattle.tie_bound.proofs.table.add_open_match.Goals as goal

pub bounds-fixtures_of-number : goal.bounds-fixtures_of-number
bounds-fixtures_of-number c =
    let low = open_fixture c.args.zone_box.now.season.scores c.unplayed.result.now c.args.place 0
    c.unplayed.ensures (omega (arith, c.requires.in_range, ap length c.unplayed.ensures)) in
    omega (arith, low, c.fixtures_of.ensures.many)

pub cell-requires : goal.cell-requires
cell-requires c =
    open_fixture c.args.zone_box.now.season.scores c.unplayed.result.now c.args.place 0
    c.unplayed.ensures (omega (arith, c.requires.in_range, ap length c.unplayed.ensures))

pub add-requires-clause-one : goal.add-requires-clause-one
add-requires-clause-one c =
    let box = c.args.zone_box.now in
    let options = options_in_box box in
    let number = get_or c.unplayed.result.now c.args.place 0 in
    let low = open_fixture box.season.scores c.unplayed.result.now c.args.place 0
    c.unplayed.ensures (omega (arith, c.requires.in_range, ap length c.unplayed.ensures)) in
    one_outcome_of c.cell.result.now (get_or options number []) c.cell.ensures
    (list_all-at has_one_outcome options number [] (omega (arith, low, length-options box))
    c.requires.outcomes)

pub add-requires-clause-different : goal.add-requires-clause-different
add-requires-clause-different c =
    let box = c.args.zone_box.now in
    let number = get_or c.unplayed.result.now c.args.place 0 in
    let low = open_fixture box.season.scores c.unplayed.result.now c.args.place 0
    c.unplayed.ensures (omega (arith, c.requires.in_range, ap length c.unplayed.ensures)) in
    let in_sheet : number < length box.sheet.fixtures = omega (
      arith,
      low,
      c.fixtures_of.ensures.many,
      ap length c.fixtures_of.ensures.fixtures,
    ) in
    let Apart : List Fixture → Type 0 = λ ms. (get_or ms number no_match).home
    ≢ (get_or ms number no_match).away in
    subst Apart (sym c.fixtures_of.ensures.fixtures)
    (fixture_of_sheet box.sheet number no_match c.fixtures_of.ensures.limits in_sheet).2

pub returns : goal.returns
returns c club =
    let box = c.args.zone_box.now in
    let options = options_in_box box in
    let read = c.unplayed.result.now in
    let old = sums_at c.args.table.now club in
    let new = sums_at c.add.new.table club in
    let OfFixtures : List Fixture → Type 0 = λ ms. RangesGrowBy
    (λ measure. range_of
    (worth_to (worth_of measure) club (get_or ms (get_or read c.args.place 0) no_match))
    (get_or options (get_or read c.args.place 0) [])) old new in
    let OfNumbers : List ℕ → Type 0 = λ ns. RangesGrowBy
    (λ measure. range_of
    (worth_to (worth_of measure) club
    (get_or box.sheet.fixtures (get_or ns c.args.place 0) no_match))
    (get_or options (get_or ns c.args.place 0) [])) old new in
    subst OfNumbers c.unplayed.ensures (subst OfFixtures c.fixtures_of.ensures.fixtures
    (c.add.ensures (get_or options (get_or read c.args.place 0) []) c.cell.ensures club))
