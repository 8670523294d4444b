-- A cell that is not empty has a score, and its scores are the fixture's options.
use Rattle.std.proofs.Common.{◌≡◌, ◌<◌, true, length, refl, subst, sym, ap, ◌∙◌, arith, Option}
use Rattle.std.proofs.Common.{Some, None, MatchOption}
use Rattle.std.specs.Option.{IsSome}
use Rattle.league_core.specs.declared.season.Score.{Score}
use Rattle.league_core.specs.search.Options.{options_in}
use Rattle.score_box.specs.declared.cell.Cell.{Cell}
use Rattle.score_box.specs.inside.Cells.{allows, IsEmptyCell}
use Rattle.score_box.specs.inside.Boxes.{AreCellsOf}
use Rattle.score_box.specs.inside.ZoneBoxViews.{ZoneBoxView}
use Rattle.score_box.proofs.BoxLemmas.{cells_of_season, some_in_each}
use Rattle.score_box.proofs.zone_box.ZoneBox.pick.Goals as goal

pub index-requires : goal.index-requires
index-requires c =
    let now = c.args.self.now in
    let cells = c.self.inside.cells.items in
    let Have : ZoneBoxView → Type 0 = λ v. AreCellsOf cells (options_in v.sheet v.season v.zone) in
    let are = subst Have c.self.view_is c.self.invariant.options in
    omega (arith, cells_of_season now.sheet now.season now.zone cells are, c.self.inside.cells.ok.0)

some_first : (cell : Cell) (first : Option Score) → ¬ IsEmptyCell cell
    → MatchOption first (IsEmptyCell cell) (λ score. allows cell score ≡ true) → IsSome first
some_first cell None some says = absurd (some says)
some_first cell (Some score) some says = refl

pub unwrap-requires : goal.unwrap-requires
unwrap-requires c =
    let now = c.args.self.now in
    let cells = c.self.inside.cells.items in
    let Have : ZoneBoxView → Type 0 = λ v. AreCellsOf cells (options_in v.sheet v.season v.zone) in
    let are : AreCellsOf cells (options_in now.sheet now.season
    now.zone) = subst Have c.self.view_is c.self.invariant.options in
    let within : c.args.fixture < length cells = omega
    (arith, cells_of_season now.sheet now.season now.zone cells are) in
    let Some_in : Cell → Type 0 = λ cell. ¬ IsEmptyCell cell in
    some_first c.index.result.now c.first.result
    (subst Some_in (sym c.index.ensures)
    (some_in_each now.sheet now.season now.zone cells are c.requires.has_finish c.args.fixture
    c.index.result.now within))
    c.first.ensures

pub returns : goal.returns
returns c =
    let now = c.args.self.now in
    let cells = c.self.inside.cells.items in
    let Have : ZoneBoxView → Type 0 = λ v. AreCellsOf cells (options_in v.sheet v.season v.zone) in
    let are : AreCellsOf cells (options_in now.sheet now.season
    now.zone) = subst Have c.self.view_is c.self.invariant.options in
    let within : c.args.fixture < length cells = omega
    (arith, cells_of_season now.sheet now.season now.zone cells are) in
    let Says : Option Score → Type 0 = λ first. MatchOption first (IsEmptyCell c.index.result.now)
    (λ score. allows c.index.result.now score ≡ true) in
    let allowed : allows c.index.result.now c.unwrap.result
    ≡ true = subst Says c.unwrap.ensures c.first.ensures in
    sym (are.each c.args.fixture c.index.result.now within c.unwrap.result)
    ∙ ap (λ cell. allows cell c.unwrap.result) (sym c.index.ensures)
    ∙ allowed
