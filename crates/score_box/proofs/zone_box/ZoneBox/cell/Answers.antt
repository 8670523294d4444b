-- The cell at a fixture's number is the one of its options.
use Rattle.std.proofs.Common.{◌<◌, length, subst, ap, ◌∙◌, arith}
use Rattle.league_core.specs.search.Options.{options_in}
use Rattle.score_box.specs.inside.Cells.{allows}
use Rattle.score_box.specs.inside.Boxes.{AreCellsOf}
use Rattle.score_box.specs.inside.ZoneBoxViews.{ZoneBoxView}
use Rattle.score_box.proofs.BoxLemmas.{cells_of_season}
use Rattle.score_box.proofs.zone_box.ZoneBox.cell.Goals as goal

pub index-requires : goal.index-requires
index-requires c =
    let now = c.args.self.now in
    let cells = c.self.inside.cells.items in
    let Have : ZoneBoxView → Type 0 = λ v. AreCellsOf cells (options_in v.sheet v.season v.zone) in
    let are = subst Have c.self.view_is c.self.invariant.options in
    omega (arith, cells_of_season now.sheet now.season now.zone cells are, c.self.inside.cells.ok.0)

pub returns : goal.returns
returns c =
    let now = c.args.self.now in
    let cells = c.self.inside.cells.items in
    let Have : ZoneBoxView → Type 0 = λ v. AreCellsOf cells (options_in v.sheet v.season v.zone) in
    let are : AreCellsOf cells (options_in now.sheet now.season
    now.zone) = subst Have c.self.view_is c.self.invariant.options in
    let within : c.args.fixture < length cells = omega
    (arith, cells_of_season now.sheet now.season now.zone cells are) in
    λ score. ap (λ cell. allows cell score) c.index.ensures
    ∙ are.each c.args.fixture c.index.result.now within score
