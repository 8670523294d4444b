-- The outcomes of the cell at a fixture's number are those of its options.
use Rattle.std.proofs.Common.{◌<◌, [], length, get_or, subst, sym, ap, ◌∙◌, arith}
use Rattle.league_core.specs.search.Options.{options_in}
use Rattle.score_box.specs.inside.Cells.{allows, IsCellOf, IsExactCell}
use Rattle.score_box.specs.inside.Boxes.{AreCellsOf}
use Rattle.score_box.specs.inside.ZoneBoxViews.{ZoneBoxView}
use Rattle.score_box.proofs.BoxLemmas.{cells_of_season}
use Rattle.score_box.proofs.LeftLemmas.{left_among, same_left}
use Rattle.score_box.proofs.zone_box.ZoneBox.outcomes_left.Goals as goal

pub index-requires : goal.index-requires
index-requires c =
    let now = c.args.self.now in
    let cells = c.self.inside.cells.items in
    let Have : ZoneBoxView → Type 0 = λ v. AreCellsOf cells (options_in v.sheet v.season v.zone) in
    let are = subst Have c.self.view_is c.self.invariant.options in
    omega (arith, cells_of_season now.sheet now.season now.zone cells are, c.self.inside.cells.ok.0)

pub left-requires : goal.left-requires
left-requires c =
    let now = c.args.self.now in
    let cells = c.self.inside.cells.items in
    let Have : ZoneBoxView → Type 0 = λ v. AreCellsOf cells (options_in v.sheet v.season v.zone) in
    let are : AreCellsOf cells (options_in now.sheet now.season
    now.zone) = subst Have c.self.view_is c.self.invariant.options in
    let within : c.args.fixture < length cells = omega
    (arith, cells_of_season now.sheet now.season now.zone cells are) in
    subst IsExactCell (sym c.index.ensures) (are.exact c.args.fixture c.index.result.now within)

pub returns-clause-among : goal.returns-clause-among
returns-clause-among c =
    let now = c.args.self.now in
    let cells = c.self.inside.cells.items in
    let Have : ZoneBoxView → Type 0 = λ v. AreCellsOf cells (options_in v.sheet v.season v.zone) in
    let are : AreCellsOf cells (options_in now.sheet now.season
    now.zone) = subst Have c.self.view_is c.self.invariant.options in
    let within : c.args.fixture < length cells = omega
    (arith, cells_of_season now.sheet now.season now.zone cells are) in
    let options = get_or (options_in now.sheet now.season now.zone) c.args.fixture [] in
    let is : IsCellOf c.index.result.now options = λ score. ap (λ cell. allows cell score)
    c.index.ensures ∙ are.each c.args.fixture c.index.result.now within score in
    left_among c.index.result.now options c.left.result is c.left.ensures

pub returns-clause-of_cell : goal.returns-clause-of_cell
returns-clause-of_cell c cell other_is =
    let now = c.args.self.now in
    let cells = c.self.inside.cells.items in
    let Have : ZoneBoxView → Type 0 = λ v. AreCellsOf cells (options_in v.sheet v.season v.zone) in
    let are : AreCellsOf cells (options_in now.sheet now.season
    now.zone) = subst Have c.self.view_is c.self.invariant.options in
    let within : c.args.fixture < length cells = omega
    (arith, cells_of_season now.sheet now.season now.zone cells are) in
    let options = get_or (options_in now.sheet now.season now.zone) c.args.fixture [] in
    let is : IsCellOf c.index.result.now options = λ score. ap (λ cell. allows cell score)
    c.index.ensures ∙ are.each c.args.fixture c.index.result.now within score in
    same_left c.index.result.now cell c.left.result
    (λ score. is score ∙ sym (other_is score)) c.left.ensures
