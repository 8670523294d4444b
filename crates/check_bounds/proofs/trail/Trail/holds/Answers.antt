-- What the cells and the marks of the way say of its zone.
use Rattle.std.proofs.Common.{◌≡◌, subst, ◌∙◌}
use Rattle.league_core.specs.search.Options.{options_in}
use Rattle.league_core.specs.search.Reasons.{has_reason}
use Rattle.check_bounds.specs.inside.Trails.{TrailView, zone_of}
use Rattle.check_bounds.proofs.TrailLemmas.{of_trail, reason_of}
use Rattle.check_bounds.proofs.CellLemmas.{fit_zone}
use Rattle.check_bounds.proofs.trail.Trail.holds.Goals as goal

pub returns : goal.returns
returns c =
    let way = c.self.inside in
    let cells = way.cells in
    let zone = zone_of way.steps.items in
    let question = c.args.question.now in
    let here = of_trail cells.sheet way.season.now cells.scopes way.marks way.steps.items
    c.self.invariant in
    let Says : TrailView → Type 0 = λ place. c.holds_over.result
    ≡ has_reason place.sheet place.season question place.zone c.args.reason in
    subst Says c.self.view_is
    (c.holds_over.ensures.value
    ∙ reason_of cells.sheet way.season.now question zone cells.corners way.marks c.args.reason
    (fit_zone cells.scopes cells.corners (options_in cells.sheet way.season.now zone)
    c.holds_over.ensures.fit here.fixtures)
    here.rivals)
