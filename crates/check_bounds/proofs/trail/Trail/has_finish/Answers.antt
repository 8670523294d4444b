-- The cells of the way have scores where the options of its zone have.
use Rattle.std.proofs.Common.{◌≡◌, subst, ◌∙◌}
use Rattle.league_core.specs.search.Options.{has_finish, options_in}
use Rattle.check_bounds.specs.inside.Trails.{TrailView, zone_of}
use Rattle.check_bounds.proofs.TrailLemmas.{of_trail}
use Rattle.check_bounds.proofs.CellLemmas.{fit_zone}
use Rattle.check_bounds.proofs.MeaningLemmas.{has_finish-is}
use Rattle.check_bounds.proofs.trail.Trail.has_finish.Goals as goal

pub returns : goal.returns
returns c =
    let way = c.self.inside in
    let cells = way.cells in
    let zone = zone_of way.steps.items in
    let here = of_trail cells.sheet way.season.now cells.scopes way.marks way.steps.items
    c.self.invariant in
    let Says : TrailView → Type 0 = λ place. c.have_scores.result
    ≡ has_finish place.sheet place.season place.zone in
    subst Says c.self.view_is
    (c.have_scores.ensures.value
    ∙ has_finish-is cells.sheet way.season.now zone cells.corners
    (fit_zone cells.scopes cells.corners (options_in cells.sheet way.season.now zone)
    c.have_scores.ensures.fit here.fixtures))
