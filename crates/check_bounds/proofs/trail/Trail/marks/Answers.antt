-- The sets are the marks of the zone.
use Rattle.std.proofs.Common.{subst}
use Rattle.check_bounds.specs.inside.Trails.{TrailView, AreMarks}
use Rattle.check_bounds.proofs.TrailLemmas.{of_trail}
use Rattle.check_bounds.proofs.trail.Trail.marks.Goals as goal

pub returns : goal.returns
returns c =
    let way = c.self.inside in
    let cells = way.cells in
    let here = of_trail cells.sheet way.season.now cells.scopes way.marks way.steps.items
    c.self.invariant in
    let Of : TrailView → Type 0 = λ place. AreMarks way.marks place.zone in
    subst Of c.self.view_is here.rivals
