-- What the cells of the way leave is what its zone leaves.
use Rattle.std.proofs.Common.{◌<◌, length, subst, sym}
use Rattle.league_core.specs.search.Options.{options_in}
use Rattle.club_keys.specs.inside.KeyEnds.{AreKeyEnds}
use Rattle.check_bounds.specs.inside.Trails.{TrailView, zone_of}
use Rattle.check_bounds.proofs.TrailLemmas.{of_trail}
use Rattle.check_bounds.proofs.CellLemmas.{fit_zone}
use Rattle.check_bounds.proofs.KeyLemmas.{key_ends_are}
use Rattle.check_bounds.proofs.trail.Trail.key_ends.Goals as goal

pub ends_over-requires : goal.ends_over-requires
ends_over-requires c =
    let Of : TrailView → Type 0 = λ place. c.args.club < length place.sheet.clubs in
    subst Of (sym c.self.view_is) c.requires

pub returns : goal.returns
returns c =
    let way = c.self.inside in
    let cells = way.cells in
    let zone = zone_of way.steps.items in
    let here = of_trail cells.sheet way.season.now cells.scopes way.marks way.steps.items
    c.self.invariant in
    let Says : TrailView → Type 0 = λ place. AreKeyEnds place.sheet place.season place.zone
    c.args.club c.ends_over.result in
    subst Says c.self.view_is
    (key_ends_are cells.sheet way.season.now zone cells.corners c.args.club c.ends_over.result
    (fit_zone cells.scopes cells.corners (options_in cells.sheet way.season.now zone)
    c.ends_over.ensures.fit here.fixtures)
    c.ends_over.ensures.ends)
