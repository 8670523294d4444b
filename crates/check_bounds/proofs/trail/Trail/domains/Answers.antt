-- The domains of the cells are those of the zone.
use Rattle.std.proofs.Common.{List, subst, sym}
use Rattle.league_core.specs.search.Options.{options_in}
use Rattle.check_bounds.specs.declared.score_domain.ScoreDomain.{ScoreDomain}
use Rattle.check_bounds.specs.inside.Zones.{AreScoreDomainsOf}
use Rattle.check_bounds.specs.inside.Trails.{TrailView, zone_of}
use Rattle.check_bounds.proofs.TrailLemmas.{of_trail}
use Rattle.check_bounds.proofs.trail.Trail.domains.Goals as goal

pub returns : goal.returns
returns c =
    let way = c.self.inside in
    let cells = way.cells in
    let here = of_trail cells.sheet way.season.now cells.scopes way.marks way.steps.items
    c.self.invariant in
    let Of : TrailView → Type 0 = λ place. AreScoreDomainsOf cells.scopes
    (options_in place.sheet place.season place.zone) in
    let Are : List ScoreDomain → Type 0 = λ scopes. AreScoreDomainsOf scopes
    (options_in c.args.self.now.sheet c.args.self.now.season c.args.self.now.zone) in
    subst Are (sym c.domains.ensures) (subst Of c.self.view_is here.fixtures)
