-- What the way keeps is said of its season.
use Rattle.std.proofs.Common.{ap, subst}
use Rattle.league_core.specs.game.Seasons.{IsLeague}
use Rattle.check_bounds.specs.inside.Trails.{TrailView}
use Rattle.check_bounds.proofs.trail.Trail.season.Goals as goal

pub returns : goal.returns
returns c =
    let Of : TrailView → Type 0 = λ place. IsLeague place.sheet place.season in record {
      value = ap (λ (place : TrailView). place.season) c.self.view_is;
      league = subst Of c.self.view_is c.self.invariant.league;
    }
