use Rattle.league_core.specs.game.ClubSets.{clubs_in}
use Rattle.league_core.proofs.plain.Filters.{any-is}
use Rattle.near_bound.specs.inside.AbleRivals.{lacks_fit}
use Rattle.near_bound.proofs.LevelLemmas.{apart_list}
use Rattle.near_bound.proofs.level.Level.has_apart.Goals as goal

pub returns : goal.returns
returns c = λ zone is own.
    let level = c.args.self.now in
    any-is c.is_empty.result (lacks_fit level.tie zone level.club) (clubs_in c.args.held)
    (clubs_in c.intersection.result)
    (apart_list level.tie level.rivals level.apart c.args.held c.intersection.result level.club zone
    c.requires.level.apart c.requires.among c.intersection.ensures is own)
    c.is_empty.ensures.0 c.is_empty.ensures.1
